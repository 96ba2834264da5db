use Rattle.std.proofs.Common.{◌-◌, List, ℕ, length, take, drop, get_or, sym, subst, ◌∙◌, arith}
use Rattle.mb_fire.specs.Passed.{PassedOver}
use Rattle.mb_fire.proofs.PassedLemmas.{quadlet-passed, front-four}
use Rattle.mb_fire.proofs.passed.pass_quadlet.Goals as goal

pub returns-clause-passed : goal.returns-clause-passed
returns-clause-passed c =
    let xs : List ℕ = c.args.input.now in
    let left : List ℕ = take (length xs - 4) (drop 4 xs) in
    subst (λ (z : List ℕ). PassedOver c.args.own c.args.packet.now c.pass_quadlet.new.self z left)
    (sym (front-four xs (omega arith)))
    (quadlet-passed c.args.own c.args.packet.now c.pass_quadlet.new.self c.in-Nothing-Within.place (get_or xs 0 0)
    (get_or xs 1 0) (get_or xs 2 0) (get_or xs 3 0) left
    c.in-Nothing-Within.is-0 c.in-Nothing-Within.is-1 (sym c.is_passed.ensures ∙ c.if-not-is_passed.false)
    c.pass_quadlet.ensures)
