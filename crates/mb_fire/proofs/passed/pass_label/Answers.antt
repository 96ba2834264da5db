use Rattle.std.proofs.Common.{◌-◌, List, ℕ, length, take, drop, get_or, sym, subst, arith}
use Rattle.mb_fire.specs.Passed.{PassedOver}
use Rattle.mb_fire.proofs.PassedLemmas.{label-passed, front-one}
use Rattle.mb_fire.proofs.passed.pass_label.Goals as goal

pub returns-clause-passed : goal.returns-clause-passed
returns-clause-passed c port =
    let xs : List ℕ = c.args.input.now in
    let left : List ℕ = take (length xs - 1) (drop 1 xs) in
    subst (λ (z : List ℕ). PassedOver port c.args.packet.now c.pass_label.new.self z left)
    (sym (front-one xs (omega arith)))
    (label-passed port c.args.packet.now c.pass_label.new.self c.in-Nothing-Within.place
    (get_or xs 0 0) left c.in-Nothing-Within.is-0 c.in-Nothing-Within.is-1 (omega arith)
    (omega arith) c.pass_label.ensures)
