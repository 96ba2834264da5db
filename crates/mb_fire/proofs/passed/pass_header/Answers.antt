use Rattle.std.proofs.Common.{◌≡◌, ◌≤◌, ◌+◌, ◌-◌, ◌*◌, List, ℕ, length, take, drop, get_or, sym, subst, ◌∙◌, ap, arith}
use Rattle.std.proofs.Common.{rules}
use Rattle.mb_fire.specs.Passed.{PassedOver, behind_whole_header}
use Rattle.mb_fire.proofs.PassedLemmas.{header, header-passed, front-ten}
use Rattle.mb_fire.proofs.passed.pass_header.Goals as goal

pub returns-clause-passed : goal.returns-clause-passed
returns-clause-passed c port =
    let xs : List ℕ = c.args.input.now in
    let left : List ℕ = take (length xs - 10) (drop 10 xs) in
    let high : c.from.result ≡ get_or xs 0 0 = search rules in
    let low : c.from-2.result ≡ get_or xs 1 0 = search rules in
    let len : 256 * c.from.result + c.from-2.result ≡ 256 * get_or xs 0 0 + get_or xs 1 0 = omega (arith, high, low) in
    let long : 8 ≤ 256 * c.from.result + c.from-2.result = c.if-len-lt8.false in
    subst (λ (z : List ℕ). PassedOver port c.args.packet.now c.pass_header.new.self z left)
    (sym (front-ten xs (omega arith)))
    (header-passed port c.args.packet.now c.pass_header.new.self (get_or xs 0 0) (get_or xs 1 0) (get_or xs 2 0)
    (get_or xs 3 0) (get_or xs 4 0) (get_or xs 5 0) (get_or xs 6 0) (get_or xs 7 0) (get_or xs 8 0)
    (get_or xs 9 0) left
    c.in-Nothing-Between.is-0 c.in-Nothing-Between.is-1 (omega (arith, len, long))
    (c.pass_header.ensures ∙ ap (λ (z : ℕ). behind_whole_header c.args.packet.now
    (header z 7 (get_or xs 2 0) (get_or xs 3 0) (get_or xs 5 0) (get_or xs 6 0) (get_or xs 7 0))) len))
