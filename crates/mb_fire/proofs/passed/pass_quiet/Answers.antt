use Rattle.std.proofs.Common.{◌≡◌, ◌+◌, ◌-◌, List, ℕ, length, take, drop, get_or, sym, subst, arith, rules}
use Rattle.mb_fire.specs.Passed.{PassedOver}
use Rattle.mb_fire.proofs.PassedLemmas.{within, passed-then, quiet-passed, front-four}
use Rattle.mb_fire.proofs.passed.pass_quiet.Goals as goal

pub quadlets-preserved : goal.quadlets-preserved
quadlets-preserved c =
    let xs : List ℕ = c.quadlets.left.now in
    let left : List ℕ = take (length xs - 4) (drop 4 xs) in
    let four : length left + 4 ≡ length xs = search rules in
    let o : ℕ = c.args.packet.now.offset + (length c.args.input.now - length xs) in
    let next : ℕ = c.args.packet.now.offset + (length c.args.input.now - length left) in
    let e = c.args.packet.now.under.expected in
    let more : o + 4 ≡ next = omega (arith, four, c.quadlets.invariant.shorter) in
    let one : PassedOver c.args.own (within o c.quadlets.place e) (within (o + 4) c.in-Some.next e) xs left =
    subst (λ (z : List ℕ). PassedOver c.args.own (within o c.quadlets.place e) (within (o + 4) c.in-Some.next e) z left)
    (sym (front-four xs (omega arith)))
    (quiet-passed c.args.own o c.quadlets.place c.in-Some.next e (get_or xs 0 0) (get_or xs 1 0) (get_or xs 2 0)
    (get_or xs 3 0) left c.in-Some.ensures) in
    record {
      passed = passed-then c.args.own c.args.packet.now (within o c.quadlets.place e) (within next c.in-Some.next e)
          c.args.input.now xs left c.quadlets.invariant.passed
          (subst (λ (i : ℕ). PassedOver c.args.own (within o c.quadlets.place e) (within i c.in-Some.next e) xs left)
          more one);
      shorter = omega (arith, four, c.quadlets.invariant.shorter);
    }
