use Rattle.std.proofs.Common.{◌≡◌, ◌≤◌, ◌+◌, ℕ, List, length, drop, sym, ap, subst}
use Rattle.std.specs.List.{slice_range}
use Rattle.mb_rig.specs.Supply.{SupplyValue, front_of}
use Rattle.mb_rig.specs.contracts.supply.Supply.{the_view}
use Rattle.mb_rig.proofs.SupplyLemmas.{range_passed}
use Rattle.mb_rig.proofs.supply.Supply.pass.Goals as goal

pub returns : goal.returns
returns c =
    let s = c.self.inside in
    let many = c.args.many in
    let with_ahead : List ℕ → SupplyValue = λ xs. record {
      handle = s.handle;
      limit = s.limit;
      count = s.count;
      ahead = xs;
    } in
    let within : many ≤ length (front_of (the_view s)) =
    subst (λ (v : SupplyValue). many ≤ length (front_of v)) (sym c.self.view_is) c.requires in
    subst (λ (v : SupplyValue). with_ahead (slice_range s.buffer (s.at + many) s.end) ≡
    (record v { ahead = drop many v.ahead })) c.self.view_is
    (ap with_ahead (range_passed s.buffer s.at s.end many within))
