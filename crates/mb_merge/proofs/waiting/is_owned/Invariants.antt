use Rattle.std.proofs.Common.{◌≡◌, false}
use Rattle.mb_merge.specs.Links.{is_owned_below}
use Rattle.mb_merge.proofs.waiting.is_owned.Given as goal

abbrev pub invariant-loop-at : goal.invariant-loop-at
invariant-loop-at l = is_owned_below l.sources l.source l.at ≡ false
