use Rattle.std.proofs.Common.{ℕ, ◌+◌, ◌≤◌, List, length}
use Rattle.mb_rewrite.specs.Filtering.{FilteringStands}
use Rattle.mb_calls.proofs.filtering.feed_all.Given as goal

abbrev pub invariant-pieces : goal.invariant-pieces
invariant-pieces l = record {
  fed : (bytes : List ℕ) × FilteringStands l.filtering bytes × (length bytes + length l.rest ≤ 1024);
}

abbrev pub decreases-pieces : goal.decreases-pieces
decreases-pieces l = length l.rest
