use Rattle.std.proofs.Common.{ℕ, ◌+◌, ◌≤◌, List, length}
use Rattle.mb_tapes.specs.Recording.{RecordingStands}
use Rattle.mb_calls.proofs.recording.feed_all.Given as goal

abbrev pub invariant-pieces : goal.invariant-pieces
invariant-pieces l = record {
  fed : (bytes : List ℕ) × RecordingStands l.recording bytes × (length bytes + length l.rest ≤ 1024);
}

abbrev pub decreases-pieces : goal.decreases-pieces
decreases-pieces l = length l.rest
