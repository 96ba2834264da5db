use Rattle.std.proofs.Common.{◌≡◌, ◌<◌, ℕ, length, Some, false}
use Rattle.std.specs.Prelude.{slice_get, slice_index_or}
use Rattle.mb_rig.specs.Running.{turn_at}
use Rattle.mb_rig.specs.declared.feed.Feed.{Feed}
use Rattle.mb_rig.proofs.steps.turns_of.Given as goal

abbrev pub invariant-links : goal.invariant-links
invariant-links l = record {
  many : length l.turns.items ≡ l.at;
  each : (x : ℕ) (f : Feed) → x < l.at → slice_get l.fn.feeds x ≡ Some f →
      slice_get l.turns.items x ≡ Some (turn_at (slice_index_or l.fn.stalled x false) f.record);
}
