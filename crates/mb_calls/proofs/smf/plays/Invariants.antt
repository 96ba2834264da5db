use Rattle.std.proofs.Common.{◌≡◌, ◌+◌, ◌≤◌, None, length}
use Rattle.mb_calls.proofs.smf.plays.Given as goal

abbrev pub invariant-pieces : goal.invariant-pieces
invariant-pieces l = record {
  early : l.playing.file.file.offset + length l.rest ≤ 1024;
  rests : l.playing.file.owed ≡ None;
}

abbrev pub decreases-pieces : goal.decreases-pieces
decreases-pieces l = length l.rest
