use Rattle.std.proofs.Common.{◌+◌, ◌<◌, ◌^◌, length}
use Rattle.mb_calls.proofs.smf.given_in_pieces.Given as goal

abbrev pub invariant-pieces : goal.invariant-pieces
invariant-pieces l = record {
  early : l.file.file.offset + length l.rest < 2 ^ 63;
}

abbrev pub decreases-pieces : goal.decreases-pieces
decreases-pieces l = length l.rest
