use Rattle.std.proofs.Common.{◌+◌, ◌<◌, ◌^◌, length}
use Rattle.mb_usb.specs.State.{usb_offset}
use Rattle.mb_calls.proofs.usb_reader.told_in_pieces.Given as goal

abbrev pub invariant-pieces : goal.invariant-pieces
invariant-pieces l = record {
  early : usb_offset l.reader + length l.rest < 2 ^ 63;
}

abbrev pub decreases-pieces : goal.decreases-pieces
decreases-pieces l = length l.rest
