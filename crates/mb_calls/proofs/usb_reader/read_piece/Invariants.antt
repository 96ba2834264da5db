use Rattle.std.proofs.Common.{◌≡◌, ◌+◌, ◌*◌, length}
use Rattle.mb_usb.specs.State.{usb_offset, usb_owed}
use Rattle.mb_calls.proofs.usb_reader.read_piece.Given as goal

abbrev pub invariant-told : goal.invariant-told
invariant-told l = record {
  ends : usb_offset l.reader + length l.rest ≡ usb_offset l.initial.reader + length l.piece;
}

abbrev pub decreases-told : goal.decreases-told
decreases-told l = 2 * length l.rest + usb_owed l.reader
