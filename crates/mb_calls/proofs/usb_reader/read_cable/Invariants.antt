use Rattle.std.proofs.Common.{◌≡◌, ◌+◌, ◌*◌, length}
use Rattle.mb_usb.specs.State.{cable_offset, cable_owed}
use Rattle.mb_calls.proofs.usb_reader.read_cable.Given as goal

abbrev pub invariant-told : goal.invariant-told
invariant-told l = record {
  ends : cable_offset l.reader + length l.rest ≡ cable_offset l.initial.reader + length l.piece;
}

abbrev pub decreases-told : goal.decreases-told
decreases-told l = 2 * length l.rest + cable_owed l.reader
