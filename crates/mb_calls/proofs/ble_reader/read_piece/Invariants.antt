use Rattle.std.proofs.Common.{◌≡◌, ◌+◌, ◌*◌, length}
use Rattle.mb_ble.specs.State.{ble_offset, ble_owed}
use Rattle.mb_calls.proofs.ble_reader.read_piece.Given as goal

abbrev pub invariant-told : goal.invariant-told
invariant-told l = record {
  ends : ble_offset l.reader + length l.rest ≡ ble_offset l.initial.reader + length l.piece;
}

abbrev pub decreases-told : goal.decreases-told
decreases-told l = 2 * length l.rest + ble_owed l.reader
