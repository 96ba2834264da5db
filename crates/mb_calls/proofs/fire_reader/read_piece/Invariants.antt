use Rattle.std.proofs.Common.{◌≡◌, ◌+◌, ◌*◌, length}
use Rattle.mb_fire.specs.State.{fire_offset, fire_owed}
use Rattle.mb_calls.proofs.fire_reader.read_piece.Given as goal

abbrev pub invariant-told : goal.invariant-told
invariant-told l = record {
  ends : fire_offset l.reader + length l.rest ≡ fire_offset l.initial.reader + length l.piece;
}

abbrev pub decreases-told : goal.decreases-told
decreases-told l = 2 * length l.rest + fire_owed l.reader
