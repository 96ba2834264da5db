use Rattle.std.proofs.Common.{◌≡◌, ◌+◌, ◌*◌, length}
use Rattle.mb_carrier.specs.Port.{reader_offset, reader_owed}
use Rattle.mb_vectors.proofs.ports.read_piece.Given as goal

abbrev pub invariant-steps : goal.invariant-steps
invariant-steps l = record {
  ends : reader_offset l.reader + length l.rest ≡ reader_offset l.initial.reader + length l.piece;
  moment : l.reader.moment ≡ l.initial.reader.moment;
}

abbrev pub decreases-steps : goal.decreases-steps
decreases-steps l = 2 * length l.rest + reader_owed l.reader
