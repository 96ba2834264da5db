use Rattle.std.proofs.Common.{◌≡◌, ◌+◌, ◌*◌, length}
use Rattle.mb_din.specs.State.{owed}
use Rattle.mb_calls.proofs.din.read_piece.Given as goal

abbrev pub invariant-told : goal.invariant-told
invariant-told l = record {
  ends : l.reader.offset + length l.rest ≡ l.initial.reader.offset + length l.piece;
}

abbrev pub decreases-told : goal.decreases-told
decreases-told l = 2 * length l.rest + owed l.reader
