use Rattle.std.proofs.Common.{◌≤◌, ◌+◌, ◌*◌, length}
use Rattle.mb_smf.specs.SmfReading.{smf_owed}
use Rattle.mb_calls.proofs.smf.read_piece.Given as goal

abbrev pub invariant-parts : goal.invariant-parts
invariant-parts l = record {
  ends : l.file.file.offset + length l.rest ≤ l.initial.file.file.offset + length l.piece;
}

abbrev pub decreases-parts : goal.decreases-parts
decreases-parts l = 2 * length l.rest + smf_owed l.file.owed
