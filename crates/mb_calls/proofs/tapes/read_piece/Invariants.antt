use Rattle.std.proofs.Common.{◌≡◌, ◌+◌, ◌*◌, length}
use Rattle.mb_frames.specs.TapeReading.{tape_owed}
use Rattle.mb_calls.proofs.tapes.read_piece.Given as goal

abbrev pub decreases-parts : goal.decreases-parts
decreases-parts l = 2 * length l.rest + tape_owed l.tape
