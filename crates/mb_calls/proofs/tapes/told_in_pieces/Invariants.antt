use Rattle.std.proofs.Common.{length}
use Rattle.mb_calls.proofs.tapes.told_in_pieces.Given as goal

abbrev pub decreases-pieces : goal.decreases-pieces
decreases-pieces l = length l.rest
