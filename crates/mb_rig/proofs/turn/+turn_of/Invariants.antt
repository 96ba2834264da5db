use Rattle.std.proofs.Common.{length}
use Rattle.mb_rig.proofs.turn.+turn_of.Given as goal

abbrev pub decreases-turn_of : goal.decreases-turn_of
decreases-turn_of l = length l.turns.now
