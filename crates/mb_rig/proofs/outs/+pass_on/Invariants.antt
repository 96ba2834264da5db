use Rattle.std.proofs.Common.{length}
use Rattle.mb_rig.proofs.outs.+pass_on.Given as goal

abbrev pub decreases-pass_on : goal.decreases-pass_on
decreases-pass_on g l = length l.outs.now
