use Rattle.std.proofs.Common.{length}
use Rattle.mb_rig.proofs.files.+create_outs.Given as goal

abbrev pub decreases-create_outs : goal.decreases-create_outs
decreases-create_outs g l = length l.ports.now
