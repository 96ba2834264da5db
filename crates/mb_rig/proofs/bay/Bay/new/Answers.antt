use Rattle.std.proofs.Common.{length, ap, arith}
use Rattle.mb_rig.proofs.bay.Bay.new.Goals as goal

pub overflow_cast-links : goal.overflow_cast-links
overflow_cast-links c = omega (arith, ap length c.ins.ensures, c.routes-routes.ensures.right.counts.1)

pub overflow_cast-outs : goal.overflow_cast-outs
overflow_cast-outs c = omega (arith, ap length c.outs.ensures, c.routes-routes.ensures.right.counts.3)
