use Rattle.std.proofs.Common.{length}
use Rattle.mb_calls.proofs.guard.put_offs.Given as goal

abbrev pub decreases-offs : goal.decreases-offs
decreases-offs l = length l.guard
