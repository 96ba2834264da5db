use Rattle.mb_merge.specs.Passing.{to_pass}
use Rattle.mb_calls.proofs.merge.merges.Given as goal

abbrev pub decreases-loop-passed : goal.decreases-loop-passed
decreases-loop-passed l = to_pass l.router
