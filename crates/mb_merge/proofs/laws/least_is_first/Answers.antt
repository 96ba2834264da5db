use Rattle.mb_merge.proofs.LeastLemmas.{least-IsLeast}
use Rattle.mb_merge.proofs.laws.least_is_first.Goals as goal

pub returns : goal.returns
returns c = least-IsLeast
