use Rattle.mb_merge.proofs.Tracks.{routed, as_many}
use Rattle.mb_merge.proofs.laws.routed.Goals as goal

pub returns-clause-count : goal.returns-clause-count
returns-clause-count c = as_many

pub returns-clause-goes : goal.returns-clause-goes
returns-clause-goes c = routed
