use Rattle.mb_merge.proofs.OpenLemmas.{fault-is}
use Rattle.mb_merge.proofs.laws.faults.Goals as goal

pub returns : goal.returns
returns c = fault-is
