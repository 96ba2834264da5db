use Rattle.mb_merge.proofs.NonePasses.{none_passes}
use Rattle.mb_merge.proofs.laws.none_passes.Goals as goal

pub returns : goal.returns
returns c = none_passes
