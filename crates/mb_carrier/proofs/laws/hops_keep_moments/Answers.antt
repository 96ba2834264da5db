use Rattle.mb_carrier.proofs.HopMoments.{hop-moments}
use Rattle.mb_carrier.proofs.laws.hops_keep_moments.Goals as goal

pub returns : goal.returns
returns c = λ s end puts n is suits valid. hop-moments s n is end puts suits valid
