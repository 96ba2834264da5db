use Rattle.mb_carrier.proofs.ChainMoments.{through-keeps}
use Rattle.mb_carrier.proofs.laws.conversion_keeps_distances.Goals as goal

pub returns : goal.returns
returns c = through-keeps
