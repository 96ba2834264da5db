use Rattle.mb_track.proofs.MomentLemmas.{moments-fit}
use Rattle.mb_track.proofs.laws.moments_fit.Goals as goal

pub returns : goal.returns
returns c = moments-fit
