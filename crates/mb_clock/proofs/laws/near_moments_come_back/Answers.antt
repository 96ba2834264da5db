use Rattle.mb_clock.proofs.MomentLemmas.{near-all}
use Rattle.mb_clock.proofs.laws.near_moments_come_back.Goals as goal

pub returns-clause-all : goal.returns-clause-all
returns-clause-all c = near-all
