use Rattle.mb_clock.specs.Stamps.{all_bits}
use Rattle.mb_clock.proofs.MomentLemmas.{all_bits-below, moments_from-least, AreMoments-only}
use Rattle.mb_clock.proofs.laws.moments_are_least.Goals as goal

pub returns-clause-least : goal.returns-clause-least
returns-clause-least c = λ ps are. moments_from-least 0 (all_bits ps) (all_bits-below ps are)

pub returns-clause-only : goal.returns-clause-only
returns-clause-only c = λ ps ms are. AreMoments-only 0 (all_bits ps) ms are
