use Rattle.mb_ble.proofs.TimedMachine as law
use Rattle.mb_ble.proofs.laws.ble_moments_rise.Goals as goal

pub returns-clause-rises : goal.returns-clause-rises
returns-clause-rises c = law.reading-rises

pub returns-clause-last : goal.returns-clause-last
returns-clause-last c = law.reading-last
