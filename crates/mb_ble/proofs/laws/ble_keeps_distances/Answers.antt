use Rattle.mb_ble.proofs.DistanceLemmas as law
use Rattle.mb_ble.proofs.laws.ble_keeps_distances.Goals as goal

pub returns-clause-stamps : goal.returns-clause-stamps
returns-clause-stamps c = law.stamps

pub returns-clause-distances : goal.returns-clause-distances
returns-clause-distances c = law.distances
