use Rattle.std.proofs.Common.{◌<◌, length, arith, ap}
use Rattle.mb_rig.specs.Supply.{SupplyValue}
use Rattle.mb_rig.proofs.SupplyLemmas.{range_drawn}
use Rattle.mb_rig.proofs.supply.Supply.read_on.Goals as goal

pub returns-in-Ok-clause-drew : goal.returns-in-Ok-clause-drew
returns-in-Ok-clause-drew g c = λ told.
    let D = g.D.Desk in
    let some : 0 < length c.read.new.buf = omega arith in
    range_drawn _ _ _ _ _ _ _ (ap (λ (v : SupplyValue). v.handle) c.self.view_is) (c.in-Ok.ensures.contents told)
    c.in-Ok.ensures.bound some
