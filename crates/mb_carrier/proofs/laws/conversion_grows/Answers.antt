use Rattle.mb_carrier.proofs.ConversionLemmas.{laws}
use Rattle.mb_carrier.proofs.GrowLemmas.{live-grows, live-ends}
use Rattle.mb_carrier.proofs.GrowSpecs.{grows}
use Rattle.mb_carrier.proofs.laws.conversion_grows.Goals as goal

pub returns : goal.returns
returns c = record { stays = live-grows laws grows; ends = live-ends laws grows }
