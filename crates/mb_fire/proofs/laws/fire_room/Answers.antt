use Rattle.mb_fire.proofs.WriterLemmas.{few-fits, event-fits}
use Rattle.mb_fire.proofs.laws.fire_room.Goals as goal

pub returns-clause-few : goal.returns-clause-few
returns-clause-few c = few-fits

pub returns-clause-longest : goal.returns-clause-longest
returns-clause-longest c = event-fits
