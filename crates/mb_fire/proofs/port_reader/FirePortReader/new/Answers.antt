use Rattle.mb_fire.proofs.OnlyPort.{new-stands}
use Rattle.mb_fire.proofs.port_reader.FirePortReader.new.Goals as goal

pub returns-clause-stands : goal.returns-clause-stands
returns-clause-stands c = new-stands c.args.port c.new.result _ c.new.ensures c.new-2.ensures.stands
