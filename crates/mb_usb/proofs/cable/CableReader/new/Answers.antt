use Rattle.mb_usb.proofs.OnlyCable.{new-stands}
use Rattle.mb_usb.proofs.cable.CableReader.new.Goals as goal

pub returns-clause-stands : goal.returns-clause-stands
returns-clause-stands c = new-stands c.args.cable c.new.result _ c.new.ensures c.new-2.ensures.stands
