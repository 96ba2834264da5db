use Rattle.mb_usb.proofs.OnlyCable.{partial-is}
use Rattle.mb_usb.proofs.cable.CableReader.partial.Goals as goal

pub returns-clause-law : goal.returns-clause-law
returns-clause-law c = partial-is c.args.self.now c.self.inside.cable c.self.inside.packet c.self.inside.din
    c.taken.result c.self.view_is c.taken.ensures
