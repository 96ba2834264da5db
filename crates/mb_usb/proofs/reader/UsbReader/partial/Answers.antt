use Rattle.mb_usb.proofs.UsbReaderLaw.{partial-is}
use Rattle.mb_usb.proofs.reader.UsbReader.partial.Goals as goal

pub returns-clause-law : goal.returns-clause-law
returns-clause-law c = partial-is c.args.self.now c.self.inside.packet c.self.inside.dins c.taken.result c.self.view_is
    c.taken.ensures
