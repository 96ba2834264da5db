use Rattle.mb_stream.specs.ReaderLaw.{answer}
use Rattle.mb_usb.proofs.OnlyCable.{next-tells, next-all_told}
use Rattle.mb_usb.proofs.cable.CableReader.next.Goals as goal

pub returns-clause-tells : goal.returns-clause-tells
returns-clause-tells c =
    next-tells c.args.self.now c.self.inside.cable c.self.inside.packet c.read_cable.new.packet c.self.inside.din
    c.read_cable.new.din c.args.input.now.now c.read_cable.new.input.now (answer c.read_cable.result) c.self.view_is
    c.read_cable.ensures.tells

pub returns-clause-all_told : goal.returns-clause-all_told
returns-clause-all_told c =
    next-all_told c.args.self.now c.self.inside.cable c.self.inside.packet c.self.inside.din c.args.input.now.now
    c.read_cable.result c.self.view_is c.read_cable.ensures.all_told
