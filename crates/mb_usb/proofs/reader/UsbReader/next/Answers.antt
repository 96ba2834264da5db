use Rattle.mb_ports.specs.Reader.{port_answer}
use Rattle.mb_usb.proofs.UsbReaderLaw.{next-tells, next-all_told}
use Rattle.mb_usb.proofs.reader.UsbReader.next.Goals as goal

pub returns-clause-tells : goal.returns-clause-tells
returns-clause-tells c =
    next-tells c.args.self.now c.self.inside.packet c.read.new.packet c.self.inside.dins c.read.new.dins
    c.args.input.now.now c.read.new.input.now (port_answer c.read.result) c.self.view_is c.read.ensures.tells

pub returns-clause-all_told : goal.returns-clause-all_told
returns-clause-all_told c =
    next-all_told c.args.self.now c.self.inside.packet c.self.inside.dins c.args.input.now.now c.read.result
    c.self.view_is c.read.ensures.all_told
