use Rattle.mb_stream.specs.ReaderLaw.{answer}
use Rattle.mb_fire.proofs.OnlyPort.{next-tells, next-all_told}
use Rattle.mb_fire.proofs.port_reader.FirePortReader.next.Goals as goal

pub returns-clause-tells : goal.returns-clause-tells
returns-clause-tells c =
    next-tells c.args.self.now c.self.inside.port c.self.inside.packet c.read_port.new.packet c.self.inside.din
    c.read_port.new.din c.args.input.now.now c.read_port.new.input.now (answer c.read_port.result) c.self.view_is
    c.read_port.ensures.tells

pub returns-clause-all_told : goal.returns-clause-all_told
returns-clause-all_told c =
    next-all_told c.args.self.now c.self.inside.port c.self.inside.packet c.self.inside.din c.args.input.now.now
    c.read_port.result c.self.view_is c.read_port.ensures.all_told
