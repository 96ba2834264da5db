use Rattle.mb_stream.specs.ReaderLaw.{answer}
use Rattle.mb_fire.proofs.OnlyPort.{finish-told}
use Rattle.mb_fire.proofs.port_reader.FirePortReader.finish.Goals as goal

pub returns-clause-told : goal.returns-clause-told
returns-clause-told c =
    finish-told c.args.self.now c.self.inside.port c.self.inside.packet c.self.inside.din (answer c.finish.result)
    c.self.view_is c.finish.ensures.told
