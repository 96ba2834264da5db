use Rattle.mb_fire.proofs.OnlyPort.{partial-is}
use Rattle.mb_fire.proofs.port_reader.FirePortReader.partial.Goals as goal

pub returns-clause-law : goal.returns-clause-law
returns-clause-law c = partial-is c.args.self.now c.self.inside.port c.self.inside.packet c.self.inside.din
    c.partial.result c.self.view_is c.partial.ensures
