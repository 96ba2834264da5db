use Rattle.mb_smf.proofs.TakesLemmas.{takes-nothing, takes-one, takes-two}
use Rattle.mb_smf.proofs.reader.SmfReader.take.Goals as goal

pub returns-in-Nothing-clause-takes : goal.returns-in-Nothing-clause-takes
returns-in-Nothing-clause-takes c =
    takes-nothing c.args.self.now c.self.inside.file c.step.new.self c.self.inside.owed c.args.byte c.self.view_is
    c.requires.nothing
    c.step.ensures.now c.in-Nothing.ensures.given

pub returns-in-One-clause-takes : goal.returns-in-One-clause-takes
returns-in-One-clause-takes c =
    takes-one c.args.self.now c.self.inside.file c.step.new.self c.self.inside.owed c.args.byte c.in-One.given
    c.moment.result c.self.view_is c.requires.nothing
    c.step.ensures.now c.in-One.ensures.given c.moment.ensures

pub returns-in-Two-clause-takes : goal.returns-in-Two-clause-takes
returns-in-Two-clause-takes c =
    takes-two c.args.self.now c.self.inside.file c.step.new.self c.self.inside.owed c.args.byte c.in-Two.status
    c.in-Two.given c.moment-in-Two.result c.self.view_is c.requires.nothing
    c.step.ensures.now c.in-Two.ensures.given c.moment-in-Two.ensures
