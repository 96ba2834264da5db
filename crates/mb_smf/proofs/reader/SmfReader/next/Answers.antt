use Rattle.std.proofs.Common.{rules}
use Rattle.mb_smf.proofs.TakesLemmas.{takes-owed, stands-takes}
use Rattle.mb_smf.proofs.reader.SmfReader.next.Goals as goal

pub returns-in-Some-clause-takes : goal.returns-in-Some-clause-takes
returns-in-Some-clause-takes c =
    takes-owed c.args.self.now c.self.inside.file c.self.inside.owed c.in-Some.byte c.moment.result
    c.args.input.now.now c.self.view_is c.in-Some.is c.moment.ensures

pub returns-in-Some-clause-stands : goal.returns-in-Some-clause-stands
returns-in-Some-clause-stands c =
    λ bytes given s. stands-takes _ _ _ _ _ bytes given s (returns-in-Some-clause-takes c)

pub returns-clause-takes : goal.returns-clause-takes
returns-clause-takes c = search rules

pub returns-clause-stands : goal.returns-clause-stands
returns-clause-stands c = λ bytes given s. stands-takes _ _ _ _ _ bytes given s (returns-clause-takes c)
