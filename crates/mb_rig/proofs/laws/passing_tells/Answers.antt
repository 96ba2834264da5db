use Rattle.mb_rig.proofs.Merging.PassesTold.{passes-put, passes-told}
use Rattle.mb_rig.proofs.laws.passing_tells.Goals as goal

pub returns-clause-put : goal.returns-clause-put
returns-clause-put c = passes-put

pub returns-clause-line : goal.returns-clause-line
returns-clause-line c = passes-told
