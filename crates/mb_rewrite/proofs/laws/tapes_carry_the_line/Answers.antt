use Rattle.mb_rewrite.proofs.CarriedLemmas.{bytes-carried, clean-carried, line-carried, meaning-carried, no-fault-carried}
use Rattle.mb_rewrite.proofs.CarriedLemmas.{whole-carried}
use Rattle.mb_rewrite.proofs.laws.tapes_carry_the_line.Goals as goal

pub returns-clause-bytes : goal.returns-clause-bytes
returns-clause-bytes c = bytes-carried

pub returns-clause-line : goal.returns-clause-line
returns-clause-line c = line-carried

pub returns-clause-whole : goal.returns-clause-whole
returns-clause-whole c = whole-carried

pub returns-clause-fault : goal.returns-clause-fault
returns-clause-fault c = no-fault-carried

pub returns-clause-means : goal.returns-clause-means
returns-clause-means c = meaning-carried

pub returns-clause-clean : goal.returns-clause-clean
returns-clause-clean c = clean-carried
