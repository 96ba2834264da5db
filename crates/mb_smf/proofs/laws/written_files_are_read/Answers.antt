use Rattle.mb_smf.proofs.WrittenLaw.{written-ended, written-read}
use Rattle.mb_smf.proofs.WrittenMeaning.{written-means}
use Rattle.mb_smf.proofs.laws.written_files_are_read.Goals as goal

pub returns-clause-given : goal.returns-clause-given
returns-clause-given c = written-read

pub returns-clause-ended : goal.returns-clause-ended
returns-clause-ended c = written-ended

pub returns-clause-means : goal.returns-clause-means
returns-clause-means c = written-means
