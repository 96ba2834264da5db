use Rattle.mb_smf.proofs.FileLaw.{file-ended, file-read}
use Rattle.mb_smf.proofs.laws.files_are_read.Goals as goal

pub returns-clause-given : goal.returns-clause-given
returns-clause-given c = file-read

pub returns-clause-ended : goal.returns-clause-ended
returns-clause-ended c = file-ended
