use Rattle.mb_tapes.proofs.PlayedLaw as law
use Rattle.mb_tapes.proofs.laws.files_play_on.Goals as goal

pub returns-clause-stands : goal.returns-clause-stands
returns-clause-stands c = law.stands

pub returns-clause-given : goal.returns-clause-given
returns-clause-given c = law.given

pub returns-clause-whole : goal.returns-clause-whole
returns-clause-whole c = law.whole

pub returns-clause-fault : goal.returns-clause-fault
returns-clause-fault c = law.fault

pub returns-clause-ended : goal.returns-clause-ended
returns-clause-ended c = law.ended

pub returns-clause-rests : goal.returns-clause-rests
returns-clause-rests c = law.rests

pub returns-clause-offset : goal.returns-clause-offset
returns-clause-offset c = law.offset
