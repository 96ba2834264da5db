use Rattle.mb_rig.proofs.Merging.CourseKnows.{passes-suits}
use Rattle.mb_rig.proofs.Merging.OutsHeard.{course-heard, course-means, course-suits, course-written}
use Rattle.mb_rig.proofs.Merging.PassesTold.{course-moments}
use Rattle.mb_rig.proofs.laws.runs_are_heard.Goals as goal

pub returns-clause-suits : goal.returns-clause-suits
returns-clause-suits c = course-suits

pub returns-clause-next_suits : goal.returns-clause-next_suits
returns-clause-next_suits c = passes-suits

pub returns-clause-heard : goal.returns-clause-heard
returns-clause-heard c = course-heard

pub returns-clause-means : goal.returns-clause-means
returns-clause-means c = course-means

pub returns-clause-moments : goal.returns-clause-moments
returns-clause-moments c = course-moments

pub returns-clause-written : goal.returns-clause-written
returns-clause-written c = course-written
