use Rattle.mb_rig.proofs.Merging.CourseEnds.{course-merged, course-stopped}
use Rattle.mb_rig.proofs.laws.runs_merge.Goals as goal

pub returns-clause-merged : goal.returns-clause-merged
returns-clause-merged c = course-merged

pub returns-clause-stopped : goal.returns-clause-stopped
returns-clause-stopped c = course-stopped

pub returns-clause-keeps_up : goal.returns-clause-keeps_up
returns-clause-keeps_up c = λ s m links greatest play course. course.rises
