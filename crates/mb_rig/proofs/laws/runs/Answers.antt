use Rattle.mb_rig.proofs.Merging.CourseNext.{course-next}
use Rattle.mb_rig.proofs.Merging.CourseSteps.{course-begins, course-renews, course-stalls, course-starts}
use Rattle.mb_rig.proofs.Merging.CourseTakes.{course-takes}
use Rattle.mb_rig.proofs.laws.runs.Goals as goal

pub returns-clause-starts : goal.returns-clause-starts
returns-clause-starts c = course-starts

pub returns-clause-begins : goal.returns-clause-begins
returns-clause-begins c = course-begins

pub returns-clause-takes : goal.returns-clause-takes
returns-clause-takes c = course-takes

pub returns-clause-passes : goal.returns-clause-passes
returns-clause-passes c = course-next

pub returns-clause-renews : goal.returns-clause-renews
returns-clause-renews c = course-renews

pub returns-clause-stalls : goal.returns-clause-stalls
returns-clause-stalls c = course-stalls
