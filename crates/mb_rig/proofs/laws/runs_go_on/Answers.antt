use Rattle.mb_rig.proofs.Merging.CourseKnows.{course-progress, course-room}
use Rattle.mb_rig.proofs.Merging.Offers.{owners-present}
use Rattle.mb_rig.proofs.laws.runs_go_on.Goals as goal

pub returns-clause-owners : goal.returns-clause-owners
returns-clause-owners c = owners-present

pub returns-clause-progress : goal.returns-clause-progress
returns-clause-progress c = course-progress

pub returns-clause-room : goal.returns-clause-room
returns-clause-room c = course-room
