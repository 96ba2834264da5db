use Rattle.mb_rig.proofs.Merging.CalmSteps.{calm-begins, calm-renews, calm-starts, calm-takes}
use Rattle.mb_rig.proofs.laws.calm_runs.Goals as goal

pub returns-clause-starts : goal.returns-clause-starts
returns-clause-starts c = calm-starts

pub returns-clause-begins : goal.returns-clause-begins
returns-clause-begins c = calm-begins

pub returns-clause-takes : goal.returns-clause-takes
returns-clause-takes c = calm-takes

pub returns-clause-renews : goal.returns-clause-renews
returns-clause-renews c = calm-renews

pub returns-clause-orderly : goal.returns-clause-orderly
returns-clause-orderly c = λ s m links greatest play calm. calm.order.exact
