use Rattle.mb_rewrite.proofs.CarriedLemmas.{guarded-means, guarded-signs, guarded-silent}
use Rattle.mb_rewrite.proofs.laws.notes_are_ended.Goals as goal

pub returns-clause-marks : goal.returns-clause-marks
returns-clause-marks c = guarded-signs

pub returns-clause-means : goal.returns-clause-means
returns-clause-means c = guarded-means

pub returns-clause-silent : goal.returns-clause-silent
returns-clause-silent c = guarded-silent
