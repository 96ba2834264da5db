use Rattle.mb_rewrite.proofs.CarriedLemmas.{guarded-moments, guarded-read, guarded-read-silent}
use Rattle.mb_rewrite.proofs.laws.written_notes_are_ended.Goals as goal

pub returns-clause-moments : goal.returns-clause-moments
returns-clause-moments c = guarded-moments

pub returns-clause-means : goal.returns-clause-means
returns-clause-means c = guarded-read

pub returns-clause-silent : goal.returns-clause-silent
returns-clause-silent c = guarded-read-silent
