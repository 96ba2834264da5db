use Rattle.mb_rewrite.proofs.FilteredLemmas.{filtered-moments, filtered-read}
use Rattle.mb_rewrite.proofs.laws.written_marks_mean_mapped.Goals as goal

pub returns-clause-moments : goal.returns-clause-moments
returns-clause-moments c = filtered-moments

pub returns-clause-means : goal.returns-clause-means
returns-clause-means c = filtered-read
