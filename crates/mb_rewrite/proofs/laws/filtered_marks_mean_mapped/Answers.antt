use Rattle.mb_rewrite.proofs.FilteredLemmas.{filtered-means, filtered-signs}
use Rattle.mb_rewrite.proofs.laws.filtered_marks_mean_mapped.Goals as goal

pub returns-clause-marks : goal.returns-clause-marks
returns-clause-marks c = filtered-signs

pub returns-clause-means : goal.returns-clause-means
returns-clause-means c = filtered-means
