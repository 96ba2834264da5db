use Rattle.mb_smoke.proofs.ConvertLemmas.{last-means}
use Rattle.mb_smoke.proofs.laws.selftest_means.Goals as goal

pub returns : goal.returns
returns c = last-means
