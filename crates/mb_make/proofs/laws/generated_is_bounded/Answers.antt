use Rattle.mb_make.proofs.MadeLemmas.{generated-short}
use Rattle.mb_make.proofs.laws.generated_is_bounded.Goals as goal

pub returns : goal.returns
returns c = generated-short
