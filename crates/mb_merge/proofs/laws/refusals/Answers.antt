use Rattle.mb_merge.proofs.Fits.{refused}
use Rattle.mb_merge.proofs.laws.refusals.Goals as goal

pub returns : goal.returns
returns c = refused
