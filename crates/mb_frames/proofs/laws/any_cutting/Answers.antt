use Rattle.mb_frames.proofs.Bytewise.{told-all, told-same, go-alike}
use Rattle.mb_frames.proofs.laws.any_cutting.Goals as goal

pub returns-clause-all : goal.returns-clause-all
returns-clause-all c = told-all

pub returns-clause-same : goal.returns-clause-same
returns-clause-same c = told-same

pub returns-clause-alike : goal.returns-clause-alike
returns-clause-alike c = go-alike
