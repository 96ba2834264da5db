use Rattle.mb_frames.proofs.GatherLemmas.{Gathers-end}
use Rattle.mb_frames.proofs.gather.Gather.finish.Goals as goal

pub returns-clause-all : goal.returns-clause-all
returns-clause-all c = λ given written h. Gathers-end c.args.self.now given written h
