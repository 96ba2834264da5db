use Rattle.std.proofs.Common.{rules}
use Rattle.mb_top.proofs.StreamLemmas.{ended-took, halted-took}
use Rattle.mb_top.proofs.stream.finish.Goals as goal

pub returns-clause-ended : goal.returns-clause-ended
returns-clause-ended g c = ended-took _ _ _ _ _ _ (λ x took. search rules) c.finish.ensures.ended

pub returns-clause-halted : goal.returns-clause-halted
returns-clause-halted g c = halted-took _ _ _ _ _ (λ x took. search rules) c.finish.ensures.halted
