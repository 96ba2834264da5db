use Rattle.std.proofs.Common.{rules}
use Rattle.mb_top.proofs.StreamLemmas.{halted-took}
use Rattle.mb_top.proofs.stream.hand_over.Goals as goal

pub returns-clause-halted : goal.returns-clause-halted
returns-clause-halted g c = halted-took _ _ _ _ _ (λ x took. search rules) c.stop.ensures.halted
