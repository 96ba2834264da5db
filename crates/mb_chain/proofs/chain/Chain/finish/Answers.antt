use Rattle.mb_chain.proofs.ChainLemmas.{row-may_end}
use Rattle.mb_chain.proofs.chain.Chain.finish.Goals as goal

pub end-requires-clause-stands : goal.end-requires-clause-stands
end-requires-clause-stands g c = row-may_end c.args.self.now c.as_mut_slice.result.now c.as_mut_slice.ensures.value
    c.requires.stands c.requires.specs
