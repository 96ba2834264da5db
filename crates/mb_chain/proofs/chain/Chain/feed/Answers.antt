use Rattle.mb_chain.proofs.ChainLemmas.{row-may}
use Rattle.mb_chain.proofs.chain.Chain.feed.Goals as goal

pub flow-requires-clause-stands : goal.flow-requires-clause-stands
flow-requires-clause-stands g c = row-may c.args.self.now c.as_mut_slice.result.now _ c.as_mut_slice.ensures.value
    c.requires.stands c.requires.specs
