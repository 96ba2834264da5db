use Rattle.std.proofs.Common.{arith}
use Rattle.mb_chain.proofs.ChainLemmas.{crossed-place, crossed_all-place, links-length}
use Rattle.mb_chain.proofs.chain.Chain.crossed.Goals as goal

pub returns-clause-so_far : goal.returns-clause-so_far
returns-clause-so_far c = λ bytes h.
    crossed-place _ c.args.self.now.hops.items _ _ _ bytes c.as_slice.ensures.value
    (omega (arith, c.if-place-eq0.false)) (omega (arith, c.requires, links-length c.args.self.now.hops.items)) h.row

pub returns-clause-in_all : goal.returns-clause-in_all
returns-clause-in_all c = λ bytes h.
    crossed_all-place _ c.args.self.now.hops.items _ _ _ bytes c.as_slice.ensures.value
    (omega (arith, c.if-place-eq0.false)) (omega (arith, c.requires, links-length c.args.self.now.hops.items)) h.row
