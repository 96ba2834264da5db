use Rattle.std.proofs.Common.{◌≡◌, length}
use Rattle.mb_chain.specs.Chain.{ChainEnded}
use Rattle.mb_top.proofs.TallyLemmas.{ToldSoFar}
use Rattle.mb_top.proofs.tally.tell_tally.Given as goal

abbrev pub invariant-specs : goal.invariant-specs
invariant-specs g l =
    let K = g.K.Out in
    record {
      ends : l.at-end ≡ length l.specs;
      ready : K.ready l.out;
      sound : K.refusals l.out ≡ K.refusals l.initial.out;
      told : ToldSoFar l.specs (ChainEnded l.chain) l.at (λ given. K.took l.initial.out given l.out);
    }
