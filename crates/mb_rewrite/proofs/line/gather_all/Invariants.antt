use Rattle.std.proofs.Common.{◌≡◌, length, map}
use Rattle.mb_rewrite.specs.LineTape.{byte_at}
use Rattle.mb_rewrite.proofs.LineLemmas.{Gathering}
use Rattle.mb_rewrite.proofs.line.gather_all.Given as goal

abbrev pub invariant-bytes : goal.invariant-bytes
invariant-bytes g l =
    let K = g.K.Out in
    record {
      ready : K.ready l.out;
      sound : K.refusals l.out ≡ K.refusals l.initial.out;
      gathers : Gathering l.initial.gather l.gather (map (byte_at l.moment) l.bytes)
          (map (byte_at l.moment) l.rest) l.initial.held.items l.held.items
          (λ given. K.took l.initial.out given l.out);
    }

abbrev pub decreases-bytes : goal.decreases-bytes
decreases-bytes g l = length l.rest
