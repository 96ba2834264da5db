use Rattle.std.proofs.Common.{◌≡◌, length}
use Rattle.mb_tapes.proofs.PlayingLemmas.{RunGone}
use Rattle.mb_tapes.proofs.part.put_run.Given as goal

abbrev pub invariant-bytes : goal.invariant-bytes
invariant-bytes g l =
    let K = g.K.Out in
    record {
      ready : K.ready l.out;
      sound : K.refusals l.out ≡ K.refusals l.initial.out;
      gone : RunGone l.initial.gather l.gather l.moment l.bytes l.rest l.initial.held.items l.held.items
          (λ given. K.took l.initial.out given l.out);
    }

abbrev pub decreases-bytes : goal.decreases-bytes
decreases-bytes g l = length l.rest
