use Rattle.std.proofs.Common.{◌≢◌, ◌<◌, ◌∙◌, length, arith, below_more, get_or-set_other, get_or-set_same, false}
use Rattle.std.proofs.Math.ListN.{length-set}
use Rattle.mb_merge.specs.Opening.{stands_in}
use Rattle.mb_merge.proofs.OpenLemmas.{sixteen}
use Rattle.mb_merge.proofs.opening.outs_of.Goals as goal

pub loop-out-preserved : goal.loop-out-preserved
loop-out-preserved c =
    let lt : c.loop-out.out < length c.loop-out.outs = omega (arith, c.loop-out.invariant.0) in (
      length-set c.loop-out.outs c.loop-out.out c.stands_in.result ∙ c.loop-out.invariant.0,
      below_more _ _
          (λ k h. let ne : k ≢ c.loop-out.out = omega arith in rw get_or-set_other (c.loop-out.invariant.1 k h))
          (get_or-set_same c.loop-out.outs c.loop-out.out c.stands_in.result false lt ∙ c.stands_in.ensures),
    )

pub returns : goal.returns
returns c = sixteen c.loop-out.outs (λ out. stands_in (c.args.source, out) c.args.routes.now) c.loop-out.invariant.0
    (λ k below. c.loop-out.invariant.1 k (omega arith))
