use Rattle.std.proofs.Common.{arith, sym, ◌∙◌}
use Rattle.mb_fire.proofs.RingLemmas.{at_read}
use Rattle.mb_fire.proofs.RingLaw.{some_waits, none_waits}
use Rattle.mb_fire.proofs.writer.waits.Goals as goal

pub returns-then-not-is_empty : goal.returns-then-not-is_empty
returns-then-not-is_empty c =
    sym (some_waits c.args.rings.now c.loop-index.index c.index-rings-index.result (omega arith)
    (sym (at_read c.args.rings.now c.loop-index.index c.index-rings-index.result
    (omega arith) c.index-rings-index.is)) (cc)) ∙ c.loop-index.invariant

pub loop-index-preserved : goal.loop-index-preserved
loop-index-preserved c =
    none_waits c.args.rings.now c.loop-index.index c.index-rings-index.result (omega arith)
    (sym (at_read c.args.rings.now c.loop-index.index c.index-rings-index.result
    (omega arith) c.index-rings-index.is)) (cc) ∙ c.loop-index.invariant
