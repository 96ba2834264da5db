use Rattle.std.proofs.Common.{◌∙◌}
use Rattle.mb_make.specs.Generated.{generated}
use Rattle.mb_smoke.specs.Selftest.{selftest_text}
use Rattle.mb_smoke.proofs.ConvertLemmas.{text-converted}
use Rattle.mb_smoke.proofs.conversion.lines_of.Goals as goal

pub convert-requires-clause-fresh : goal.convert-requires-clause-fresh
convert-requires-clause-fresh c = c.open-chain.ensures c.new-out.result c.new-out.ensures.stands c.new-out.ensures.never

pub returns : goal.returns
unfolding selftest_text
returns c =
    let made = generated c.args.start c.args.count in
    let ended = c.convert.ensures.ended in
    c.put_lines.ensures
    ∙ text-converted c.convert.new.chain c.convert.new.out made c.crossed-5.result c.crossed.result c.crossed-2.result
    c.crossed-3.result c.crossed-4.result c.counts.result c.mix.result c.convert.ensures.links
    (c.crossed-5.ensures.in_all made ended) (c.crossed.ensures.in_all made ended) (c.crossed-2.ensures.in_all made ended)
    (c.crossed-3.ensures.in_all made ended) (c.crossed-4.ensures.in_all made ended)
    (c.counts.ensures _ c.convert.ensures.sums) (c.mix.ensures _ c.convert.ensures.sums)
