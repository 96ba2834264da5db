use Rattle.std.proofs.Common.{◌≡◌, ◌+◌, ◌*◌, ◌++◌, sym, ap, ◌∙◌, arith}
use Rattle.mb_fire.proofs.FilledBlocks.{empty, empty-blocks, eight-more}
use Rattle.mb_fire.proofs.packet.put_empty_blocks.Goals as goal

pub loop-index-preserved : goal.loop-index-preserved
loop-index-preserved c = record {
  bytes = eight-more c.loop-index._index c.args.out.now.items c.loop-index.out.items c.append.new.out.items
      c.loop-index.invariant.bytes c.append.ensures.written;
  len = omega (arith, c.loop-index.invariant.len, c.append.ensures.len);
}

pub returns-clause-written : goal.returns-clause-written
returns-clause-written c =
    let all : c.loop-index._index ≡ c.args.place + 1 = omega arith in
    c.loop-index.invariant.bytes ∙
    ap (λ z. c.args.out.now.items ++ z) (ap (λ i. empty (8 * i)) all ∙ sym (empty-blocks c.args.place))
