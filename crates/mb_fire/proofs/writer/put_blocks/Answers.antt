use Rattle.std.proofs.Common.{◌*◌, ◌+◌, arith, length, sym, ap, ◌∙◌}
use Rattle.mb_fire.specs.Rings.{head, popped}
use Rattle.mb_fire.proofs.RingLemmas.{one_block, one_ring, room_left, at_read, still_there, long_behind}
use Rattle.mb_fire.proofs.writer.put_blocks.Goals as goal

pub loop-index-preserved : goal.loop-index-preserved
loop-index-preserved c =
    let read = at_read c.loop-index.rings c.loop-index.index c.index-rings-index.result
    (omega arith) c.index-rings-index.is in (
      one_block c.args.place c.loop-index.index c.args.rings.now c.loop-index.rings c.pop-waiting.result
          _ c.loop-index.out.items c.put_block.new.out.items (omega arith)
          (c.pop-waiting.ensures.first ∙ ap head (sym c.index-rings-index.is ∙ sym read))
          (still_there c.loop-index.index c.args.rings.now c.loop-index.rings
          (omega arith) c.loop-index.invariant.1) c.put_block.ensures.written c.loop-index.invariant.0,
      one_ring c.loop-index.index c.args.rings.now c.loop-index.rings c.pop-waiting.new.self (omega arith)
          (omega arith) c.loop-index.invariant.1 (c.pop-waiting.ensures.rest
          ∙ ap popped (sym c.index-rings-index.is ∙ sym read)),
      room_left c.loop-index.index (4 * (c.args.place + 1)) (length c.loop-index.out.items)
          (length c.put_block.new.out.items) (omega arith) c.loop-index.invariant.2
          (long_behind c.args.place c.pop-waiting.result c.loop-index.out.items c.put_block.new.out.items
          c.put_block.ensures.written),
    )
