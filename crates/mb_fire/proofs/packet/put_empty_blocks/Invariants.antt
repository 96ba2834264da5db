use Rattle.std.proofs.Common.{◌≡◌, ◌+◌, ◌*◌, ◌++◌}
use Rattle.arrayvec.specs.ArrayVec.{array_vec_len}
use Rattle.mb_fire.proofs.FilledBlocks.{empty}
use Rattle.mb_fire.proofs.packet.put_empty_blocks.Given as goal

abbrev pub invariant-loop-index : goal.invariant-loop-index
invariant-loop-index l = record {
  bytes : l.out.items ≡ l.fn.out.items ++ empty (8 * l._index);
  len : array_vec_len l.out ≡ array_vec_len l.fn.out + 32 * l._index;
}
