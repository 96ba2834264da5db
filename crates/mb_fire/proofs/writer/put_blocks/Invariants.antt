use Rattle.std.proofs.Common.{◌≡◌, ◌+◌, ◌-◌, ◌*◌, ◌≤◌, ◌++◌, drop}
use Rattle.std.specs.Prelude.{flat_map}
use Rattle.arrayvec.specs.ArrayVec.{array_vec_len}
use Rattle.mb_fire.specs.Written.{block}
use Rattle.mb_fire.specs.Rings.{heads}
use Rattle.mb_fire.proofs.RingLemmas.{Popped}
use Rattle.mb_fire.proofs.writer.put_blocks.Given as goal

abbrev pub invariant-loop-index : goal.invariant-loop-index
invariant-loop-index l = (l.out.items ++ flat_map (block l.fn.place) (drop l.index (heads l.fn.rings)) ≡ l.fn.out.items
    ++ flat_map (block l.fn.place) (heads l.fn.rings)) × Popped l.index l.fn.rings l.rings ×
    (array_vec_len l.out + (8 - l.index) * (4 * (l.fn.place + 1)) ≤ 1024)
