use Rattle.std.proofs.Common.{◌≡◌, drop}
use Rattle.mb_fire.specs.Rings.{heads, any_of}
use Rattle.mb_fire.proofs.writer.waits.Given as goal

abbrev pub invariant-loop-index : goal.invariant-loop-index
invariant-loop-index l = any_of (drop l.index (heads l.fn.rings)) ≡ any_of (heads l.fn.rings)
