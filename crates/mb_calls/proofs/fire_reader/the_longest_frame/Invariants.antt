use Rattle.std.proofs.Common.{◌≡◌, ◌+◌, ◌*◌}
use Rattle.mb_fire.specs.State.{fire_offset}
use Rattle.mb_calls.proofs.fire_reader.the_longest_frame.Given as goal

abbrev pub invariant-loop-count : goal.invariant-loop-count
invariant-loop-count g l = record {
  taken : fire_offset l.reader ≡ 10 + 515 * l.count;
}
