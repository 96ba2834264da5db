use Rattle.std.proofs.Common.{◌≡◌, ◌+◌, ◌*◌}
use Rattle.mb_ble.specs.State.{ble_offset}
use Rattle.mb_calls.proofs.ble_reader.the_longest_packet.Given as goal

abbrev pub invariant-loop-count : goal.invariant-loop-count
invariant-loop-count g l = record {
  taken : ble_offset l.reader ≡ 5 + 504 * l.count;
}
