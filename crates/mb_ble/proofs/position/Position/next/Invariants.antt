use Rattle.std.proofs.Common.{◌≡◌, ◌+◌, ◌*◌, ◌≤◌, length, []}
use Rattle.mb_ble.specs.Stands.{BleTells}
use Rattle.mb_ble.specs.State.{Fit, ble_offset, ble_owed}
use Rattle.mb_ble.proofs.position.Position.next.Given as goal

abbrev pub invariant-loop-seen : goal.invariant-loop-seen
invariant-loop-seen l = BleTells l.fn.self l.self l.fn.input.now l.input.now [] × Fit l.self ×
    (ble_offset l.self + length l.input.now ≡ ble_offset l.fn.self + length l.fn.input.now) × (2 * length l.input.now +
    ble_owed l.self ≤ 2 * length l.fn.input.now + ble_owed l.fn.self) × (length l.input.now ≤ length l.fn.input.now)

abbrev pub decreases-loop-seen : goal.decreases-loop-seen
decreases-loop-seen l = length l.input.now
