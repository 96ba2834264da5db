use Rattle.std.proofs.Common.{◌≡◌, ◌+◌, ◌*◌, ◌≤◌, [], length}
use Rattle.mb_usb.specs.State.{IsBehind, owed_alone}
use Rattle.mb_usb.proofs.OnlyCable.{OnlyTells}
use Rattle.mb_usb.proofs.cable.read_cable.Given as goal

abbrev pub invariant-bytes : goal.invariant-bytes
invariant-bytes l = record {
  behind : IsBehind l.packet l.din;
  tells : OnlyTells l.own l.fn.packet l.fn.din l.packet l.din l.fn.input.now l.input.now [];
  ends : l.packet.offset + length l.input.now ≡ l.fn.packet.offset + length l.fn.input.now;
  owes : 2 * length l.input.now + owed_alone l.own l.packet l.din ≤ 2 * length l.fn.input.now + owed_alone l.own
      l.fn.packet l.fn.din;
}

abbrev pub decreases-bytes : goal.decreases-bytes
decreases-bytes l = length l.input.now
