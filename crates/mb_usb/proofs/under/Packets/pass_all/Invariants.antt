use Rattle.std.proofs.Common.{◌≡◌, ◌+◌, ◌^◌, ◌<◌, length}
use Rattle.mb_usb.specs.Under.{packet_behind}
use Rattle.mb_usb.proofs.under.Packets.pass_all.Given as goal

abbrev pub invariant-bytes : goal.invariant-bytes
invariant-bytes l = (packet_behind l.self l.rest ≡ packet_behind l.fn.self l.fn.bytes) ×
    (l.self.offset + length l.rest < 2 ^ 63)

abbrev pub decreases-bytes : goal.decreases-bytes
decreases-bytes l = length l.rest
