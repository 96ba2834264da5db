use Rattle.std.proofs.Common.{◌≡◌, ◌+◌, ◌*◌, ◌/◌, ◌≤◌, [], length}
use Rattle.mb_stream.specs.ReaderLaw.{Tells}
use Rattle.mb_usb.specs.Cables.{all_cables_so_far, UsbHolds}
use Rattle.mb_usb.specs.Under.{head_of}
use Rattle.mb_usb.specs.State.{AreBehind, owed_of, reader_at}
use Rattle.mb_usb.proofs.reader.read.Given as goal
use Rattle.mb_ports.specs.Reader.{bare}

abbrev pub invariant-bytes : goal.invariant-bytes
invariant-bytes l = record {
  behind : AreBehind l.packet l.dins;
  tells : Tells bare all_cables_so_far (UsbHolds l.fn.packet l.fn.dins) (UsbHolds l.packet l.dins) l.fn.input.now
      l.input.now [];
  ends : l.packet.offset + length l.input.now ≡ l.fn.packet.offset + length l.fn.input.now;
  owes : 2 * length l.input.now + owed_of l.packet (reader_at l.dins (head_of l.packet.under / 16)) ≤ 2 *
      length l.fn.input.now + owed_of l.fn.packet (reader_at l.fn.dins (head_of l.fn.packet.under / 16));
}

abbrev pub decreases-bytes : goal.decreases-bytes
decreases-bytes l = length l.input.now
