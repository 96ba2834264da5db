use Rattle.std.proofs.Common.{◌≡◌, ◌+◌, ◌*◌, ◌≤◌, [], ◌++◌, length, map}
use Rattle.arrayvec.specs.ArrayVec.{array_vec_len}
use Rattle.mb_message.specs.Signs.{ByteSign}
use Rattle.mb_usb.specs.Running.{usb_from, pending_from}
use Rattle.mb_usb.proofs.writer.put_threes.Given as goal

-- of what is left
abbrev pub invariant-threes : goal.invariant-threes
invariant-threes l = record {
  room : 3 * array_vec_len l.out + 4 * length l.rest ≤ 3 * array_vec_len l.initial.out + 4 * length l.bytes;
  waits : pending_from [] (map ByteSign l.rest) ≡ pending_from [] (map ByteSign l.bytes);
  written : l.out.items ++ usb_from l.cable [] (map ByteSign l.rest) ≡ l.initial.out.items ++
      usb_from l.cable [] (map ByteSign l.bytes);
}

abbrev pub decreases-threes : goal.decreases-threes
decreases-threes l = length l.rest
