use Rattle.std.proofs.Common.{◌≡◌, ℕ, ◌+◌, ◌*◌, ◌≤◌, true, List, ◌++◌, length}
use Rattle.std.specs.List.{list_all}
use Rattle.arrayvec.specs.ArrayVec.{array_vec_len}
use Rattle.mb_message.specs.Bytes.{is_data}
use Rattle.mb_usb.proofs.Loops.{Sofar}
use Rattle.mb_calls.proofs.usb_writer.put_all.Given as goal

abbrev pub invariant-pieces : goal.invariant-pieces
invariant-pieces l = record {
  room : array_vec_len l.out + 24 * length l.rest ≤ 1024;
  opened : l.writer.in_sysex ≡ true;
  run : list_all is_data l.rest ≡ true;
  so_far : (taken : List ℕ) × (taken ++ l.rest ≡ l.bytes) × Sofar l.initial.writer l.writer l.initial.out.items
      l.out.items taken;
}

abbrev pub decreases-pieces : goal.decreases-pieces
decreases-pieces l = length l.rest
