use Rattle.std.proofs.Common.{◌≡◌, ◌+◌, ◌*◌, ◌≤◌, ◌++◌, length, map}
use Rattle.arrayvec.specs.ArrayVec.{array_vec_len}
use Rattle.mb_message.specs.Signs.{ByteSign}
use Rattle.mb_ble.specs.UnderWay.{after_all, given_all}
use Rattle.mb_ble.proofs.under_way.UnderWay.put_run.Given as goal

-- of what is left
abbrev pub invariant-bytes : goal.invariant-bytes
invariant-bytes l = record {
  room : array_vec_len l.out + length l.self.content + 5 * length l.rest ≤ array_vec_len l.initial.out +
      length l.initial.self.content + 5 * length l.bytes;
  state : after_all l.self l.moment (map ByteSign l.rest) ≡ after_all l.initial.self l.moment (map ByteSign l.bytes);
  given : l.out.items ++ given_all l.self l.moment (map ByteSign l.rest) ≡ l.initial.out.items ++
      given_all l.initial.self l.moment (map ByteSign l.bytes);
}

abbrev pub decreases-bytes : goal.decreases-bytes
decreases-bytes l = length l.rest
