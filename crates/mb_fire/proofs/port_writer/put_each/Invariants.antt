use Rattle.std.proofs.Common.{◌≡◌, ◌+◌, ◌*◌, ◌/◌, ◌++◌, length}
use Rattle.arrayvec.specs.ArrayVec.{array_vec_len}
use Rattle.mb_fire.specs.Running.{fire_from, dbc_behind}
use Rattle.mb_fire.specs.PortWriter.{frame_size}
use Rattle.mb_fire.proofs.port_writer.put_each.Given as goal

abbrev pub invariant-bytes : goal.invariant-bytes
invariant-bytes l = record {
  count : dbc_behind l.count l.rest ≡ dbc_behind l.fn.dbc l.fn.bytes;
  bytes : l.out.items ++ fire_from l.fn.port l.count l.rest ≡ l.fn.out.items ++ fire_from l.fn.port l.fn.dbc l.fn.bytes;
  room : array_vec_len l.out + frame_size (l.fn.port / 8) * length l.rest
      ≡ array_vec_len l.fn.out + frame_size (l.fn.port / 8) * length l.fn.bytes;
}

abbrev pub decreases-bytes : goal.decreases-bytes
decreases-bytes l = length l.rest
