use Rattle.std.proofs.Common.{◌≡◌, ◌+◌, ◌*◌, length}
use Rattle.mb_fire.specs.State.{port_offset, port_owed}
use Rattle.mb_calls.proofs.fire_reader.read_port.Given as goal

abbrev pub invariant-told : goal.invariant-told
invariant-told l = record {
  ends : port_offset l.reader + length l.rest ≡ port_offset l.initial.reader + length l.piece;
}

abbrev pub decreases-told : goal.decreases-told
decreases-told l = 2 * length l.rest + port_owed l.reader
