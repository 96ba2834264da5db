use Rattle.std.proofs.Common.{◌≡◌, ◌+◌, ◌≤◌, map, length}
use Rattle.arrayvec.specs.ArrayVec.{array_vec_len}
use Rattle.mb_message.specs.Signs.{ByteSign}
use Rattle.mb_carrier.specs.Carrier.{live, hop_room_of}
use Rattle.mb_carrier.specs.Hop.{MayCome}
use Rattle.mb_carrier.specs.Fill.{PutSome}
use Rattle.mb_carrier.proofs.fill.put_run.Given as goal

-- a front of the run was put
abbrev pub invariant-pieces : goal.invariant-pieces
invariant-pieces g l =
    let W = g.W.EventWriter in
    record {
      spec : W.spec l.writer ≡ W.spec l.initial.writer;
      in_sysex : W.in_sysex l.writer ≡ W.in_sysex l.initial.writer;
      room : array_vec_len l.held + hop_room_of (W.spec l.initial.writer) ≤ 1024;
      suits : MayCome (W.in_sysex l.initial.writer) (map ByteSign l.run.now);
      put : PutSome (live (W.spec l.initial.writer)) (W.stands l.initial.writer) (W.stands l.writer) l.at
          (map ByteSign l.initial.run.now) l.run.now l.initial.held.items l.held.items;
      fewer : length l.run.now ≤ length l.initial.run.now;
    }

abbrev pub decreases-pieces : goal.decreases-pieces
decreases-pieces g l = length l.run.now
