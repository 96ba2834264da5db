use Rattle.std.proofs.Common.{◌≡◌, ◌+◌, ◌*◌, ◌≤◌, [], length}
use Rattle.mb_frames.specs.TapeReading.{tape_owed}
use Rattle.mb_track.specs.TrackReading.{TrackGoes, track_offset, track_owed, track_spec}
use Rattle.mb_track.proofs.track.TrackReader.next.Given as goal

abbrev pub invariant-steps : goal.invariant-steps
invariant-steps l = record {
  spec : track_spec l.self ≡ track_spec l.fn.self;
  track : l.self.track ≡ l.fn.self.track;
  moment : l.self.moment ≡ l.fn.self.moment;
  own : l.self.own ≡ l.fn.self.own;
  end : track_offset l.self + length l.input.now ≤ track_offset l.fn.self + length l.fn.input.now;
  goes : TrackGoes l.fn.self l.self l.fn.input.now l.input.now [];
  fewer : length l.input.now ≤ length l.fn.input.now;
  less : 8 * length l.input.now + track_owed l.self ≤ 8 * length l.fn.input.now + track_owed l.fn.self;
}

abbrev pub decreases-steps : goal.decreases-steps
decreases-steps l = 2 * length l.input.now + tape_owed l.self.tape
