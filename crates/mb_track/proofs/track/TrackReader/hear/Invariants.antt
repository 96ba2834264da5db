use Rattle.std.proofs.Common.{◌≡◌, ◌+◌, ◌*◌, ◌≤◌, true, [], length}
use Rattle.mb_frames.specs.TapeReading.{tape_owed}
use Rattle.mb_carrier.specs.Port.{reader_owed}
use Rattle.mb_track.specs.TrackReading.{IsSameTrack, TrackGoes, track_offset}
use Rattle.mb_track.proofs.track.TrackReader.hear.Given as goal

abbrev pub invariant-notes : goal.invariant-notes
invariant-notes l = record {
  own : l.self.own ≡ true;
  same : IsSameTrack l.fn.self l.self;
  end : track_offset l.self + length l.input.now ≤ track_offset l.fn.self + length l.fn.input.now;
  goes : TrackGoes l.fn.self l.self l.fn.input.now l.input.now [];
  fewer : length l.input.now ≤ length l.fn.input.now;
  owed : tape_owed l.self.tape + length l.input.now ≤ tape_owed l.fn.self.tape + length l.fn.input.now;
  less : 2 * length l.input.now + reader_owed l.self.reader ≤ 2 * length l.fn.input.now + reader_owed l.fn.self.reader;
}

abbrev pub decreases-notes : goal.decreases-notes
decreases-notes l = 2 * length l.input.now + reader_owed l.self.reader
