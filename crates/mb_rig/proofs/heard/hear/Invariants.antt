use Rattle.std.proofs.Common.{◌≡◌, ◌+◌, ◌*◌, ◌≤◌, [], length}
use Rattle.mb_track.specs.TrackReading.{TrackGoes, track_moment, track_of, track_offset, track_owed, track_spec}
use Rattle.mb_rig.proofs.heard.hear.Given as goal

abbrev pub invariant-steps : goal.invariant-steps
invariant-steps l = record {
  spec : track_spec l.reader ≡ track_spec l.fn.reader;
  track : track_of l.reader ≡ track_of l.fn.reader;
  end : track_offset l.reader + length l.input.now ≤ track_offset l.fn.reader + length l.fn.input.now;
  moment : track_moment l.reader ≡ track_moment l.fn.reader;
  less : 8 * length l.input.now + track_owed l.reader ≤ 8 * length l.fn.input.now + track_owed l.fn.reader;
  fewer : length l.input.now ≤ length l.fn.input.now;
  goes : TrackGoes l.fn.reader l.reader l.fn.input.now l.input.now [];
}

abbrev pub decreases-steps : goal.decreases-steps
decreases-steps l = 8 * length l.input.now + track_owed l.reader
