use Rattle.std.proofs.Common.{◌+◌, ◌*◌, length}
use Rattle.mb_track.specs.TrackReading.{track_owed}
use Rattle.mb_tapes.proofs.RecordingLemmas.{Feeding}
use Rattle.mb_tapes.proofs.recording.Recording.feed.Given as goal

abbrev pub invariant-steps : goal.invariant-steps
invariant-steps l = record { feeding : Feeding l.fn.self l.self.track l.self.file l.piece l.rest }

abbrev pub decreases-steps : goal.decreases-steps
decreases-steps l = 8 * length l.rest + track_owed l.self.track
