-- Recording on its way.
--
--   recording_spec r           the port's spec
--   recording_cut r            tape or recording stop inside something
--   RecordingStands r bytes    it was fed these bytes, and the file has all that is known of them
--   RecordedOn ..              a piece was read, up to a fault if it has one
--   IfFull, IfRefused answer P P of an answer of the end that tells why there is no file, or of one that was refused
--   MayFollow w puts           a writer's marks so far, behind which these suit
use Rattle.std.specs.Prelude.{◌≡◌, ℕ, ◌≤◌, Bool, true, false, List, ◌++◌, length, Option, Result, Ok, Err}
use Rattle.mb_stream.specs.Puts.{Put, signs_in}
use Rattle.mb_stream.specs.Standing.{suited}
use Rattle.mb_frames.specs.Tapes.{tape_fault}
use Rattle.mb_frames.specs.declared.tape.TapeFault.{TapeFault}
use Rattle.mb_smf.specs.TrackWriting.{TrackWrites, TrackWriting, is_full}
use Rattle.mb_smf.specs.declared.writer.SmfFull.{SmfFull}
use Rattle.mb_carrier.specs.declared.spec.Spec.{Spec}
use Rattle.mb_track.specs.Track.{track_marks_so_far}
use Rattle.mb_track.specs.TrackReading.{TrackTold, track_cut, track_moment, track_of, track_offset, track_spec}
use Rattle.mb_tapes.specs.declared.recording.Recording.{Recording}
use Rattle.mb_tapes.specs.declared.recording.RecordingStop.{RecordingStop}
use Rattle.mb_tapes.specs.declared.recording.RecordingStop.TheVariants as stop

abbrev pub recording_spec : Recording → Spec
recording_spec r = track_spec r.track

abbrev pub recording_cut : Recording → Bool
recording_cut r = track_cut r.track

pub record RecordingStands (r : Recording) (bytes : List ℕ) : Type 0 where
  pub told : TrackTold r.track bytes
  pub of_track : track_of r.track ≡ 0
  pub offset : track_offset r.track ≤ length bytes
  pub writes : TrackWrites r.file (track_marks_so_far (track_spec r.track) 0 bytes)
  pub short : is_full r.file ≡ false
  pub order : r.file.moment ≤ track_moment r.track

pub record RecordedOn (was now : List ℕ → Type 0) (piece : List ℕ) (fault : Option TapeFault) : Type 0 where
  pub stands : (bytes : List ℕ) → was bytes → now (bytes ++ piece)
  pub fault_is : (bytes : List ℕ) → was bytes → tape_fault (bytes ++ piece) ≡ fault

abbrev pub IfFull : Result (Unit {0}) RecordingStop → (SmfFull → Type 0) → Type 0
IfFull (Ok done) P = Unit {0}
IfFull (Err (stop.Full full)) P = P full
IfFull (Err (stop.Refused refused)) P = Unit {0}

abbrev pub IfRefused : Result (Unit {0}) RecordingStop → Type 0 → Type 0
IfRefused (Ok done) P = Unit {0}
IfRefused (Err (stop.Full full)) P = Unit {0}
IfRefused (Err (stop.Refused refused)) P = P

-- for the steps

pub record MayFollow (w : TrackWriting) (more : List Put) : Type 0 where
  pub puts : List Put
  pub writes : TrackWrites w puts
  pub suit : suited (signs_in (puts ++ more)) ≡ true
