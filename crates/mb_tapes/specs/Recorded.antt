-- A tape's track 0 recorded as a Standard MIDI File: each of its marks at its moment, and an open SysEx broken at the
-- tape's end. What a file can't have of it is the project's own: a delta of more than four bytes, and a track of more
-- bytes than the longest delta counts.
--
--   recorded_file s tape       the file
--   CanBeRecorded s tape       there is one
--   FirstLeftOut marks full    the first mark that no file can have behind those before it, and why
--   first_moment events        the moment of a file's first event, and 0 where it has none
--   played_moment first m      the moment of what is played again: a thousand microseconds for each millisecond, less
--                              those of the first event
use Rattle.std.specs.Prelude.{ℕ, ◌*◌, ◌-◌, ◌/◌, Err, List, [], ◌∷◌, ◌++◌}
use Rattle.mb_message.specs.Front.{IsFront}
use Rattle.mb_message.specs.Signs.{Sign}
use Rattle.mb_stream.specs.Puts.{At, Put}
use Rattle.mb_smf.specs.SmfWritten.{CanBeWritten, MomentEvent, smf_written}
use Rattle.mb_smf.specs.TrackWriting.{FullBy}
use Rattle.mb_smf.specs.declared.writer.SmfFull.{SmfFull}
use Rattle.mb_carrier.specs.declared.spec.Spec.{Spec}
use Rattle.mb_track.specs.Track.{track_marks}

abbrev pub recorded_file : Spec → (tape : List ℕ) → List ℕ
recorded_file s tape = smf_written (track_marks s 0 tape)

abbrev pub CanBeRecorded : Spec → (tape : List ℕ) → Type 0
CanBeRecorded s tape = CanBeWritten (track_marks s 0 tape)

-- A gap is one between these marks, with its two moments; a track is that of these marks. Want of memory may come at
-- any of them.
pub record FirstLeftOut (marks : List Put) (full : SmfFull) : Type 0 where
  pub before : List Put
  pub moment : ℕ
  pub mark : Sign
  pub front : IsFront (before ++ At moment mark ∷ []) marks
  pub can : CanBeWritten before
  pub why : FullBy before moment mark (Err full)

abbrev pub first_moment : List MomentEvent → ℕ
first_moment [] = 0
first_moment (e ∷ es) = e.moment

abbrev pub played_moment : (first moment : ℕ) → ℕ
played_moment first moment = 1000 * (moment / 1000 - first / 1000)
