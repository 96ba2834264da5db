-- Reading one track of a tape from pieces.
--
--   track_spec r, track_of r     the port's spec, and the track
--   track_moment r               the moment of the last record whose header stands whole, and 0 before any
--   track_own r                  whether a record of the track is under way
--   track_offset r               how many bytes of the recording it took
--   track_owed r                 what may be told before a byte is taken
--   TrackRests r                 nothing is begun, running or open on the port
--   track_cut r                  tape or recording stop inside something
--   step_signs answer            the marks of an answer
--   IfStep, IfNoStep answer P    P of an answer that tells something, or that tells nothing
--   BeginsAt moment answer       a beginning tells this moment
--   MomentStays was now answer   the moment stays unless a record begins
--   OwnBehind was now answer     what an answer says of a record of the track being under way
--   fault_told answer            the fault that an answer tells
--   TrackStands r taken next told    it took these bytes and told these marks, and these bytes stand next
--   TrackGoes old new input left signs    whatever was taken and told before, a step takes the front of its input and
--                                tells these marks
--   TrackTold r bytes            all that these bytes make known was told
--   TrackQuiet r taken next told     for the reader's own steps: nothing is to be told before the tape's next part
--   IsSameTrack was now          these steps change neither spec, track nor moment
use Rattle.std.specs.Prelude.{◌≡◌, ℕ, ◌+◌, ◌*◌, Bool, true, false, not, ◌||◌, ◌==◌, if◌then◌else◌, List, []}
use Rattle.std.specs.Prelude.{◌++◌, take, Option, Some, None, Result, Ok, Err}
use Rattle.mb_message.specs.Front.{IsFront}
use Rattle.mb_message.specs.Signs.{Sign, signs_of_event}
use Rattle.mb_message.specs.declared.event.Ev.{Ev}
use Rattle.mb_stream.specs.Puts.{Put, puts_at}
use Rattle.mb_stream.specs.Told.{Known}
use Rattle.mb_frames.specs.Tapes.{Record, RecordPart, is_whole}
use Rattle.mb_frames.specs.TapeSteps.{TapeState, ending_at}
use Rattle.mb_frames.specs.TapeReading.{TapeStands, tape_owed, to_come}
use Rattle.mb_frames.specs.declared.tape.TapeFault.{TapeFault}
use Rattle.mb_carrier.specs.Carrier.{known, known_signs, marks_so_far}
use Rattle.mb_carrier.specs.Port.{ReaderRests, ReaderStands, is_partial, reader_offset, reader_owed, reader_spec}
use Rattle.mb_carrier.specs.declared.spec.Spec.{Spec}
use Rattle.mb_track.specs.Track.{as_it_stands, last_record_moment, marks_from, recording, records_from}
use Rattle.mb_track.specs.Track.{track_marks_so_far, track_records}
use Rattle.mb_track.specs.declared.track.TrackReader.{TrackReader}
use Rattle.mb_track.specs.declared.track.TrackStep.{TrackStep}
use Rattle.mb_track.specs.declared.track.TrackStep.TheVariants as step

abbrev pub track_spec : TrackReader → Spec
track_spec r = reader_spec r.reader

abbrev pub track_of : TrackReader → ℕ
track_of r = r.track

abbrev pub track_moment : TrackReader → ℕ
track_moment r = r.moment

abbrev pub track_own : TrackReader → Bool
track_own r = r.own

abbrev pub track_offset : TrackReader → ℕ
track_offset r = reader_offset r.reader

abbrev pub track_owed : TrackReader → ℕ
track_owed r = 4 * tape_owed r.tape + (if r.own then 1 + reader_owed r.reader else 0)

abbrev pub track_cut : TrackReader → Bool
track_cut r = not (is_whole (ending_at r.tape)) || is_partial r.reader

abbrev pub TrackRests : TrackReader → Type 0
TrackRests r = ReaderRests r.reader

abbrev pub event_signs : Option Ev → List Sign
event_signs None = []
event_signs (Some ev) = signs_of_event ev

abbrev pub signs_told : Option TrackStep → List Sign
signs_told None = []
signs_told (Some (step.Begin moment)) = []
signs_told (Some (step.Heard ev)) = signs_of_event ev
signs_told (Some step.End) = []

abbrev pub step_signs : Result (Option TrackStep) TapeFault → List Sign
step_signs (Ok told) = signs_told told
step_signs (Err f) = []

abbrev pub IfStep : Result (Option TrackStep) TapeFault → Type 0 → Type 0
IfStep (Ok None) P = Unit {0}
IfStep (Ok (Some told)) P = P
IfStep (Err f) P = Unit {0}

abbrev pub IfNoStep : Result (Option TrackStep) TapeFault → Type 0 → Type 0
IfNoStep (Ok None) P = P
IfNoStep (Ok (Some told)) P = Unit {0}
IfNoStep (Err f) P = P

-- a beginning tells the moment that holds from then on
abbrev pub BeginsAt : (moment : ℕ) → Result (Option TrackStep) TapeFault → Type 0
BeginsAt moment (Ok (Some (step.Begin m))) = m ≡ moment
BeginsAt moment _ = Unit {0}

-- only a beginning changes the moment
abbrev pub MomentStays : (was now : ℕ) → Result (Option TrackStep) TapeFault → Type 0
MomentStays was now (Ok None) = now ≡ was
MomentStays was now (Ok (Some (step.Begin moment))) = Unit {0}
MomentStays was now (Ok (Some (step.Heard ev))) = now ≡ was
MomentStays was now (Ok (Some step.End)) = now ≡ was
MomentStays was now (Err f) = now ≡ was

-- An event is heard within a record of the track; behind an end none is under way, and only a beginning makes one so.
abbrev pub OwnBehind : (was now : Bool) → Result (Option TrackStep) TapeFault → Type 0
OwnBehind was now (Ok None) = now ≡ was
OwnBehind was now (Ok (Some (step.Begin moment))) = Unit {0}
OwnBehind was now (Ok (Some (step.Heard ev))) = (was ≡ true) × (now ≡ true)
OwnBehind was now (Ok (Some step.End)) = now ≡ false
OwnBehind was now (Err f) = now ≡ was

-- whether a record under way is of the track
abbrev pub is_own : (track : ℕ) → Option Record → Bool
is_own track None = false
is_own track (Some r) = r.track == track

-- the bytes of the track's record that stand next
abbrev pub next_own : (own : Bool) → TapeState → (next : List ℕ) → List ℕ
next_own own tape next = if own then take (to_come tape) next else []

-- The records that were read are those that have ended and the one under way. What the port's reader was handed of
-- them is their recording; it told marks of the record under way, behind those of the records before, and perhaps
-- something that the bytes that stand next make known; where it is quiet, all that is known and nothing ahead.
pub record TrackStandsBy (s : Spec) (reader : List ℕ → List Known → Type 0) (tape : TapeState) (track : ℕ)
    (own quiet : Bool) (moment : ℕ) (taken next : List ℕ) (told : List Put) : Type 0 where
  pub parts : List RecordPart
  pub of_tape : TapeStands tape taken parts
  pub ended : List Record
  pub under : Option Record
  pub cut : (more : List RecordPart) → records_from None (parts ++ more) ≡ ended ++ records_from under more
  pub known_told : List Known
  pub of_reader : reader (recording track (ended ++ as_it_stands under)) known_told
  pub still : IsFront known_told (known s (recording track (ended ++ as_it_stands under) ++ next_own own tape next))
  pub is_own : own ≡ is_own track under
  pub all : quiet ≡ true → known_told ≡ known s (recording track (ended ++ as_it_stands under))
  pub fresh : List Sign
  pub signs : known_signs known_told ≡ marks_so_far s (recording track ended) ++ fresh
  pub told_is : told ≡ marks_from s track [] ended ++ puts_at moment fresh
  pub moment_is : moment ≡ last_record_moment (ended ++ as_it_stands under)

abbrev pub TrackStands : (r : TrackReader) (taken next : List ℕ) (told : List Put) → Type 0
TrackStands r taken next told =
    TrackStandsBy (track_spec r) (ReaderStands r.reader) r.tape r.track r.own (not r.own) r.moment taken next told

pub record TrackGone (old new : TrackReader) (input left : List ℕ) (signs : List Sign) (taken : List ℕ)
    (told : List Put) : Type 0 where
  pub bytes : List ℕ
  pub front : input ≡ bytes ++ left
  pub stands : TrackStands new (taken ++ bytes) left (told ++ puts_at new.moment signs)

abbrev pub TrackGoes : (old new : TrackReader) (input left : List ℕ) (signs : List Sign) → Type 0
TrackGoes old new input left signs =
    (taken : List ℕ) (told : List Put) → TrackStands old taken input told →
    TrackGone old new input left signs taken told

pub record TrackQuiet (r : TrackReader) (taken next : List ℕ) (told : List Put) : Type 0 where
  pub stands : TrackStandsBy (track_spec r) (ReaderStands r.reader) r.tape r.track r.own true r.moment taken next told
  pub none_next : next_own r.own r.tape next ≡ []

-- so it stands for these bytes, whatever follows
pub record TrackTold (r : TrackReader) (bytes : List ℕ) : Type 0 where
  pub of_reader : ReaderStands r.reader (recording r.track (track_records bytes))
      (known (track_spec r) (recording r.track (track_records bytes)))
  pub moment : r.moment ≡ last_record_moment (track_records bytes)
  pub stands : (more : List ℕ) → TrackStands r bytes more (track_marks_so_far (track_spec r) r.track bytes)

-- what an answer says of the tape's fault
abbrev pub fault_told : Result (Option TrackStep) TapeFault → Option TapeFault
fault_told (Ok told) = None
fault_told (Err f) = Some f

-- the same spec, track and moment, and a record of the track is under way or none is
pub record IsSameTrack (was now : TrackReader) : Type 0 where
  pub spec : track_spec now ≡ track_spec was
  pub track : now.track ≡ was.track
  pub own : now.own ≡ was.own
  pub moment : now.moment ≡ was.moment
