-- Reading a file from pieces.
--
--   SmfState                    where the reader stands, and the byte that is still to be given, if there is one
--   read_behind r bytes         what is to be read of what follows
--   given_by answer             what an answer gives
--   SmfTakes old new input ..   a step: whatever follows, what was to be read of it is the answer, and then what is to
--                               be read from the new state on
--   SmfStands r bytes given     the reader has taken these bytes and given this
--   FaultAnswered r answer      a fault is answered exactly where the reader stands at one
--   LentFrom input left part    a run is bytes of the input, side by side, right before what is left of it
--   smf_owed r                  1 where a byte is to be given that was taken
use Rattle.std.specs.Prelude.{◌≡◌, ℕ, ◌+◌, ◌-◌, nat_le, min, if◌then◌else◌, List, [], ◌∷◌, ◌++◌, Option, Some, None}
use Rattle.std.specs.Prelude.{Result, Ok, Err}
use Rattle.mb_frames.specs.Gathered.{TimedByte}
use Rattle.mb_smf.specs.Smf.{SmfRead, behind_given, file_behind, file_fault, fresh_file, given_at, smf, smf_from}
use Rattle.mb_smf.specs.TrackSteps.{gives_bytes}
use Rattle.mb_smf.specs.TrackTime.{track_moment}
use Rattle.mb_smf.specs.declared.file_place.FilePlace.{FilePlace}
use Rattle.mb_smf.specs.declared.file_place.FilePlace.TheVariants as at
use Rattle.mb_smf.specs.declared.file_state.FileState.{FileState}
use Rattle.mb_smf.specs.declared.fault.SmfFault.{SmfFault}
use Rattle.mb_smf.specs.declared.reader.SmfPart.{SmfPart}
use Rattle.mb_smf.specs.declared.reader.SmfPart.TheVariants as part

pub record SmfState : Type 0 where
  pub file : FileState
  pub owed : Option ℕ

abbrev pub fresh_smf : SmfState
fresh_smf = record { file = fresh_file; owed = None }

abbrev pub given_ahead : FileState → Option ℕ → List TimedByte
given_ahead s None = []
given_ahead s (Some b) = given_at (track_moment s.clock) (b ∷ [])

abbrev pub read_behind : SmfState → List ℕ → SmfRead
read_behind r bytes = behind_given (given_ahead r.file r.owed) (smf_from r.file bytes)

abbrev pub given_part : SmfPart → List TimedByte
given_part (part.Byte moment byte) = given_at moment (byte ∷ [])
given_part (part.Run moment bytes) = given_at moment bytes.now

abbrev pub given_some : Option SmfPart → List TimedByte
given_some None = []
given_some (Some p) = given_part p

abbrev pub given_by : Result (Option SmfPart) SmfFault → List TimedByte
given_by (Ok answer) = given_some answer
given_by (Err fault) = []

pub record SmfTakes (old new : SmfState) (input left : List ℕ) (given : List TimedByte) : Type 0 where
  pub taken : List ℕ
  pub front : input ≡ taken ++ left
  pub rest : (more : List ℕ) → read_behind old (taken ++ more) ≡ behind_given given (read_behind new more)
  pub state : file_behind old.file taken ≡ new.file

pub record SmfStands (now : SmfState) (bytes : List ℕ) (given : List TimedByte) : Type 0 where
  pub rest : (more : List ℕ) → smf (bytes ++ more) ≡ behind_given given (read_behind now more)
  pub state : file_behind fresh_file bytes ≡ now.file

abbrev pub FaultAnswered : SmfState → Result (Option SmfPart) SmfFault → Type 0
FaultAnswered now (Ok None) = (now.owed ≡ None) × (file_fault now.file ≡ None)
FaultAnswered now (Ok (Some p)) = Unit {0}
FaultAnswered now (Err fault) = (now.owed ≡ None) × (file_fault now.file ≡ Some fault)

abbrev pub LentFrom : (input left : List ℕ) → SmfPart → Type 0
LentFrom input left (part.Byte moment byte) = Unit {0}
LentFrom input left (part.Run moment bytes) = (before : List ℕ) × (input ≡ before ++ (bytes.now ++ left))

abbrev pub smf_owed : Option ℕ → ℕ
smf_owed None = 0
smf_owed (Some b) = 1

-- How many bytes may be lent at once: of an F0 or F7 event, and less than the chunk has, whose last byte may show a
-- fault.
abbrev pub run_room_at : FilePlace → (event left : ℕ) → ℕ
run_room_at (at.Bytes k) event left = if gives_bytes k then min event (left - 1) else 0
run_room_at _ event left = 0

abbrev pub run_room : FileState → ℕ
run_room s = run_room_at s.place s.event s.left

-- behind so many bytes of an F0 or F7 event
abbrev pub behind_run : FileState → ℕ → FileState
behind_run s count = record s {
  offset = s.offset + count;
  place = if nat_le s.event count then at.Delta 0 else s.place;
  number = if nat_le s.event count then 0 else s.number;
  left = s.left - count;
  event = s.event - count;
}
