-- A Standard MIDI File of format 0 that is read (Standard MIDI Files 1.0): the bytes that its track's events carry,
-- each with its moment in microseconds, and perhaps a fault. Any list of bytes is read, byte by byte: the header chunk
-- and other chunks (`HeaderSteps`), the track chunk with its events (`TrackSteps`), and nothing of what follows it. A
-- law says how a file of events is read.
--
--   fresh_file             before the first byte
--   file_step s b          a byte: what it gives, and the state behind it
--   SmfRead                what is read: the bytes that are given, and the fault
--   smf_from s bytes       the bytes from a state on
--   smf bytes              a file
--   bare_bytes given       what is given, without moments
--   smf_ended bytes        whether the track's end was read
use Rattle.std.specs.Prelude.{ℕ, ◌+◌, Bool, true, false, if◌then◌else◌, List, [], ◌∷◌, ◌++◌, map, Option, Some, None}
use Rattle.mb_frames.specs.Gathered.{TimedByte}
use Rattle.mb_smf.specs.FileStep.{FileStep, goes}
use Rattle.mb_smf.specs.HeaderSteps.{in_magic, in_header_length, in_kind, in_division, in_rest, in_name}
use Rattle.mb_smf.specs.HeaderSteps.{in_chunk_length}
use Rattle.mb_smf.specs.TrackSteps.{in_delta, in_first, in_data, in_length, in_bytes, in_chunk, meta_kind}
use Rattle.mb_smf.specs.TrackTime.{track_moment, first_tempo}
use Rattle.mb_smf.specs.declared.file_place.FilePlace.{FilePlace}
use Rattle.mb_smf.specs.declared.file_place.FilePlace.TheVariants as at
use Rattle.mb_smf.specs.declared.file_state.FileState.{FileState}
use Rattle.mb_smf.specs.declared.fault.SmfFault.{SmfFault}

abbrev pub fresh_file : FileState
fresh_file = record {
  offset = 0;
  place = at.Magic 0;
  number = 0;
  left = 0;
  event = 0;
  running = None;
  clock = record { division = 1; tempo = first_tempo; sum = 0 };
}

abbrev pub at_place : FileState → FilePlace → ℕ → FileStep
at_place s (at.Magic i) b = in_magic s i b
at_place s (at.HeaderLength i) b = in_header_length s i b
at_place s (at.Kind i) b = in_kind s i b
at_place s (at.Division i) b = in_division s i b
at_place s at.Rest b = in_rest s
at_place s (at.Name i is_track) b = in_name s i is_track b
at_place s (at.ChunkLength i is_track) b = in_chunk_length s i is_track b
at_place s (at.Delta i) b = in_chunk (in_delta s i b)
at_place s at.First b = in_chunk (in_first s b)
at_place s (at.Data left) b = in_chunk (in_data s left b)
at_place s at.MetaType b = in_chunk (goes (record s { place = at.Length 0 (meta_kind b) }))
at_place s (at.Length i k) b = in_chunk (in_length s i k b)
at_place s (at.Bytes k) b = in_chunk (in_bytes s k b)
at_place s at.Ended b = goes s
at_place s (at.Faulted w) b = goes s

abbrev pub is_ended : FilePlace → Bool
is_ended at.Ended = true
is_ended _ = false

abbrev pub is_faulted : FilePlace → Bool
is_faulted (at.Faulted w) = true
is_faulted _ = false

-- a byte that shows a fault stays where it is
abbrev pub moved : (offset : ℕ) → FileStep → FileStep
moved offset step = record {
  given = step.given;
  now = record step.now { offset = if is_faulted step.now.place then offset else offset + 1 };
}

abbrev pub file_step : FileState → ℕ → FileStep
file_step s b = moved s.offset (at_place s s.place b)

abbrev pub file_fault_at : (offset : ℕ) → FilePlace → Option SmfFault
file_fault_at offset (at.Faulted w) = Some (record { at = offset; why = w })
file_fault_at offset _ = None

abbrev pub file_fault : FileState → Option SmfFault
file_fault s = file_fault_at s.offset s.place

pub record SmfRead : Type 0 where
  pub given : List TimedByte
  pub fault : Option SmfFault

abbrev pub given_at : (moment : ℕ) → List ℕ → List TimedByte
given_at moment bytes = map (λ b. record { moment = moment; byte = b }) bytes

abbrev pub bare_bytes : List TimedByte → List ℕ
bare_bytes given = map (λ x. x.byte) given

abbrev pub given_now : FileStep → List TimedByte
given_now step = given_at (track_moment step.now.clock) step.given

abbrev pub behind_given : List TimedByte → SmfRead → SmfRead
behind_given given read = record { given = given ++ read.given; fault = read.fault }

abbrev pub smf_from : FileState → List ℕ → SmfRead
smf_from s [] = record { given = []; fault = file_fault s }
smf_from s (b ∷ bs) = behind_given (given_now (file_step s b)) (smf_from (file_step s b).now bs)

abbrev pub smf : List ℕ → SmfRead
smf bytes = smf_from fresh_file bytes

-- where a state stands behind bytes
abbrev pub file_behind : FileState → List ℕ → FileState
file_behind s [] = s
file_behind s (b ∷ bs) = file_behind (file_step s b).now bs

abbrev pub smf_ended : List ℕ → Bool
smf_ended bytes = is_ended (file_behind fresh_file bytes).place
