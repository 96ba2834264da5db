-- A tape in the second form: its magic once it stands whole, each whole header in the second form, each byte of a
-- record as it is. A tape in the first form has its moments in milliseconds, and is of track 0. What isn't whole yet
-- gives nothing, nor does what follows a fault.
--
--   tape2 bytes                          the same tape in the second form
--   record_in_microseconds second r      a record of a tape of either form, as the second has it
--   step_bytes a b told                  what the second form has of a step from one state to another that told this
--   migrated_from t bytes                what it has of bytes behind others, by where the tape stands
use Rattle.std.specs.Prelude.{ℕ, Bool, true, ◌&&◌, nat_le, if◌then◌else◌, List, [], ◌∷◌, ◌++◌, length, take, flat_map}
use Rattle.mb_frames.specs.Tapes.{Record, RecordPart, RecordBegin, RecordByte, RecordEnd, all_fit_magic, magic, header}
use Rattle.mb_frames.specs.Tapes.{microseconds, tape_parts}
use Rattle.mb_frames.specs.TapeSteps.{TapeState, after, magic_taken, parts_from}

abbrev pub magic_is_whole : List ℕ → Bool
magic_is_whole bytes = nat_le 4 (length bytes) && all_fit_magic 0 (take 4 bytes)

-- a part of a record in the second form
abbrev pub part_bytes : RecordPart → List ℕ
part_bytes (RecordBegin moment track len) = header true moment track len
part_bytes (RecordByte byte) = byte ∷ []
part_bytes RecordEnd = []

abbrev pub tape2 : List ℕ → List ℕ
tape2 bytes = (if magic_is_whole bytes then magic true else []) ++ flat_map part_bytes (tape_parts bytes)

abbrev pub record_in_microseconds : (second : Bool) → Record → Record
record_in_microseconds second r = record r { moment = microseconds second r.moment }

-- the magic, where it became whole
abbrev pub magic_between : (before now : Bool) → List ℕ
magic_between before now = if before then [] else (if now then magic true else [])

abbrev pub step_bytes : (a b : TapeState) (told : List RecordPart) → List ℕ
step_bytes a b told = magic_between (magic_taken a.place) (magic_taken b.place) ++ flat_map part_bytes told

abbrev pub migrated_from : TapeState → List ℕ → List ℕ
migrated_from t bytes = step_bytes t (after t bytes) (parts_from t bytes)
