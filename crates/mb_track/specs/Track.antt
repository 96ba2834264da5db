-- One track of a tape as its port hears it. The bytes of the track's records, joined, are a recording, which records
-- may cut anywhere. A mark has the moment of the record with which it becomes known; what only the end makes known has
-- the moment of the tape's last record, of whatever track, whose header stands whole. All of it is the project's own.
--
--   records_of parts                  the records that parts of a tape tell, the last one as far as its bytes stand
--   track_records tape                those of a tape, with their moments in microseconds
--   recording track records           the bytes of the track's records, joined
--   new_marks s before more           the marks that more bytes make known of a recording
--   last_record_moment records        the moment of the last record, and 0 before any
--   marks_from s track before rs      the marks of records behind a recording
--   track_marks_so_far s track tape   those that become known at the tape's bytes
--   track_end s track tape            those that only its end makes known
--   track_marks s track tape          both
--   track_whole s track tape          neither the tape nor the recording stops inside a record or a packet
use Rattle.std.specs.Prelude.{ℕ, Bool, ◌&&◌, ◌==◌, if◌then◌else◌, List, [], ◌∷◌, ◌++◌, length, drop, flat_map, Option}
use Rattle.std.specs.Prelude.{Some, None}
use Rattle.mb_message.specs.Signs.{Sign}
use Rattle.mb_stream.specs.Puts.{Put, puts_at}
use Rattle.mb_stream.specs.Reading.{told_signs}
use Rattle.mb_frames.specs.Tapes.{Record, RecordPart, RecordBegin, RecordByte, RecordEnd, tape_parts, tape_whole}
use Rattle.mb_carrier.specs.Carrier.{marks_so_far, end_told, whole}
use Rattle.mb_carrier.specs.declared.spec.Spec.{Spec}

abbrev pub begun : (moment track : ℕ) → Record
begun moment track = record { moment = moment; track = track; bytes = [] }

abbrev pub with_bytes : Record → List ℕ → Record
with_bytes r bytes = record r { bytes = r.bytes ++ bytes }

-- a record under way, if one is, as it stands
abbrev pub as_it_stands : Option Record → List Record
as_it_stands None = []
as_it_stands (Some r) = r ∷ []

-- the records of parts, one being under way or none
abbrev pub records_from : Option Record → List RecordPart → List Record
records_from under [] = as_it_stands under
records_from under (RecordBegin moment track len ∷ ps) =
    as_it_stands under ++ records_from (Some (begun moment track)) ps
records_from None (RecordByte b ∷ ps) = records_from None ps
records_from (Some r) (RecordByte b ∷ ps) = records_from (Some (with_bytes r (b ∷ []))) ps
records_from under (RecordEnd ∷ ps) = as_it_stands under ++ records_from None ps

abbrev pub records_of : List RecordPart → List Record
records_of parts = records_from None parts

abbrev pub track_records : (tape : List ℕ) → List Record
track_records tape = records_of (tape_parts tape)

abbrev pub bytes_on : (track : ℕ) → Record → List ℕ
bytes_on track r = if r.track == track then r.bytes else []

abbrev pub recording : (track : ℕ) → List Record → List ℕ
recording track rs = flat_map (bytes_on track) rs

abbrev pub new_marks : Spec → (before more : List ℕ) → List Sign
new_marks s before more = drop (length (marks_so_far s before)) (marks_so_far s (before ++ more))

abbrev pub last_record_moment : List Record → ℕ
last_record_moment [] = 0
last_record_moment (r ∷ []) = r.moment
last_record_moment (r ∷ s ∷ rs) = last_record_moment (s ∷ rs)

abbrev pub marks_from : Spec → (track : ℕ) → (before : List ℕ) → List Record → List Put
marks_from s track before [] = []
marks_from s track before (r ∷ rs) =
    puts_at r.moment (new_marks s before (bytes_on track r)) ++ marks_from s track (before ++ bytes_on track r) rs

abbrev pub track_marks_so_far : Spec → (track : ℕ) → (tape : List ℕ) → List Put
track_marks_so_far s track tape = marks_from s track [] (track_records tape)

abbrev pub track_end : Spec → (track : ℕ) → (tape : List ℕ) → List Put
track_end s track tape = puts_at (last_record_moment (track_records tape))
    (told_signs (end_told s (recording track (track_records tape))))

abbrev pub track_marks : Spec → (track : ℕ) → (tape : List ℕ) → List Put
track_marks s track tape = track_marks_so_far s track tape ++ track_end s track tape

abbrev pub track_whole : Spec → (track : ℕ) → (tape : List ℕ) → Bool
track_whole s track tape = tape_whole tape && whole s (recording track (track_records tape))
