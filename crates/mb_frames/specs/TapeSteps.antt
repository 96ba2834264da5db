-- Tapes byte by byte, over one state: the working form. A law says that it tells what the literal form does.
--
--   TapeState                    where a tape stands
--   fresh                        before its first byte
--   tape_behind t byte                where it stands behind one more byte
--   parts_at t byte              what this byte tells
--   after t bytes                where it stands behind these, and the end of a record told
--   parts_from t bytes           what they tell
--   ending_at t                  how a list of bytes ends that stops there
--   ending_from t bytes
--   behind_records second rs     where a tape stands behind these records
--   magic_taken place            whether the magic is whole there
use Rattle.std.specs.Prelude.{ℕ, zero, suc, ◌-◌, ◌==◌, Bool, true, false, not, if◌then◌else◌, List, [], ◌∷◌, ◌++◌}
use Rattle.std.specs.Prelude.{length, Option, Some, None}
use Rattle.mb_frames.specs.Tapes.{Record, RecordPart, RecordBegin, RecordByte, RecordEnd, RecordHeader, header_size}
use Rattle.mb_frames.specs.Tapes.{header_of, header_fault, fits_magic, microseconds, TapeEnd, Whole, Inside, Faulty}
use Rattle.mb_frames.specs.declared.tape.TapeFault.{TapeFault}
use Rattle.mb_frames.specs.declared.tape.TapeFault.TheVariants as fault
use Rattle.mb_frames.specs.declared.tape.Place.{Place}
use Rattle.mb_frames.specs.declared.tape.Place.TheVariants as place

-- In its magic, in a header, in a record of which so many bytes are to come, or behind a fault; the bytes of the magic
-- or header so far; whether it is of the second form; moment and track of the last record.
pub record TapeState : Type 0 where
  pub place : Place
  pub head : List ℕ
  pub second : Bool
  pub last : ℕ
  pub track : ℕ

abbrev pub fresh : TapeState
fresh = record { place = place.Magic; head = []; second = false; last = 0; track = 0 }

abbrev pub magic_step : TapeState → (byte : ℕ) → TapeState
magic_step t byte =
    if not (fits_magic (length t.head) byte) then record t { place = place.Broken fault.Magic }
    else (if length t.head == 3 then record t { place = place.Header; head = []; second = byte == 0x32 }
    else record t { head = t.head ++ byte ∷ [] })

-- behind a whole header
abbrev pub begun : TapeState → RecordHeader → Option TapeFault → TapeState
begun t h (Some f) = record t { place = place.Broken f; head = [] }
begun t h None = record t { place = place.Within h.len; head = []; last = h.moment; track = h.track }

abbrev pub behind_head : TapeState → List ℕ → TapeState
behind_head t head =
    if length head == header_size t.second then
    begun t (header_of t.second head) (header_fault t.second t.last (header_of t.second head))
    else record t { head = head }

abbrev pub tape_behind_by : Place → TapeState → (byte : ℕ) → TapeState
tape_behind_by place.Magic t byte = magic_step t byte
tape_behind_by place.Header t byte = behind_head t (t.head ++ byte ∷ [])
tape_behind_by (place.Within left) t byte = record t { place = place.Within (left - 1) }
tape_behind_by (place.Broken f) t byte = t

-- where it stands behind one more byte
abbrev pub tape_behind : TapeState → (byte : ℕ) → TapeState
tape_behind t byte = tape_behind_by t.place t byte

-- a record whose header is whole
abbrev pub begin_by : Place → TapeState → List RecordPart
begin_by (place.Within left) t = RecordBegin (microseconds t.second t.last) t.track left ∷ []
begin_by place.Magic t = []
begin_by place.Header t = []
begin_by (place.Broken f) t = []

abbrev pub parts_by : Place → TapeState → (byte : ℕ) → List RecordPart
parts_by place.Magic t byte = []
parts_by place.Header t byte = begin_by (tape_behind t byte).place (tape_behind t byte)
parts_by (place.Within left) t byte = RecordByte byte ∷ []
parts_by (place.Broken f) t byte = []

-- what one more byte tells
abbrev pub parts_at : TapeState → (byte : ℕ) → List RecordPart
parts_at t byte = parts_by t.place t byte

-- A record ends with its last byte.
abbrev pub end_by : Place → List RecordPart
end_by place.Magic = []
end_by place.Header = []
end_by (place.Within zero) = RecordEnd ∷ []
end_by (place.Within (suc left)) = []
end_by (place.Broken f) = []

abbrev pub rest_by : Place → Place
rest_by place.Magic = place.Magic
rest_by place.Header = place.Header
rest_by (place.Within zero) = place.Header
rest_by (place.Within (suc left)) = place.Within (suc left)
rest_by (place.Broken f) = place.Broken f

abbrev pub rested : TapeState → TapeState
rested t = record t { place = rest_by t.place }

abbrev pub after : TapeState → List ℕ → TapeState
after t [] = rested t
after t (b ∷ bs) = after (tape_behind (rested t) b) bs

abbrev pub parts_from : TapeState → List ℕ → List RecordPart
parts_from t [] = end_by t.place
parts_from t (b ∷ bs) = end_by t.place ++ (parts_at (rested t) b ++ parts_from (tape_behind (rested t) b) bs)

abbrev pub ending_by : Place → (head : ℕ) → TapeEnd
ending_by place.Magic head = Inside
ending_by place.Header head = if head == 0 then Whole else Inside
ending_by (place.Within left) head = if left == 0 then Whole else Inside
ending_by (place.Broken f) head = Faulty f

abbrev pub ending_at : TapeState → TapeEnd
ending_at t = ending_by t.place (length t.head)

abbrev pub ending_from : TapeState → List ℕ → TapeEnd
ending_from t bytes = ending_at (after t bytes)

-- the state behind records

abbrev pub behind_record : TapeState → Record → TapeState
behind_record t r = record { place = place.Header; head = []; second = t.second; last = r.moment; track = r.track }

abbrev pub behind_from : TapeState → List Record → TapeState
behind_from t [] = record t { place = place.Header; head = [] }
behind_from t (r ∷ rs) = behind_from (behind_record t r) rs

abbrev pub behind_records : (second : Bool) → List Record → TapeState
behind_records second rs =
    behind_from (record { place = place.Header; head = []; second = second; last = 0; track = 0 }) rs

abbrev pub is_magic_fault : TapeFault → Bool
is_magic_fault fault.Magic = true
is_magic_fault (fault.Back was now) = false
is_magic_fault (fault.Far now) = false
is_magic_fault fault.Zero = false

abbrev pub magic_taken : Place → Bool
magic_taken place.Magic = false
magic_taken place.Header = true
magic_taken (place.Within left) = true
magic_taken (place.Broken f) = not (is_magic_fault f)
