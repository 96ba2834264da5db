-- The track chunk, byte by byte (Standard MIDI Files 1.0, "Track Chunks", "Variable-length quantities", "MTrk events",
-- "Running Status", "Meta-Events"): events, each behind a delta. The faults' names and places, and that all is given
-- byte by byte, also of an event that stays unfinished, are this project's own.
--
--   in_delta s i b        a byte of a delta
--   in_first s b          an event's first byte
--   in_data s left b      a data byte of a channel event
--   in_length s i k b     a byte of a length
--   in_bytes s k b        a byte of an F0, F7 or FF event
--   in_chunk step         the chunk's last byte: by then its end event must be finished
use Rattle.std.specs.Prelude.{ℕ, ◌+◌, ◌-◌, ◌^◌, Bool, true, false, ◌==◌, nat_lt, nat_le, if◌then◌else◌, [], ◌∷◌}
use Rattle.std.specs.Prelude.{Option, Some, None, unwrap_or}
use Rattle.mb_message.specs.Bytes.{is_data, is_channel, data_length}
use Rattle.mb_smf.specs.FileStep.{FileStep, goes, gives, fails, with_byte, with_seven}
use Rattle.mb_smf.specs.TrackTime.{track_moment, ticks_later}
use Rattle.mb_smf.specs.declared.event_kind.EventKind.{EventKind}
use Rattle.mb_smf.specs.declared.event_kind.EventKind.TheVariants as kind
use Rattle.mb_smf.specs.declared.file_place.FilePlace.{FilePlace}
use Rattle.mb_smf.specs.declared.file_place.FilePlace.TheVariants as at
use Rattle.mb_smf.specs.declared.file_state.FileState.{FileState}
use Rattle.mb_smf.specs.declared.fault.SmfWhy.TheVariants as why

-- the next event begins, by its delta
abbrev pub next_event : FileState → FileState
next_event s = record s { place = at.Delta 0; number = 0 }

abbrev pub delta : FileState → ℕ → FileStep
delta s n =
    if nat_lt (track_moment (ticks_later s.clock n)) (2 ^ 64)
    then goes (record s { place = at.First; number = 0; clock = ticks_later s.clock n })
    else fails s why.Far

-- "Variable-length quantities": seven bits a byte, bit 7 set on all but the last, of four bytes at most.
abbrev pub in_delta : FileState → (i b : ℕ) → FileStep
in_delta s i b =
    if nat_lt b 128 then delta s (with_seven s.number b)
    else (if nat_le 3 i then fails s why.Number
    else goes (record s { place = at.Delta (i + 1); number = with_seven s.number b }))

abbrev pub data_count : ℕ → ℕ
data_count status = unwrap_or (data_length status) 0

-- so many data bytes of a channel event are to come
abbrev pub to_come : FileState → ℕ → FileState
to_come s n = if n == 0 then next_event s else record s { place = at.Data n }

-- "Running Status": the status is given before the first data byte where it was left out
abbrev pub without_status : FileState → Option ℕ → ℕ → FileStep
without_status s None b = fails s why.Event
without_status s (Some status) b =
    record { given = status ∷ b ∷ []; now = to_come s (data_count status - 1) }

abbrev pub in_first : FileState → ℕ → FileStep
in_first s b =
    if is_data b then without_status s s.running b
    else (if is_channel b then gives b (to_come (record s { running = Some b }) (data_count b))
    else (if b == 0xf0 then goes (record s { place = at.Length 0 kind.Sysex; running = None })
    else (if b == 0xf7 then goes (record s { place = at.Length 0 kind.Escape; running = None })
    else (if b == 0xff then goes (record s { place = at.MetaType; running = None }) else fails s why.Event))))

abbrev pub in_data : FileState → (left b : ℕ) → FileStep
in_data s left b = if is_data b then gives b (to_come s (left - 1)) else fails s why.Event

-- "Meta-Events": FF, type, length, bytes
abbrev pub meta_kind : ℕ → EventKind
meta_kind type = if type == 0x51 then kind.Tempo else (if type == 0x2f then kind.End else kind.Other)

-- behind the last byte of an event
abbrev pub event_ended : FileState → EventKind → FileState
event_ended s kind.End = record s { place = at.Ended }
event_ended s kind.Tempo = next_event (record s { clock = record s.clock { tempo = s.number } })
event_ended s k = next_event s

-- so many bytes of an event are to come
abbrev pub with_bytes : FileState → EventKind → ℕ → FileState
with_bytes s k n = if n == 0 then event_ended s k else record s { place = at.Bytes k; event = n; number = 0 }

abbrev pub length_of : FileState → EventKind → ℕ → FileStep
length_of s kind.Sysex n = gives 0xf0 (with_bytes s kind.Sysex n)
length_of s kind.Tempo n = if n == 3 then goes (with_bytes s kind.Tempo n) else fails s why.Tempo
length_of s k n = goes (with_bytes s k n)

abbrev pub in_length : FileState → (i : ℕ) → EventKind → ℕ → FileStep
in_length s i k b =
    if nat_lt b 128 then length_of s k (with_seven s.number b)
    else (if nat_le 3 i then fails s why.Number
    else goes (record s { place = at.Length (i + 1) k; number = with_seven s.number b }))

-- whether the bytes of such an event are given
abbrev pub gives_bytes : EventKind → Bool
gives_bytes kind.Sysex = true
gives_bytes kind.Escape = true
gives_bytes _ = false

-- the bytes of a tempo are a number
abbrev pub number_behind : EventKind → (number b : ℕ) → ℕ
number_behind kind.Tempo n b = with_byte n b
number_behind k n b = n

-- one byte less of an event to come
abbrev pub in_event : FileState → EventKind → ℕ → FileState
in_event s k b =
    let now : FileState = record s { event = s.event - 1; number = number_behind k s.number b } in
    if nat_le s.event 1 then event_ended now k else now

abbrev pub in_bytes : FileState → EventKind → ℕ → FileStep
in_bytes s k b = record { given = if gives_bytes k then b ∷ [] else []; now = in_event s k b }

abbrev pub is_over : FilePlace → Bool
is_over at.Ended = true
is_over (at.Faulted w) = true
is_over _ = false

abbrev pub in_chunk : FileStep → FileStep
in_chunk step =
    if is_over step.now.place then step
    else (if nat_lt 1 step.now.left
    then record { given = step.given; now = record step.now { left = step.now.left - 1 } }
    else fails step.now why.Track)
