-- The bytes that the self-test is made of: units of a byte line, each drawn by a generator of pseudo-random
-- numbers. They are the project's own. What a unit is spelled as is the byte line's (MIDI 1.0 Detailed Specification
-- 4.2, tables I to VI).
--
--   next_state x            the generator's state behind a draw
--   drawn below x           what a draw gives, modulo a bound
--   data_bytes count x      so many data bytes, a draw each
--   state_after draws x     the state behind so many draws
--   Made                    a unit's bytes, the state behind it, and the status that may run on
--   made_by k running x     the unit of a kind, of 0 to 15
--   next_unit running x     the next unit: its kind is drawn first
--   units_from n running x  the bytes of so many units
--   generated start count   the bytes of so many units, the first state given
use Rattle.std.specs.Prelude.{ℕ, zero, suc, ◌+◌, ◌*◌, ◌/◌, ◌%◌, ◌^◌, ◌==◌, nat_lt, if◌then◌else◌, List, [], ◌∷◌, ◌++◌}
use Rattle.std.specs.Prelude.{Option, Some, None, unwrap_or, slice_index}
use Rattle.mb_message.specs.Bytes.{data_length}

-- a linear congruential generator of 31 bits
abbrev pub next_state : ℕ → ℕ
next_state x = (x * 1103515245 + 12345) % 2 ^ 31

-- Its lowest bits repeat soon, so the upper fifteen are drawn.
abbrev pub drawn : (below x : ℕ) → ℕ
drawn below x = next_state x / 65536 % below

abbrev pub data_bytes : (count x : ℕ) → List ℕ
data_bytes zero x = []
data_bytes (suc n) x = drawn 128 x ∷ data_bytes n (next_state x)

abbrev pub state_after : (draws x : ℕ) → ℕ
state_after zero x = x
state_after (suc n) x = state_after n (next_state x)

-- how many data bytes a status has
abbrev pub data_count : (status : ℕ) → ℕ
data_count status = unwrap_or (data_length status) 0

pub record Made : Type 0 where
  pub bytes : List ℕ
  pub state : ℕ
  pub running : Option ℕ

-- the data of a channel status, without the status, which runs on
abbrev pub data_unit : (status x : ℕ) → Made
data_unit status x = record {
  bytes = data_bytes (data_count status) x;
  state = state_after (data_count status) x;
  running = Some status;
}

-- the same behind the status
abbrev pub status_unit : (status x : ℕ) → Made
status_unit status x = record (data_unit status x) { bytes = status ∷ data_bytes (data_count status) x }

-- 80 to EF: one of seven kinds, on one of sixteen channels
abbrev pub channel_status : ℕ → ℕ
channel_status x = 0x80 + 16 * drawn 7 x + drawn 16 (next_state x)

abbrev pub channel_unit : ℕ → Made
channel_unit x = status_unit (channel_status x) (state_after 2 x)

-- data under a running status, where one runs
abbrev pub run_on : (running : Option ℕ) (x : ℕ) → Made
run_on None x = channel_unit x
run_on (Some status) x = data_unit status x

-- what runs goes on behind a real-time byte
abbrev pub realtime_unit : (running : Option ℕ) (x : ℕ) → Made
realtime_unit running x = record {
  bytes = slice_index (0xf8 ∷ 0xfa ∷ 0xfb ∷ 0xfc ∷ 0xfe ∷ 0xff ∷ []) (drawn 6 x) ∷ [];
  state = next_state x;
  running = running;
}

-- nothing runs on behind a System Common message
abbrev pub common_unit : ℕ → Made
common_unit x = record (status_unit (slice_index (0xf1 ∷ 0xf2 ∷ 0xf3 ∷ 0xf6 ∷ []) (drawn 4 x)) (next_state x)) {
  running = None;
}

-- a SysEx of so much data that ends by F7; a clock stands in it where that is odd
abbrev pub whole_sysex : (count x : ℕ) → Made
whole_sysex count x = record {
  bytes = 0xf0 ∷ ((if count % 2 == 1 then 0xf8 ∷ [] else []) ++ data_bytes count x ++ 0xf7 ∷ []);
  state = state_after count x;
  running = None;
}

-- one that the next unit breaks
abbrev pub broken_sysex : (count x : ℕ) → Made
broken_sysex count x = record {
  bytes = 0xf0 ∷ data_bytes count x;
  state = state_after count x;
  running = None;
}

unfoldable pub made_by : (kind : ℕ) (running : Option ℕ) (x : ℕ) → Made
made_by kind running x =
    if nat_lt kind 8 then channel_unit x
    else (if nat_lt kind 10 then run_on running x
    else (if nat_lt kind 12 then realtime_unit running x
    else (if kind == 12 then common_unit x
    else (if nat_lt kind 15 then whole_sysex (drawn 64 x) (next_state x)
    else broken_sysex (drawn 64 x) (next_state x)))))

abbrev pub next_unit : (running : Option ℕ) (x : ℕ) → Made
next_unit running x = made_by (drawn 16 x) running (next_state x)

abbrev pub units_from : (count : ℕ) (running : Option ℕ) (x : ℕ) → List ℕ
units_from zero running x = []
units_from (suc n) running x = (next_unit running x).bytes
    ++ units_from n (next_unit running x).running (next_unit running x).state

-- nothing runs at the start
unfoldable pub generated : (start count : ℕ) → List ℕ
generated start count = units_from count None start
