-- A file that is written mark by mark: the events so far, spelled, the moment of the last one, and what the open SysEx
-- has.
--
--   TrackWriting         a writer's value
--   put_behind w m s     behind one mark more
--   closed w             the bytes that an open SysEx would still add
--   TrackWrites w puts   the writer was put these marks, of which a file can be
--   FullBy puts m s answer   what an answer to a mark says of those put before: of a gap, of the track, of neither
--   head_bytes n, end_bytes  the file before the events, the track having n bytes, and behind them
--   broken_head ticks count  before the data of a SysEx that is broken off, of which there are so many
use Rattle.std.specs.Prelude.{◌≡◌, ℕ, ◌+◌, Bool, true, false, nat_lt, if◌then◌else◌, Result, Ok, Err, List, []}
use Rattle.std.specs.Prelude.{◌∷◌, ◌++◌, length, Option, Some, None}
use Rattle.mb_message.specs.Signs.{Sign}
use Rattle.mb_stream.specs.Denotation.{stays_open}
use Rattle.mb_stream.specs.Puts.{Put, At, last_put, signs_in}
use Rattle.mb_stream.specs.Standing.{is_open}
use Rattle.mb_frames.specs.Numbers.{spelled}
use Rattle.mb_smf.specs.declared.writer.SmfFull.{SmfFull}
use Rattle.mb_smf.specs.declared.writer.SmfFull.TheVariants as full
use Rattle.mb_smf.specs.SmfEvents.{delta_bytes, end_event, events_bytes, header_chunk, quantity}
use Rattle.mb_smf.specs.SmfWritten.{CanBeWritten, MomentEvent, a_second, closing, comes_late, is_too_long, data_after}
use Rattle.mb_smf.specs.SmfWritten.{data_behind, deltas}
use Rattle.mb_smf.specs.SmfWritten.{event_by, is_gap, last_event, longest, recorded, recorded_from, so_far_from}

pub record TrackWriting : Type 0 where
  pub body : List ℕ
  pub last : Option ℕ
  pub data_bytes : List ℕ
  pub open_now : Bool
  pub moment : ℕ

abbrev pub nothing_written : TrackWriting
nothing_written = record { body = []; last = None; data_bytes = []; open_now = false; moment = 0 }

abbrev pub spelled_behind : (found : Option ℕ) → List MomentEvent → List ℕ
spelled_behind found es = events_bytes (deltas found es)

abbrev pub put_behind : TrackWriting → (moment : ℕ) → Sign → TrackWriting
put_behind w m s = record {
  body = w.body ++ spelled_behind w.last (event_by w.data_bytes m s);
  last = last_event w.last (event_by w.data_bytes m s);
  data_bytes = data_behind w.data_bytes s;
  open_now = stays_open w.open_now (s ∷ []);
  moment = m;
}

abbrev pub closed : TrackWriting → List ℕ
closed w = spelled_behind w.last (closing w.data_bytes w.open_now w.moment)

-- the track's tempo and end have eleven bytes
abbrev pub is_full : TrackWriting → Bool
is_full w = nat_lt longest (11 + length (w.body ++ closed w))

-- what is kept is what the events of these marks are spelled as, so far
pub record TrackSpells (w : TrackWriting) (puts : List Put) : Type 0 where
  pub last_is : w.last ≡ last_event None (so_far_from [] puts)
  pub data_is : w.data_bytes ≡ data_after [] puts
  pub rest : (more : List Put) → spelled_behind None (recorded (puts ++ more))
      ≡ w.body ++ spelled_behind w.last (recorded_from w.data_bytes w.open_now w.moment more)

-- A file of these marks can be.
pub record TrackWrites (w : TrackWriting) (puts : List Put) : Type 0 where
  pub spells : TrackSpells w puts
  pub can : CanBeWritten puts
  pub open_is : w.open_now ≡ is_open (signs_in puts)
  pub moment_is : w.moment ≡ last_put 0 puts

-- the moment of the last event, where one at this moment comes too late
abbrev pub gap_behind : Option ℕ → ℕ → Option ℕ
gap_behind None moment = None
gap_behind (Some was) moment = if is_gap (Some was) moment then Some was else None

abbrev pub FullBy : List Put → (moment : ℕ) → Sign → Result (Unit {0}) SmfFull → Type 0
FullBy puts m s (Ok done) = (comes_late puts m ≡ false) × (is_too_long (puts ++ At m s ∷ []) ≡ false)
FullBy puts m s (Err (full.Gap was now)) =
    (comes_late puts m ≡ true) × (last_event None (so_far_from [] puts) ≡ Some was) × (now ≡ m)
FullBy puts m s (Err full.Track) = (comes_late puts m ≡ false) × (is_too_long (puts ++ At m s ∷ []) ≡ true)
FullBy puts m s (Err (full.Memory memory)) = comes_late puts m ≡ false

abbrev pub head_bytes : (length : ℕ) → List ℕ
head_bytes n = header_chunk 1000 [] ++ (0x4d ∷ 0x54 ∷ 0x72 ∷ 0x6b ∷ (spelled 4 n ++ delta_bytes a_second))

abbrev pub end_bytes : List ℕ
end_bytes = delta_bytes (end_event 0)

abbrev pub broken_head : (ticks count : ℕ) → List ℕ
broken_head ticks count = quantity ticks ++ 0xf7 ∷ (quantity (count + 1) ++ 0xf0 ∷ [])
