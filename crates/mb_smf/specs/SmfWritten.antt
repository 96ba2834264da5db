-- What a list of marks with moments is written as: a Standard MIDI File of format 0 with a second a quarter note and
-- 1,000 ticks in it, so that a tick is a millisecond (Standard MIDI Files 1.0, "Header Chunks", "MTrk events"). The
-- division, the tempo and the form of each event are this project's own.
--
-- Moments are microseconds.
--
--   recorded puts            one event for each mark but the starts and the data of SysEx, at its mark's moment
--   deltas found events      each behind its delta, the moment of the event before being known
--   written_track puts       the track of a list of marks, a SysEx that is open at its end as a broken one
--   smf_written puts         the file
--   comes_late puts moment   a mark at this moment comes too late behind the last event
--   is_too_long puts         the track is too long
--   CanBeWritten puts        none of this is so of the marks, and they may stand so
--   written_given puts       what the file gives, each byte with its moment
use Rattle.std.specs.Prelude.{◌≡◌, ℕ, ◌-◌, ◌*◌, ◌/◌, ◌^◌, Bool, true, false, not, ◌&&◌, nat_lt, nat_le, if◌then◌else◌}
use Rattle.std.specs.Prelude.{List, []}
use Rattle.std.specs.Prelude.{◌∷◌, ◌++◌, length, flat_map, Option, Some, None}
use Rattle.mb_message.specs.Bytes.{is_channel}
use Rattle.mb_message.specs.Signs.{Sign, ShortSign, RtSign, OpenSign, ByteSign, EndSign, AbortSign}
use Rattle.mb_stream.specs.Denotation.{stays_open}
use Rattle.mb_stream.specs.Puts.{Put, At, Flush, signs_in}
use Rattle.mb_stream.specs.Spelling.{spelled}
use Rattle.mb_stream.specs.Standing.{AreValid, suited}
use Rattle.mb_frames.specs.Gathered.{TimedByte}
use Rattle.mb_smf.specs.Smf.{given_at}
use Rattle.mb_smf.specs.SmfEvents.{TrackEvent, ChannelEvent, SysexEvent, EscapeEvent, MetaEvent, DeltaEvent}
use Rattle.mb_smf.specs.SmfEvents.{event_given, midi_file, plain_file, track}

pub record MomentEvent : Type 0 where
  pub moment : ℕ
  pub event : TrackEvent

-- Channel messages as they are, System Common and real-time messages as F7 events; a whole SysEx as an F0 event, a
-- broken one as an F7 event of its F0 and its data.
abbrev pub short_event : (status data1 data2 : ℕ) → TrackEvent
short_event s a b = if is_channel s then ChannelEvent s a b else EscapeEvent (spelled (ShortSign s a b))

abbrev pub whole_event : List ℕ → TrackEvent
whole_event ds = SysexEvent (ds ++ 0xf7 ∷ [])

abbrev pub broken_event : List ℕ → TrackEvent
broken_event ds = EscapeEvent (0xf0 ∷ ds)

abbrev pub one_at : (moment : ℕ) → TrackEvent → List MomentEvent
one_at moment event = record { moment = moment; event = event } ∷ []

-- what a mark adds, the data of the open SysEx being known
abbrev pub event_by : (data_bytes : List ℕ) → (moment : ℕ) → Sign → List MomentEvent
event_by ds m (ShortSign s a b) = one_at m (short_event s a b)
event_by ds m (RtSign b) = one_at m (EscapeEvent (b ∷ []))
event_by ds m OpenSign = []
event_by ds m (ByteSign b) = []
event_by ds m EndSign = one_at m (whole_event ds)
event_by ds m AbortSign = one_at m (broken_event ds)

abbrev pub data_behind : List ℕ → Sign → List ℕ
data_behind ds (ShortSign s a b) = ds
data_behind ds (RtSign b) = ds
data_behind ds (ByteSign b) = ds ++ b ∷ []
data_behind ds _ = []

-- a SysEx that is open at the end is broken off at the last moment
abbrev pub closing : (data_bytes : List ℕ) → (open_now : Bool) → (last : ℕ) → List MomentEvent
closing ds false last = []
closing ds true last = one_at last (broken_event ds)

-- the data of the open SysEx, whether one is open, and the last moment
abbrev pub recorded_from : (data_bytes : List ℕ) → (open_now : Bool) → (last : ℕ) → List Put → List MomentEvent
recorded_from ds open_now last [] = closing ds open_now last
recorded_from ds open_now last (At m s ∷ puts) =
    event_by ds m s ++ recorded_from (data_behind ds s) (stays_open open_now (s ∷ [])) m puts
recorded_from ds open_now last (Flush ∷ puts) = recorded_from ds open_now last puts

abbrev pub recorded : List Put → List MomentEvent
recorded puts = recorded_from [] false 0 puts

-- A delta is the milliseconds of the event less those of the event before it, and 0 for the first.
abbrev pub ticks_behind : Option ℕ → ℕ → ℕ
ticks_behind None moment = 0
ticks_behind (Some was) moment = moment / 1000 - was / 1000

abbrev pub deltas : (found : Option ℕ) → List MomentEvent → List DeltaEvent
deltas found [] = []
deltas found (e ∷ es) =
    record { delta = ticks_behind found e.moment; event = e.event } ∷ deltas (Some e.moment) es

abbrev pub a_second : DeltaEvent
a_second = record { delta = 0; event = MetaEvent 0x51 (0x0f ∷ 0x42 ∷ 0x40 ∷ []) }

-- the tempo, the events of the marks
abbrev pub written_events : List Put → List DeltaEvent
written_events puts = a_second ∷ deltas None (recorded puts)

abbrev pub written_track : List Put → List ℕ
written_track puts = track (written_events puts) 0

abbrev pub smf_written : List Put → List ℕ
smf_written puts = midi_file (plain_file 1000 (written_events puts) 0)

-- the longest track, and the greatest delta
abbrev pub longest : ℕ
longest = 268435455

abbrev pub last_event : Option ℕ → List MomentEvent → Option ℕ
last_event found [] = found
last_event found (e ∷ es) = last_event (Some e.moment) es

-- the events of the marks so far, and the data of the open SysEx
abbrev pub so_far_from : (data_bytes : List ℕ) → List Put → List MomentEvent
so_far_from ds [] = []
so_far_from ds (At m s ∷ puts) = event_by ds m s ++ so_far_from (data_behind ds s) puts
so_far_from ds (Flush ∷ puts) = so_far_from ds puts

abbrev pub data_after : (data_bytes : List ℕ) → List Put → List ℕ
data_after ds [] = ds
data_after ds (At m s ∷ puts) = data_after (data_behind ds s) puts
data_after ds (Flush ∷ puts) = data_after ds puts

abbrev pub is_gap : Option ℕ → ℕ → Bool
is_gap found moment = nat_lt longest (ticks_behind found moment)

-- Its event, or the one that would break its SysEx now, would have a greater delta than there is.
abbrev pub comes_late : List Put → (moment : ℕ) → Bool
comes_late puts moment = is_gap (last_event None (so_far_from [] puts)) moment

abbrev pub is_too_long : List Put → Bool
is_too_long puts = nat_lt longest (length (written_track puts))

-- no mark comes late, the last event before them and the data of the open SysEx being known
abbrev pub none_late_from : (found : Option ℕ) → (data_bytes : List ℕ) → List Put → Bool
none_late_from found ds [] = true
none_late_from found ds (At m s ∷ puts) =
    not (is_gap found m) && none_late_from (last_event found (event_by ds m s)) (data_behind ds s) puts
none_late_from found ds (Flush ∷ puts) = none_late_from found ds puts

abbrev pub none_late : List Put → Bool
none_late puts = none_late_from None [] puts

-- moments don't fall, and fit in eight bytes
abbrev pub moments_rise : (last : ℕ) → List Put → Bool
moments_rise last [] = true
moments_rise last (At m s ∷ puts) = nat_le last m && nat_lt m (2 ^ 64) && moments_rise m puts
moments_rise last (Flush ∷ puts) = moments_rise last puts

-- a file of these marks can be
pub record CanBeWritten (puts : List Put) : Type 0 where
  pub suits : suited (signs_in puts) ≡ true
  pub valid : AreValid (signs_in puts)
  pub rise : moments_rise 0 puts ≡ true
  pub near : none_late puts ≡ true
  pub short : is_too_long puts ≡ false

-- What the file gives: the bytes of each event, a thousand microseconds for each millisecond from the first one on.
abbrev pub given_since : (first : ℕ) → MomentEvent → List TimedByte
given_since first e = given_at (1000 * (e.moment / 1000 - first / 1000)) (event_given e.event)

abbrev pub all_given : List MomentEvent → List TimedByte
all_given [] = []
all_given (e ∷ es) = flat_map (given_since e.moment) (e ∷ es)

abbrev pub written_given : List Put → List TimedByte
written_given puts = all_given (recorded puts)
