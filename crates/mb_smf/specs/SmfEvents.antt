-- A Standard MIDI File of format 0 as it is meant (Standard MIDI Files 1.0, "Header Chunks", "Track Chunks", "MTrk
-- events", "Running Status", "Meta-Events", "Set Tempo").
--
--   quantity n             a number below 2^28 as a variable-length quantity
--   TrackEvent             a channel message, the same with its status left out, or an F0, F7 or FF event
--   DeltaEvent             an event behind its delta in ticks
--   track events last      a track, whose end event has the delta `last`
--   midi_file f            a file with one track
--   IsMidiFile f           such a file can be
--   event_given e          the bytes that an event gives
--   events_given t events  the same of all, each byte with its moment in microseconds
--   AreEvents t s events   they may stand in a file at this time, the status s running or none
use Rattle.std.specs.Prelude.{◌≡◌, ◌≢◌, ℕ, ◌+◌, ◌/◌, ◌%◌, ◌^◌, ◌<◌, ◌==◌, nat_lt, true, false, if◌then◌else◌, List, []}
use Rattle.std.specs.Prelude.{◌∷◌, ◌++◌, length, flat_map, Option, Some, None}
use Rattle.std.specs.List.{list_all}
use Rattle.mb_message.specs.Bytes.{is_channel, is_short}
use Rattle.mb_stream.specs.Spelling.{data_of}
use Rattle.mb_frames.specs.Gathered.{TimedByte}
use Rattle.mb_frames.specs.Numbers.{number, spelled}
use Rattle.mb_smf.specs.Smf.{given_at}
use Rattle.mb_smf.specs.TrackTime.{TrackTime, first_tempo, ticks_later, track_moment}

-- "Variable-length quantities": seven bits a byte, the most significant first, bit 7 set on all but the last, in as few
-- bytes as the number needs.
abbrev pub seven_bits : (n shift : ℕ) → ℕ
seven_bits n shift = 128 + n / 2 ^ shift % 128

abbrev pub quantity : ℕ → List ℕ
quantity n =
    if nat_lt n (2 ^ 7) then n ∷ []
    else (if nat_lt n (2 ^ 14) then seven_bits n 7 ∷ (n % 128) ∷ []
    else (if nat_lt n (2 ^ 21) then seven_bits n 14 ∷ seven_bits n 7 ∷ (n % 128) ∷ []
    else seven_bits n 21 ∷ seven_bits n 14 ∷ seven_bits n 7 ∷ (n % 128) ∷ []))

pub data TrackEvent : Type 0 where
  ChannelEvent : (status data1 data2 : ℕ) → TrackEvent
  RunningEvent : (status data1 data2 : ℕ) → TrackEvent
  SysexEvent : (bytes : List ℕ) → TrackEvent
  EscapeEvent : (bytes : List ℕ) → TrackEvent
  MetaEvent : (type : ℕ) → (bytes : List ℕ) → TrackEvent

pub record DeltaEvent : Type 0 where
  pub delta : ℕ
  pub event : TrackEvent

abbrev pub behind_length : List ℕ → List ℕ
behind_length bytes = quantity (length bytes) ++ bytes

-- "MTrk events"; "Running Status"
abbrev pub event_bytes : TrackEvent → List ℕ
event_bytes (ChannelEvent s a b) = s ∷ data_of s a b
event_bytes (RunningEvent s a b) = data_of s a b
event_bytes (SysexEvent bytes) = 0xf0 ∷ behind_length bytes
event_bytes (EscapeEvent bytes) = 0xf7 ∷ behind_length bytes
event_bytes (MetaEvent type bytes) = 0xff ∷ type ∷ behind_length bytes

abbrev pub delta_bytes : DeltaEvent → List ℕ
delta_bytes d = quantity d.delta ++ event_bytes d.event

abbrev pub events_bytes : List DeltaEvent → List ℕ
events_bytes events = flat_map delta_bytes events

-- "End of Track": FF 2F 00, the last event
abbrev pub end_event : (delta : ℕ) → DeltaEvent
end_event delta = record { delta = delta; event = MetaEvent 0x2f [] }

abbrev pub track : List DeltaEvent → (last : ℕ) → List ℕ
track events last = events_bytes events ++ delta_bytes (end_event last)

-- "Header Chunks": "MThd", the length, format 0, one track, the division, and what a later standard may add
abbrev pub header_chunk : (division : ℕ) → (more : List ℕ) → List ℕ
header_chunk division more = 0x4d ∷ 0x54 ∷ 0x68 ∷ 0x64 ∷
    (spelled 4 (6 + length more) ++ (spelled 2 0 ++ (spelled 2 1 ++ (spelled 2 division ++ more))))

-- "Chunks": "MTrk", the length, the track; and chunks of other types
abbrev pub track_type : List ℕ
track_type = 0x4d ∷ 0x54 ∷ 0x72 ∷ 0x6b ∷ []

abbrev pub track_chunk : List ℕ → List ℕ
track_chunk bytes = track_type ++ (spelled 4 (length bytes) ++ bytes)

pub record OtherChunk : Type 0 where
  pub type : List ℕ
  pub bytes : List ℕ

abbrev pub chunk_bytes : OtherChunk → List ℕ
chunk_bytes c = c.type ++ (spelled 4 (length c.bytes) ++ c.bytes)

-- the division, what the header has more, the chunks before the track's, the events, and the delta of the last one
pub record MidiFile : Type 0 where
  pub division : ℕ
  pub header_more : List ℕ
  pub others : List OtherChunk
  pub events : List DeltaEvent
  pub last : ℕ

abbrev pub midi_file : MidiFile → List ℕ
midi_file f =
    header_chunk f.division f.header_more ++ (flat_map chunk_bytes f.others ++ track_chunk (track f.events f.last))

-- with nothing that a later standard may add
abbrev pub plain_file : (division : ℕ) → List DeltaEvent → (last : ℕ) → MidiFile
plain_file division events last =
    record { division = division; header_more = []; others = []; events = events; last = last }

-- A channel message gives its status, where it was left out too; an F0 event F0 and its bytes, an F7 event its bytes.
abbrev pub event_given : TrackEvent → List ℕ
event_given (ChannelEvent s a b) = s ∷ data_of s a b
event_given (RunningEvent s a b) = s ∷ data_of s a b
event_given (SysexEvent bytes) = 0xf0 ∷ bytes
event_given (EscapeEvent bytes) = bytes
event_given (MetaEvent type bytes) = []

-- "Set Tempo": FF 51 03 and three bytes
abbrev pub tempo_behind : (tempo : ℕ) → TrackEvent → ℕ
tempo_behind tempo (MetaEvent type bytes) = if type == 0x51 then number bytes else tempo
tempo_behind tempo e = tempo

abbrev pub time_behind : TrackTime → DeltaEvent → TrackTime
time_behind t d = record {
  division = t.division;
  tempo = tempo_behind t.tempo d.event;
  sum = (ticks_later t d.delta).sum;
}

abbrev pub first_time : (division : ℕ) → TrackTime
first_time division = record { division = division; tempo = first_tempo; sum = 0 }

abbrev pub events_given : TrackTime → List DeltaEvent → List TimedByte
events_given t [] = []
events_given t (d ∷ ds) =
    given_at (track_moment (ticks_later t d.delta)) (event_given d.event) ++ events_given (time_behind t d) ds

-- "Running Status": of the last channel message, behind which no F0, F7 or FF event stands
abbrev pub running_behind : TrackEvent → Option ℕ
running_behind (ChannelEvent s a b) = Some s
running_behind (RunningEvent s a b) = Some s
running_behind (SysexEvent bytes) = None
running_behind (EscapeEvent bytes) = None
running_behind (MetaEvent type bytes) = None

abbrev pub IsTempo : List ℕ → Type 0
IsTempo bytes = (length bytes ≡ 3) × (list_all (λ b. nat_lt b 256) bytes ≡ true)

abbrev pub IsEvent : (running : Option ℕ) → TrackEvent → Type 0
IsEvent running (ChannelEvent s a b) = (is_channel s ≡ true) × (is_short s a b ≡ true)
IsEvent running (RunningEvent s a b) = (running ≡ Some s) × (is_channel s ≡ true) × (is_short s a b ≡ true)
IsEvent running (SysexEvent bytes) = length bytes < 2 ^ 28
IsEvent running (EscapeEvent bytes) = length bytes < 2 ^ 28
IsEvent running (MetaEvent type bytes) =
    (length bytes < 2 ^ 28) × ((type == 0x2f) ≡ false) × ((type == 0x51) ≡ true → IsTempo bytes)

-- a delta fits in four bytes, and the moment behind it in eight
pub record IsDelta (t : TrackTime) (delta : ℕ) : Type 0 where
  pub fits : delta < 2 ^ 28
  pub near : track_moment (ticks_later t delta) < 2 ^ 64

abbrev pub AreEvents : TrackTime → (running : Option ℕ) → List DeltaEvent → (last : ℕ) → Type 0
AreEvents t running [] last = IsDelta t last
AreEvents t running (d ∷ ds) last =
    IsDelta t d.delta × IsEvent running d.event × AreEvents (time_behind t d) (running_behind d.event) ds last

pub record IsOther (c : OtherChunk) : Type 0 where
  pub four : length c.type ≡ 4
  pub no_track : c.type ≢ track_type
  pub short : length c.bytes < 2 ^ 32

abbrev pub AreOthers : List OtherChunk → Type 0
AreOthers [] = Unit {0}
AreOthers (c ∷ cs) = IsOther c × AreOthers cs

-- such a file can be
pub record IsMidiFile (f : MidiFile) : Type 0 where
  pub some : 0 < f.division
  pub ticks : f.division < 0x8000
  pub header_fits : 6 + length f.header_more < 2 ^ 32
  pub others_are : AreOthers f.others
  pub events_are : AreEvents (first_time f.division) None f.events f.last
  pub short : length (track f.events f.last) < 2 ^ 32
