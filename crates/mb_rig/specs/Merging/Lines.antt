-- What a run of a rig merges: the lines of its sources. The project's own.
--
--   Key                      a moment in microseconds and a link, compared in that order
--   arrival_of key           the key's moment in milliseconds
--   keyed_marks source puts  the marks of a source with their keys
--   Event                    what completes: an item, or a real-time message
--   Line                     its source, its place among the marks of the source, what completes, its key, and for a
--                            SysEx that of its start
--   lines_of source puts     the lines of marks: one for each that completes something
--   Source, marks_of         what a link reads: a track of a tape by a spec; its marks with their moments
use Rattle.std.specs.Prelude.{ℕ, ◌+◌, ◌/◌, Bool, true, false, ◌&&◌, ◌||◌, nat_lt, ◌==◌, List, [], ◌∷◌, ◌++◌}
use Rattle.mb_message.specs.Signs.{Sign, ShortSign, RtSign, OpenSign, ByteSign, EndSign, AbortSign}
use Rattle.mb_stream.specs.Denotation.{Meant, Message, Syx, Broken}
use Rattle.mb_stream.specs.Puts.{Put, At, Flush}
use Rattle.mb_carrier.specs.declared.spec.Spec.{Spec}
use Rattle.mb_track.specs.Track.{track_marks}

pub record Key : Type 0 where
  pub moment : ℕ
  pub link : ℕ

abbrev pub is_below : Key → Key → Bool
is_below a b = nat_lt a.moment b.moment || ((a.moment == b.moment) && nat_lt a.link b.link)

-- in milliseconds
abbrev pub arrival_of : Key → ℕ
arrival_of k = k.moment / 1000

abbrev pub key_at : (moment source : ℕ) → Key
key_at moment source = record { moment = moment; link = source }

abbrev pub keyed_marks : (source : ℕ) → List Put → List (Key × Sign)
keyed_marks source [] = []
keyed_marks source (At moment sign ∷ puts) = (key_at moment source, sign) ∷ keyed_marks source puts
keyed_marks source (Flush ∷ puts) = keyed_marks source puts

pub data Event : Type 0 where
  Ends : (item : Meant) → Event
  Realtime : (byte : ℕ) → Event

abbrev pub is_realtime : Event → Bool
is_realtime (Ends item) = false
is_realtime (Realtime byte) = true

abbrev pub is_sysex : Event → Bool
is_sysex (Ends (Message s a b)) = false
is_sysex (Ends (Syx bytes)) = true
is_sysex (Ends (Broken bytes)) = true
is_sysex (Realtime byte) = false

pub record Line : Type 0 where
  pub source : ℕ
  pub place : ℕ
  pub event : Event
  pub key : Key
  pub begin : Key

abbrev pub line_by : (source place : ℕ) → Event → (key begin : Key) → Line
line_by source place event key begin =
    record { source = source; place = place; event = event; key = key; begin = begin }

-- the lines of marks, a SysEx under way having this start and these data bytes
abbrev pub lines_from : (source place : ℕ) → (begin : Key) → (bytes : List ℕ) → List (Key × Sign) → List Line
lines_from source place begin bytes [] = []
lines_from source place begin bytes ((key, OpenSign) ∷ ms) = lines_from source (place + 1) key [] ms
lines_from source place begin bytes ((key, ByteSign b) ∷ ms) =
    lines_from source (place + 1) begin (bytes ++ b ∷ []) ms
lines_from source place begin bytes ((key, ShortSign s a b) ∷ ms) =
    line_by source place (Ends (Message s a b)) key key ∷ lines_from source (place + 1) begin bytes ms
lines_from source place begin bytes ((key, RtSign b) ∷ ms) =
    line_by source place (Realtime b) key key ∷ lines_from source (place + 1) begin bytes ms
lines_from source place begin bytes ((key, EndSign) ∷ ms) =
    line_by source place (Ends (Syx bytes)) key begin ∷ lines_from source (place + 1) begin [] ms
lines_from source place begin bytes ((key, AbortSign) ∷ ms) =
    line_by source place (Ends (Broken bytes)) key begin ∷ lines_from source (place + 1) begin [] ms

abbrev pub no_key : (source : ℕ) → Key
no_key source = key_at 0 source

abbrev pub lines_of : (source : ℕ) → List Put → List Line
lines_of source puts = lines_from source 0 (no_key source) [] (keyed_marks source puts)

pub record Source : Type 0 where
  pub spec : Spec
  pub track : ℕ
  pub tape : List ℕ

abbrev pub marks_of : Source → List Put
marks_of s = track_marks s.spec s.track s.tape
