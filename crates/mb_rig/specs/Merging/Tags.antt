-- The marks of a run, each with what the report will say of it. A router knows marks alone; what is proved of a run
-- speaks of tags.
--
-- Under of a source: how many marks it gave, and of its SysEx under way the key of its start and the
--                            data bytes
--   Tag                      a mark with its source, its place, its key, and the line that it completes, if it does
--   tags_of source puts      the marks of a source as tags
--   under_of source puts     what is under way behind them
--   IsTag t                  a tag is that of a mark of its source
use Rattle.std.specs.Prelude.{◌≡◌, ℕ, ◌+◌, Bool, true, false, ◌==◌, List, [], ◌∷◌, ◌++◌}
use Rattle.std.specs.Prelude.{Option, Some, None}
use Rattle.mb_message.specs.Signs.{Sign, ShortSign, RtSign, OpenSign, ByteSign, EndSign, AbortSign}
use Rattle.mb_stream.specs.Denotation.{Message, Syx, Broken}
use Rattle.mb_message.specs.Bytes.{is_data}
use Rattle.mb_stream.specs.Puts.{Put}
use Rattle.mb_stream.specs.Standing.{is_valid}
use Rattle.mb_rig.specs.Merging.Lines.{Key, Event, Ends, Realtime, Line, keyed_marks, no_key}

pub record Under : Type 0 where
  pub place : ℕ
  pub begin : Key
  pub data_bytes : List ℕ

abbrev pub under_after : Under → Key → Sign → Under
under_after u key OpenSign = record { place = u.place + 1; begin = key; data_bytes = [] }
under_after u key (ByteSign b) = record { place = u.place + 1; begin = u.begin; data_bytes = u.data_bytes ++ b ∷ [] }
under_after u key (ShortSign s a b) = record { place = u.place + 1; begin = u.begin; data_bytes = u.data_bytes }
under_after u key (RtSign b) = record { place = u.place + 1; begin = u.begin; data_bytes = u.data_bytes }
under_after u key EndSign = record { place = u.place + 1; begin = u.begin; data_bytes = [] }
under_after u key AbortSign = record { place = u.place + 1; begin = u.begin; data_bytes = [] }

abbrev pub line_with : (source : ℕ) → Under → (begin key : Key) → Event → Option Line
line_with source u begin key event = Some (record {
  source = source;
  place = u.place;
  event = event;
  key = key;
  begin = begin;
})

abbrev pub line_at : (source : ℕ) → Under → Key → Sign → Option Line
line_at source u key OpenSign = None
line_at source u key (ByteSign b) = None
line_at source u key (ShortSign s a b) = line_with source u key key (Ends (Message s a b))
line_at source u key (RtSign b) = line_with source u key key (Realtime b)
line_at source u key EndSign = line_with source u u.begin key (Ends (Syx u.data_bytes))
line_at source u key AbortSign = line_with source u u.begin key (Ends (Broken u.data_bytes))

pub record Tag : Type 0 where
  pub source : ℕ
  pub place : ℕ
  pub key : Key
  pub sign : Sign
  pub line : Option Line

abbrev pub tag_at : (source : ℕ) → Under → Key → Sign → Tag
tag_at source u key m = record { source = source; place = u.place; key = key; sign = m; line = line_at source u key m }

abbrev pub tags_from : (source : ℕ) → Under → List (Key × Sign) → List Tag
tags_from source u [] = []
tags_from source u (m ∷ ms) = tag_at source u m.0 m.1 ∷ tags_from source (under_after u m.0 m.1) ms

abbrev pub nothing_under : (source : ℕ) → Under
nothing_under source = record { place = 0; begin = no_key source; data_bytes = [] }

abbrev pub tags_of : (source : ℕ) → List Put → List Tag
tags_of source puts = tags_from source (nothing_under source) (keyed_marks source puts)

-- behind marks
abbrev pub under_behind : Under → List (Key × Sign) → Under
under_behind u [] = u
under_behind u (m ∷ ms) = under_behind (under_after u m.0 m.1) ms

abbrev pub under_of : (source : ℕ) → List Put → Under
under_of source puts = under_behind (nothing_under source) (keyed_marks source puts)

abbrev pub is_tag_of : (source : ℕ) → Tag → Bool
is_tag_of source t = t.source == source

-- A mark that a stream can have.
abbrev pub is_sound : Sign → Bool
is_sound (ByteSign b) = is_data b
is_sound m = is_valid m

-- It is a source's mark, with its line, where so much was under way.
pub record IsTag (t : Tag) : Type 0 where
  pub under : Under
  pub is : t ≡ tag_at t.source under t.key t.sign
  pub link : t.key.link ≡ t.source
  pub sound : is_sound t.sign ≡ true
  pub begun : under.begin.link ≡ t.source

abbrev pub AreTags : List Tag → Type 0
AreTags [] = Unit {0}
AreTags (t ∷ ts) = IsTag t × AreTags ts

abbrev pub is_realtime_sign : Sign → Bool
is_realtime_sign (RtSign b) = true
is_realtime_sign (ShortSign s a b) = false
is_realtime_sign OpenSign = false
is_realtime_sign (ByteSign b) = false
is_realtime_sign EndSign = false
is_realtime_sign AbortSign = false
