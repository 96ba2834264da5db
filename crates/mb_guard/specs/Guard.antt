-- A guard, as callers see it: the list of the notes that sound.
--
--   Stands now marks           it is what sounds behind these marks
--   after now mark             the list behind one mark more
--   voice_of off               the voice of a Note Off
--   sounding_from i bits       the list that is kept as one truth value for each voice
use Rattle.std.specs.Prelude.{◌≡◌, ℕ, ◌+◌, ◌*◌, ◌/◌, ◌%◌, Bool, true, false, ◌&&◌, ◌==◌, nat_lt, nat_le}
use Rattle.std.specs.Prelude.{if◌then◌else◌, List, [], ◌∷◌, Option, Some, None}
use Rattle.std.specs.List.{filter, list_any}
use Rattle.mb_message.specs.Signs.{Sign, ShortSign}
use Rattle.mb_message.specs.declared.short.Short.{Short}
use Rattle.mb_stream.specs.Denotation.{Message, denotation}
use Rattle.mb_guard.specs.Sounding.{Voice, voices, turned, last_said, sounding}

abbrev pub Stands : (now : List Voice) (marks : List Sign) → Type 0
Stands now marks = now ≡ sounding (denotation marks).items

abbrev pub is_same : Voice → Voice → Bool
is_same v w = (v.channel == w.channel) && (v.key == w.key)

abbrev pub stands_in : Voice → List Voice → Bool
stands_in v now = list_any (is_same v) now

abbrev pub after : List Voice → Sign → List Voice
after now (ShortSign s a b) = filter (λ v. last_said (stands_in v now) (turned v (Message s a b))) voices
after now _ = now

abbrev pub voice_of : Short → Voice
voice_of off = record { channel = off.status % 16; key = off.data1 }

-- 128 keys a channel
abbrev pub voice_at : ℕ → Voice
voice_at place = record { channel = place / 128; key = place % 128 }

-- the places from a number on
unfoldable pub sounding_from : ℕ → List Bool → List Voice
sounding_from i [] = []
sounding_from i (true ∷ bits) = voice_at i ∷ sounding_from (i + 1) bits
sounding_from i (false ∷ bits) = sounding_from (i + 1) bits

-- of a short message: the place of its voice, where it turns one on or off, and whether it turns it on
abbrev pub place_of : (status data1 : ℕ) → Option ℕ
place_of s a = if nat_le 0x80 s && nat_lt s 0xa0 then Some (128 * (s % 16) + a) else None

abbrev pub begins : (status data2 : ℕ) → Bool
begins s b = nat_le 0x90 s && nat_lt 0 b
