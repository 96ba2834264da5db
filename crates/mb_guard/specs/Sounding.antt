-- Which notes sound behind a list of messages (MIDI 1.0 Detailed Specification 4.2, "Channel Voice Messages": Note On,
-- Note Off, and that a Note On with velocity 0 is a Note Off). That controllers and System Reset end nothing here is
-- the project's own.
--
--   Voice               a key of a channel
--   voices              all of them, in order of channel and key
--   turned v m          what a message says of a voice: nothing, or whether it sounds from then on
--   sounds v items      whether it sounds behind all items: what was said of it last
--   sounding items      those that do
--   offs items          a Note Off, velocity 64, for each of them
--   off_marks ms        the same of marks, as marks
use Rattle.std.specs.Prelude.{ℕ, ◌+◌, Bool, false, ◌&&◌, ◌==◌, nat_lt, if◌then◌else◌, List, [], ◌∷◌, ◌++◌}
use Rattle.std.specs.Prelude.{map, flat_map}
use Rattle.std.specs.List.{filter, range_with_len}
use Rattle.mb_message.specs.Signs.{Sign, ShortSign}
use Rattle.mb_stream.specs.Denotation.{Meant, Message, Syx, Broken, Denotation, denotation}

pub record Voice : Type 0 where
  pub channel : ℕ
  pub key : ℕ

unfoldable pub voices : List Voice
voices = flat_map (λ n. map (λ k. record { channel = n; key = k }) (range_with_len 0 128)) (range_with_len 0 16)

abbrev pub is_on : Voice → (status data1 : ℕ) → Bool
is_on v s a = (s == 0x90 + v.channel) && (a == v.key)

abbrev pub is_off : Voice → (status data1 : ℕ) → Bool
is_off v s a = (s == 0x80 + v.channel) && (a == v.key)

abbrev pub turned : Voice → Meant → List Bool
turned v (Message s a b) = if is_on v s a then nat_lt 0 b ∷ [] else (if is_off v s a then false ∷ [] else [])
turned v (Syx ds) = []
turned v (Broken ds) = []

-- the last of them, or what was before
abbrev pub last_said : (before : Bool) → List Bool → Bool
last_said before [] = before
last_said before (b ∷ bs) = last_said b bs

abbrev pub sounds : Voice → List Meant → Bool
sounds v items = last_said false (flat_map (turned v) items)

abbrev pub sounding : List Meant → List Voice
sounding items = filter (λ v. sounds v items) voices

abbrev pub off_of : Voice → Meant
off_of v = Message (0x80 + v.channel) v.key 0x40

abbrev pub offs : List Meant → List Meant
offs items = map off_of (sounding items)

abbrev pub off_sign : Voice → Sign
off_sign v = ShortSign (0x80 + v.channel) v.key 0x40

abbrev pub off_marks : List Sign → List Sign
off_marks ms = map off_sign (sounding (denotation ms).items)

-- items more, behind those of a denotation
abbrev pub with_items : Denotation → List Meant → Denotation
with_items den more = record den { items = den.items ++ more }
