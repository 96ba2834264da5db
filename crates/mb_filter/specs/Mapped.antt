-- What rules make of messages: the project's own; the kinds are those of the MIDI 1.0 Detailed Specification 4.2,
-- "Channel Voice Messages" and "System Messages". The first rule of a message's kind and channel decides; without one
-- it is kept.
--
--   is_of kind status        the statuses of a kind's messages
--   decided rules status     what is done with a message of a status, a SysEx's being F0
--   mapped_short rules ..    a short message behind the rules: none where it is dropped
--   mapped_items rules is    items behind the rules
--   mapped_rts rules is rs   real-time messages, each with how many kept messages and whole SysEx ended before it
--   mapped_sign rules m      a mark: all marks of a SysEx that is dropped are gone
--   mapped_marks rules ms    a list of marks
use Rattle.std.specs.Prelude.{ℕ, zero, suc, ◌+◌, ◌-◌, ◌%◌, Bool, true, false, ◌&&◌, ◌||◌, ◌==◌, not, nat_lt, nat_le}
use Rattle.std.specs.Prelude.{if◌then◌else◌, List, [], ◌∷◌, flat_map, Option, Some, None}
use Rattle.mb_message.specs.Bytes.{is_channel, is_short}
use Rattle.mb_message.specs.Signs.{Sign, ShortSign, RtSign}
use Rattle.mb_stream.specs.Denotation.{Meant, Message, Syx, Broken, Timed, Denotation}
use Rattle.mb_filter.specs.declared.rule.Kind.{Kind}
use Rattle.mb_filter.specs.declared.rule.Kind.TheVariants.{Note, Control, Program, Pressure, Bend, Common, Sysex, Clock}
use Rattle.mb_filter.specs.declared.rule.Kind.TheVariants.{Transport, Sense, Reset}
use Rattle.mb_filter.specs.declared.rule.Action.{Action}
use Rattle.mb_filter.specs.declared.rule.Action.TheVariants.{Keep, Drop, Channel, Up, Down}
use Rattle.mb_filter.specs.declared.rule.Rule.{Rule}

-- the statuses of a kind's messages: of notes 8n, 9n and An; of a SysEx that of its start
abbrev pub is_of : Kind → (status : ℕ) → Bool
is_of Note s = nat_le 0x80 s && nat_lt s 0xb0
is_of Control s = nat_le 0xb0 s && nat_lt s 0xc0
is_of Program s = nat_le 0xc0 s && nat_lt s 0xd0
is_of Pressure s = nat_le 0xd0 s && nat_lt s 0xe0
is_of Bend s = nat_le 0xe0 s && nat_lt s 0xf0
is_of Common s = (s == 0xf1) || (s == 0xf2) || (s == 0xf3) || (s == 0xf6)
is_of Sysex s = s == 0xf0
is_of Clock s = s == 0xf8
is_of Transport s = (s == 0xfa) || (s == 0xfb) || (s == 0xfc)
is_of Sense s = s == 0xfe
is_of Reset s = s == 0xff

-- channels are counted from 1; a System message has none
abbrev pub is_on : Rule → (status : ℕ) → Bool
is_on r s = not (is_channel s) || (nat_le r.first (s % 16 + 1) && nat_le (s % 16 + 1) r.last)

abbrev pub is_for : Rule → (status : ℕ) → Bool
is_for r s = is_of r.kind s && is_on r s

abbrev pub decided : List Rule → (status : ℕ) → Action
decided [] s = Keep
decided (r ∷ rs) s = if is_for r s then r.action else decided rs s

abbrev pub if_short : (status data1 data2 : ℕ) → Option Sign
if_short s a b = if is_short s a b then Some (ShortSign s a b) else None

-- the same message on a channel counted from 1
abbrev pub on_channel : (status channel : ℕ) → ℕ
on_channel s n = s - s % 16 + (n + 15) % 16

-- a key stays within 0 to 127, or its message is dropped
abbrev pub acted : Action → (status data1 data2 : ℕ) → Option Sign
acted Keep s a b = Some (ShortSign s a b)
acted Drop s a b = None
acted (Channel n) s a b = if_short (on_channel s n) a b
acted (Up n) s a b = if nat_lt (a + n) 128 then if_short s (a + n) b else None
acted (Down n) s a b = if nat_le n a then if_short s (a - n) b else None

abbrev pub mapped_short : List Rule → (status data1 data2 : ℕ) → Option Sign
mapped_short rules s a b = acted (decided rules s) s a b

abbrev pub is_drop : Action → Bool
is_drop Drop = true
is_drop _ = false

abbrev pub keeps_sysex : List Rule → Bool
keeps_sysex rules = not (is_drop (decided rules 0xf0))

abbrev pub keeps_realtime : List Rule → ℕ → Bool
keeps_realtime rules b = not (is_drop (decided rules b))

abbrev pub kept_if : {X : Type 0} → Bool → X → List X
kept_if keeps x = if keeps then x ∷ [] else []

abbrev pub as_mark : Option Sign → List Sign
as_mark None = []
as_mark (Some m) = m ∷ []

abbrev pub mapped_sign : List Rule → Sign → List Sign
mapped_sign rules (ShortSign s a b) = as_mark (mapped_short rules s a b)
mapped_sign rules (RtSign b) = kept_if (keeps_realtime rules b) (RtSign b)
mapped_sign rules m = kept_if (keeps_sysex rules) m

abbrev pub mapped_marks : List Rule → List Sign → List Sign
mapped_marks rules ms = flat_map (mapped_sign rules) ms

-- of messages

abbrev pub meant_short : Option Sign → List Meant
meant_short (Some (ShortSign s a b)) = Message s a b ∷ []
meant_short _ = []

abbrev pub mapped_item : List Rule → Meant → List Meant
mapped_item rules (Message s a b) = meant_short (mapped_short rules s a b)
mapped_item rules (Syx ds) = kept_if (keeps_sysex rules) (Syx ds)
mapped_item rules (Broken ds) = kept_if (keeps_sysex rules) (Broken ds)

abbrev pub mapped_items : List Rule → List Meant → List Meant
mapped_items rules items = flat_map (mapped_item rules) items

-- messages and whole SysEx count, broken ones don't
abbrev pub counting : List Meant → ℕ
counting [] = 0
counting (Message s a b ∷ is) = suc (counting is)
counting (Syx ds ∷ is) = suc (counting is)
counting (Broken ds ∷ is) = counting is

-- of the first so many that count, how many that count are kept
abbrev pub kept_of : List Rule → ℕ → List Meant → ℕ
kept_of rules zero is = 0
kept_of rules (suc n) [] = 0
kept_of rules (suc n) (Message s a b ∷ is) = counting (mapped_item rules (Message s a b)) + kept_of rules n is
kept_of rules (suc n) (Syx ds ∷ is) = counting (mapped_item rules (Syx ds)) + kept_of rules n is
kept_of rules (suc n) (Broken ds ∷ is) = kept_of rules (suc n) is

abbrev pub mapped_rt : List Rule → List Meant → Timed → List Timed
mapped_rt rules items r = kept_if (keeps_realtime rules r.byte)
    (record { byte = r.byte; after = kept_of rules r.after items })

abbrev pub mapped_rts : List Rule → List Meant → List Timed → List Timed
mapped_rts rules items rts = flat_map (mapped_rt rules items) rts

abbrev pub mapped : List Rule → Denotation → Denotation
mapped rules den = record { items = mapped_items rules den.items; realtimes = mapped_rts rules den.items den.realtimes }
