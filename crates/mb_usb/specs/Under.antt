-- The packet under way, byte by byte (USB Device Class Definition for MIDI Devices 1.0, section 4 and table 4-1). This
-- is no second definition of what is read: laws say that both are equal.
--
--   under_after u b       the packet under way with one byte more
--   left_of u             how many bytes are still to come of it that its cable carries
--   note_at u b at        the note on a packet that the byte at an offset makes known
--   packet_behind p bs    what a reader keeps of packets behind bytes
use Rattle.std.specs.Prelude.{ℕ, ◌+◌, ◌-◌, ◌/◌, ◌%◌, Bool, not, ◌&&◌, ◌||◌, ◌==◌, nat_le, if◌then◌else◌, List, [], ◌∷◌}
use Rattle.std.specs.Prelude.{Option, Some, None, is_none}
use Rattle.mb_message.specs.declared.note.Note.{Note}
use Rattle.mb_message.specs.declared.note.NoteKind.TheVariants.{ReservedCin, CinMismatch}
use Rattle.mb_usb.specs.declared.under.Under.{Under}
use Rattle.mb_usb.specs.declared.under.Under.TheVariants.{Between, One, Two, Three}
use Rattle.mb_usb.specs.declared.under.Packets.{Packets}
use Rattle.mb_usb.specs.Reading.{used, suits_cin}

abbrev pub under_after : Under → ℕ → Under
under_after Between b = One b
under_after (One h) b = Two h b
under_after (Two h a) b = Three h a b
under_after (Three h a b) c = Between

abbrev pub head_of : Under → ℕ
head_of Between = 0
head_of (One h) = h
head_of (Two h a) = h
head_of (Three h a b) = h

abbrev pub taken_of : Under → ℕ
taken_of Between = 0
taken_of (One h) = 1
taken_of (Two h a) = 2
taken_of (Three h a b) = 3

-- of as many as its code index number uses, those that were taken count no more
abbrev pub left_of : Under → ℕ
left_of Between = 0
left_of (One h) = used (h % 16)
left_of (Two h a) = used (h % 16) - 1
left_of (Three h a b) = used (h % 16) - 2

-- the next byte is one that the packet carries on a cable
abbrev pub is_of_cable : (cable : ℕ) → Under → Bool
is_of_cable cable u = (head_of u / 16 == cable) && not (left_of u == 0)

-- a reserved code index number is known at the first byte, bytes that don't suit theirs at the fourth
abbrev pub note_at : Under → (byte at : ℕ) → Option Note
note_at Between b at = if nat_le (b % 16) 1 then Some (record { kind = ReservedCin; at = at }) else None
note_at (One h) b at = None
note_at (Two h a) b at = None
note_at (Three h a b) c at =
    if nat_le (h % 16) 1 then None
    else (if suits_cin (h % 16) a b c then None else Some (record { kind = CinMismatch; at = at - 3 }))

abbrev pub packet_after : Packets → ℕ → Packets
packet_after p b = record { offset = p.offset + 1; under = under_after p.under b; due = note_at p.under b p.offset }

abbrev pub packet_behind : Packets → List ℕ → Packets
packet_behind p [] = p
packet_behind p (b ∷ bs) = packet_behind (packet_after p b) bs

-- A note is told before the packet's next byte that a cable carries.
abbrev pub is_rested : Packets → Bool
is_rested p = is_none p.due || (left_of p.under == 0)
