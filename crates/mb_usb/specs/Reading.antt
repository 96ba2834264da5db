-- The reading of one cable of a USB recording (USB Device Class Definition for MIDI Devices 1.0, section 4, figure 8,
-- and table 4-1, "Code Index Number Classifications"). The recording is cut into packets of four bytes. The bytes that
-- the packets of a cable use, one after the other, are its payload, a byte stream. Which bytes suit a code index number
-- is this project's own; bytes that don't are carried all the same, and their packet has a note.
--
--   packets bytes               the recording cut into packets
--   cable_payload cable bytes   what the packets of a cable carry
--   unit_note p                 what is remarked of a packet
--   usb_so_far cable bytes      what becomes known of a cable at the recording's bytes
--   usb_reading cable bytes     the same, and what only the end makes known
--   usb_whole bytes             the recording ends behind a whole packet
use Rattle.std.specs.Prelude.{ℕ, ◌+◌, ◌/◌, ◌%◌, Bool, true, ◌&&◌, ◌||◌, ◌==◌, nat_le, if◌then◌else◌, List, [], ◌∷◌}
use Rattle.std.specs.Prelude.{◌++◌, length, take, map, flat_map}
use Rattle.mb_message.specs.Bytes.{is_data}
use Rattle.mb_message.specs.declared.note.NoteKind.TheVariants.{ReservedCin, CinMismatch}
use Rattle.mb_stream.specs.Payload.{Entry, heard_from}
use Rattle.mb_stream.specs.Told.{Notes, Known}
use Rattle.mb_stream.specs.Order.{in_order}
use Rattle.mb_stream.specs.Reading.{Part, part_of, payload_told, end_part}

-- A packet at its offset: its first byte, and what stands of the other three.
pub record EventPacket : Type 0 where
  pub at : ℕ
  pub head : ℕ
  pub rest : List ℕ

-- section 4: the cable number is the high half of the first byte, the code index number the low half
abbrev pub cable_of : EventPacket → ℕ
cable_of p = p.head / 16

abbrev pub cin_of : EventPacket → ℕ
cin_of p = p.head % 16

-- the list cut into fours, the last of them perhaps unfinished
abbrev pub packets_from : (at : ℕ) → List ℕ → List EventPacket
packets_from at [] = []
packets_from at (h ∷ a ∷ b ∷ c ∷ bs) =
    record { at = at; head = h; rest = a ∷ b ∷ c ∷ [] } ∷ packets_from (at + 4) bs
packets_from at (h ∷ bs) = record { at = at; head = h; rest = bs } ∷ []

abbrev pub packets : List ℕ → List EventPacket
packets bytes = packets_from 0 bytes

-- table 4-1, "MIDI_x Size": how many of the other three bytes a code index number uses
abbrev pub used : (cin : ℕ) → ℕ
used n =
    if nat_le n 1 then 0
    else (if (n == 5) || (n == 15) then 1 else (if (n == 2) || (n == 6) || (n == 12) || (n == 13) then 2 else 3))

-- the bytes that a packet carries: of an unfinished one, those that stand there
abbrev pub heard_in : EventPacket → List Entry
heard_in p = heard_from (p.at + 1) 0 (take (used (cin_of p)) p.rest)

abbrev pub cable_payload : (cable : ℕ) → List ℕ → List Entry
cable_payload cable bytes = flat_map (λ p. if cable_of p == cable then heard_in p else []) (packets bytes)

abbrev pub starts_or_goes_on : ℕ → Bool
starts_or_goes_on b = (b == 0xf0) || is_data b

-- whether the bytes of a packet suit its code index number
abbrev pub suits_cin : (cin first second third : ℕ) → Bool
suits_cin n a b c =
    if n == 2 then ((a == 0xf1) || (a == 0xf3)) && is_data b
    else (if n == 3 then (a == 0xf2) && is_data b && is_data c
    else (if n == 4 then starts_or_goes_on a && is_data b && is_data c
    else (if n == 5 then (a == 0xf6) || (a == 0xf7)
    else (if n == 6 then starts_or_goes_on a && (b == 0xf7)
    else (if n == 7 then starts_or_goes_on a && is_data b && (c == 0xf7)
    else (if n == 15 then true
    else (a / 16 == n) && is_data b && ((n == 12) || (n == 13) || is_data c)))))))

-- an unfinished packet has nothing that doesn't suit yet
abbrev pub suits_rest : (cin : ℕ) → List ℕ → Bool
suits_rest n (a ∷ b ∷ c ∷ []) = suits_cin n a b c
suits_rest n _ = true

abbrev pub suits_packet : EventPacket → Bool
suits_packet p = suits_rest (cin_of p) p.rest

-- A reserved code index number is known at the packet's first byte, bytes that don't suit theirs at its fourth.
abbrev pub unit_note : EventPacket → List Known
unit_note p =
    if nat_le (cin_of p) 1 then record { at = p.at; rank = 4; moment = 0; told = Notes p.at ReservedCin } ∷ []
    else (if suits_packet p then []
    else record { at = p.at + 3; rank = 4; moment = 0; told = Notes p.at CinMismatch } ∷ [])

-- with the notes on every packet, of whatever cable
abbrev pub usb_told : (cable : ℕ) → List ℕ → List Known
usb_told cable bytes = payload_told (cable_payload cable bytes) ++ flat_map unit_note (packets bytes)

abbrev pub usb_so_far : (cable : ℕ) → List ℕ → List Part
usb_so_far cable bytes = map part_of (in_order (λ k. k) (usb_told cable bytes))

-- packets have no clock: every moment is 0
abbrev pub usb_reading : (cable : ℕ) → List ℕ → List Part
usb_reading cable bytes = usb_so_far cable bytes ++ end_part 0 (cable_payload cable bytes)

abbrev pub usb_whole : List ℕ → Bool
usb_whole bytes = length bytes % 4 == 0
