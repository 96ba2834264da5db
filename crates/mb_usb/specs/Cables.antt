-- The readings of all cables of a USB recording in one list (USB Device Class Definition for MIDI Devices 1.0, section
-- 4), and what the readers promise.
--
--   all_cables_so_far bytes       the reading of each cable, each entry with its cable, and the notes on packets, in
--                                 order
--   UsbStands now bytes told      a reader of all cables took these bytes and told this
--   CableStands now bytes told    a reader of one cable did
--   UsbTells, CableTells          what a call takes and tells
--   without_cable c bytes         the recording with each packet of a cable empty
--   UsbAnew, CableAnew            what a cable's end leaves
use Rattle.std.specs.Prelude.{◌≡◌, ℕ, ◌*◌, ◌/◌, true, List, [], ◌∷◌, ◌++◌, map, flat_map, Option, Some, None, ◌==◌}
use Rattle.std.specs.Prelude.{nat_lt, if◌then◌else◌}
use Rattle.mb_message.specs.declared.note.Note.{Note}
use Rattle.mb_stream.specs.Told.{Told, Known}
use Rattle.mb_stream.specs.Order.{in_order}
use Rattle.mb_stream.specs.Reading.{payload_told}
use Rattle.mb_din.specs.State.{State}
use Rattle.mb_stream.specs.ReaderLaw.{Tells, AllTold, bare_told}
use Rattle.mb_ports.specs.Events.{Ported, ported, unported, known_of, below}
use Rattle.mb_ports.specs.Machine.{Machine}
use Rattle.mb_ports.specs.Reader.{Whole, Holds, bare}
use Rattle.mb_ports.specs.OnePort.{HoldsOne}
use Rattle.mb_usb.specs.declared.under.Under.{Under}
use Rattle.mb_usb.specs.declared.under.Under.TheVariants.{Between}
use Rattle.mb_usb.specs.declared.under.Packets.{Packets}
use Rattle.mb_usb.specs.Reading.{packets, cable_payload, unit_note, usb_told, usb_whole}
use Rattle.mb_usb.specs.Under.{under_after, left_of, head_of, note_at}
use Rattle.mb_usb.specs.State.{UsbState, CableState, reader_at}

abbrev pub of_cable : List ℕ → ℕ → List Ported
of_cable bytes c = map (ported c) (payload_told (cable_payload c bytes))

abbrev pub of_packets : List ℕ → List Ported
of_packets bytes = map unported (flat_map unit_note (packets bytes))

abbrev pub all_cables_so_far : List ℕ → List Ported
all_cables_so_far bytes = in_order known_of (flat_map (of_cable bytes) (below 16) ++ of_packets bytes)

-- what becomes known of one cable, with the notes on every packet
abbrev pub cable_so_far : ℕ → List ℕ → List Known
cable_so_far cable bytes = in_order (λ k. k) (usb_told cable bytes)

-- Packets byte by byte: which cable's bytes are which port's is the reader's choice.

abbrev pub notes_in : Option Note → List Note
notes_in None = []
notes_in (Some x) = x ∷ []

abbrev pub port_by : (left : ℕ) → Option ℕ → Option ℕ
port_by left port = if left == 0 then None else port

abbrev pub usb : (ℕ → Option ℕ) → Machine Under
usb port_of = record {
  start = Between;
  after = under_after;
  port = λ u. port_by (left_of u) (port_of (head_of u / 16));
  notes = λ u b at. notes_in (note_at u b at);
}

abbrev pub each_cable : ℕ → Option ℕ
each_cable h = if nat_lt h 16 then Some h else None

abbrev pub only_cable : ℕ → ℕ → Option ℕ
only_cable c h = if h == c then Some 0 else None

abbrev pub whole_of : Packets → (ℕ → State) → Whole Under
whole_of p readers = record { offset = p.offset; under = p.under; due = notes_in p.due; readers = readers }

abbrev pub UsbHolds : Packets → List State → List ℕ → List Ported → Type 0
UsbHolds packet readers bytes told = Holds (usb each_cable) 16 (whole_of packet (reader_at readers)) bytes told

abbrev pub UsbStands : UsbState → List ℕ → List Ported → Type 0
UsbStands now bytes told = UsbHolds now.packet now.readers bytes told

abbrev pub CableHolds : ℕ → Packets → State → List ℕ → List Known → Type 0
CableHolds cable packet reader bytes told = HoldsOne (usb (only_cable cable)) (whole_of packet (λ _. reader)) bytes told

abbrev pub CableStands : CableState → List ℕ → List Known → Type 0
CableStands now bytes told = CableHolds now.cable now.packet now.reader bytes told

abbrev pub UsbTells : (was now : UsbState) (input left : List ℕ) → List (Option ℕ × Told) → Type 0
UsbTells was now input left seen = Tells bare all_cables_so_far (UsbStands was) (UsbStands now) input left seen

abbrev pub UsbAllTold : UsbState → List ℕ → Type 0
UsbAllTold was input = AllTold all_cables_so_far (UsbStands was) input

abbrev pub CableTells : (was now : CableState) (input left : List ℕ) → List Told → Type 0
CableTells was now input left answer =
    Tells bare_told (cable_so_far was.cable) (CableStands was) (CableStands now) input left answer

abbrev pub CableAllTold : CableState → List ℕ → Type 0
CableAllTold was input = AllTold (cable_so_far was.cable) (CableStands was) input

-- table 4-1: under code index number 0 a packet carries nothing
abbrev pub emptied : (cable head : ℕ) → ℕ
emptied cable head = if head / 16 == cable then cable * 16 else head

abbrev pub without_cable : (cable : ℕ) → List ℕ → List ℕ
without_cable cable [] = []
without_cable cable (h ∷ a ∷ b ∷ c ∷ bs) = emptied cable h ∷ a ∷ b ∷ c ∷ without_cable cable bs
without_cable cable (h ∷ bs) = emptied cable h ∷ bs

-- A cable's end was told behind whole packets: from here on the reader is one that took the recording with that cable's
-- packets empty, and told all of it.
abbrev pub UsbAnew : (cable : ℕ) → (was now : UsbState) → Type 0
UsbAnew cable was now =
    (bytes : List ℕ) → UsbStands was bytes (all_cables_so_far bytes) → usb_whole bytes ≡ true →
    UsbStands now (without_cable cable bytes) (all_cables_so_far (without_cable cable bytes))

abbrev pub CableAnew : (was now : CableState) → Type 0
CableAnew was now =
    (bytes : List ℕ) → CableStands was bytes (cable_so_far was.cable bytes) → usb_whole bytes ≡ true →
    CableStands now (without_cable was.cable bytes) (cable_so_far was.cable (without_cable was.cable bytes))
