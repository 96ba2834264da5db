-- What readers of USB packets keep: of packets, and of each cable's byte stream.
--
--   UsbState               of all sixteen cables
--   CableState             of one cable
--   usb_packets s          what is kept of packets: the offset, the packet under way, a note of it; cable_packets
--   usb_offset s           how many bytes were taken; cable_offset
--   usb_taken s            how many of them are of an unfinished packet; cable_taken
--   usb_to_come s          how many bytes the packet under way still carries; cable_to_come
--   usb_reader s c         what the reader of a cable keeps
--   usb_owed s             1 where something that takes no byte may be told next, else 0; cable_owed
--   AreBehind p rs         no cable's reader stands beyond the packets
use Rattle.std.specs.Prelude.{ℕ, ◌/◌, ◌<◌, ◌≤◌, ◌≡◌, Bool, true, not, List, [], ◌∷◌, Option, Some, None, ◌==◌}
use Rattle.std.specs.Prelude.{if◌then◌else◌, get_or}
use Rattle.mb_message.specs.declared.note.Note.{Note}
use Rattle.mb_stream.specs.Told.{Notes}
use Rattle.mb_stream.specs.ReaderLaw.{breaks}
use Rattle.mb_din.specs.State as din
use Rattle.mb_din.specs.State.{State}
use Rattle.mb_usb.specs.declared.under.Packets.{Packets}
use Rattle.mb_usb.specs.Under.{left_of, head_of, taken_of, is_of_cable, is_rested}

pub record UsbState : Type 0 where
  pub packet : Packets
  pub readers : List State

pub record CableState : Type 0 where
  pub cable : ℕ
  pub packet : Packets
  pub reader : State

abbrev pub reader_at : List State → ℕ → State
reader_at rs c = get_or rs c din.fresh

abbrev pub usb_packets : UsbState → Packets
usb_packets s = s.packet

abbrev pub cable_packets : CableState → Packets
cable_packets s = s.packet

abbrev pub usb_offset : UsbState → ℕ
usb_offset s = (usb_packets s).offset

abbrev pub cable_offset : CableState → ℕ
cable_offset s = (cable_packets s).offset

abbrev pub usb_taken : UsbState → ℕ
usb_taken s = taken_of (usb_packets s).under

abbrev pub cable_taken : CableState → ℕ
cable_taken s = taken_of (cable_packets s).under

-- of bytes that its cable carries
abbrev pub usb_to_come : UsbState → ℕ
usb_to_come s = left_of (usb_packets s).under

abbrev pub cable_to_come : CableState → ℕ
cable_to_come s = left_of (cable_packets s).under

abbrev pub usb_reader : UsbState → ℕ → State
usb_reader s c = reader_at s.readers c

abbrev pub owed_by : (due : Option Note) (left reader : ℕ) → ℕ
owed_by (Some n) left reader = 1
owed_by None left reader = if left == 0 then 0 else reader

-- what the packet under way may tell, its cable's reader being given
abbrev pub owed_of : Packets → State → ℕ
owed_of p r = owed_by p.due (left_of p.under) (din.owed r)

abbrev pub usb_owed : UsbState → ℕ
usb_owed s = owed_of s.packet (reader_at s.readers (head_of s.packet.under / 16))

pub record AreBehind (p : Packets) (rs : List State) : Type 0 where
  pub rested : is_rested p ≡ true
  pub low : (c : ℕ) → c < 16 → (reader_at rs c).offset ≤ p.offset

-- what a reader of one cable may tell
abbrev pub owed_alone : (cable : ℕ) → Packets → State → ℕ
owed_alone cable p r = owed_by p.due (if is_of_cable cable p.under then 1 else 0) (din.owed r)

abbrev pub cable_owed : CableState → ℕ
cable_owed s = owed_alone s.cable s.packet s.reader

-- a note of a packet is none of a broken message
abbrev pub is_unbroken : Option Note → Bool
is_unbroken None = true
is_unbroken (Some n) = not (breaks (Notes n.at n.kind ∷ []))

pub record IsBehind (p : Packets) (r : State) : Type 0 where
  pub rested : is_rested p ≡ true
  pub unbroken : is_unbroken p.due ≡ true
  pub low : r.offset ≤ p.offset
