-- Time stamps of BLE-MIDI packets (BLE-MIDI 1.0, "Timestamp"): 13 bits, of milliseconds. A packet's header has the
-- upper six, each stamp in it its own lower seven. Where the lower seven fall from one stamp to the next, the upper six
-- have risen by one. BLE-MIDI 1.0 has at most one such place in a packet; that any number counts is the project's own.
--
--   upper_six m, lower_seven m     both parts of a moment's 13 bits
--   StampedPacket                         the header's upper six, and the lower seven of the stamps in order
--   falls lows                     how often the lower seven fall
--   last_bits p                    the 13 bits of a packet's last stamp
--   all_bits ps                    the 13 bits of each stamp of the packets, in order
--   ArePackets ps                  the lower seven are below 128
use Rattle.std.specs.Prelude.{ℕ, ◌+◌, ◌*◌, ◌/◌, ◌%◌, ◌<◌, nat_lt, if◌then◌else◌, List, [], ◌∷◌, ◌++◌, flat_map}

abbrev pub upper_six : (moment : ℕ) → ℕ
upper_six moment = moment / 128 % 64

abbrev pub lower_seven : (moment : ℕ) → ℕ
lower_seven moment = moment % 128

pub record StampedPacket : Type 0 where
  pub high : ℕ
  pub lows : List ℕ

-- the last of a list, or what stands before it
abbrev pub last_or : {X : Type 0} → X → List X → X
last_or before [] = before
last_or before (x ∷ xs) = last_or x xs

-- the places of a list at which a number is less than the one before
abbrev pub falls_behind : ℕ → List ℕ → ℕ
falls_behind low [] = 0
falls_behind low (next ∷ lows) = (if nat_lt next low then 1 else 0) + falls_behind next lows

abbrev pub falls : List ℕ → ℕ
falls [] = 0
falls (low ∷ lows) = falls_behind low lows

-- the upper six bits at the packet's last stamp: the header's, and one more for each fall
abbrev pub last_upper : StampedPacket → ℕ
last_upper p = (p.high + falls p.lows) % 64

abbrev pub last_bits : StampedPacket → ℕ
last_bits p = 128 * last_upper p + last_or 0 p.lows

abbrev pub with_stamp : StampedPacket → ℕ → StampedPacket
with_stamp p low = record { high = p.high; lows = p.lows ++ low ∷ [] }

-- the 13 bits of each of these stamps, which stand behind the packet's others
abbrev pub bits_behind : StampedPacket → List ℕ → List ℕ
bits_behind p [] = []
bits_behind p (low ∷ lows) = last_bits (with_stamp p low) ∷ bits_behind (with_stamp p low) lows

abbrev pub packet_bits : StampedPacket → List ℕ
packet_bits p = bits_behind (record { high = p.high; lows = [] }) p.lows

abbrev pub all_bits : List StampedPacket → List ℕ
all_bits ps = flat_map packet_bits ps

abbrev pub AreSevens : List ℕ → Type 0
AreSevens [] = Unit {0}
AreSevens (low ∷ lows) = (low < 128) × AreSevens lows

abbrev pub ArePackets : List StampedPacket → Type 0
ArePackets [] = Unit {0}
ArePackets (p ∷ ps) = AreSevens p.lows × ArePackets ps
