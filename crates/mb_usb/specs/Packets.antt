-- USB-MIDI event packets (USB Device Class Definition for MIDI Devices 1.0, section 4 and table 4-1).
--
--   packet cable number bytes     a packet of one to three bytes
--   cin_of_short status           the code index number of a short message
--   single cable byte             a byte by itself
use Rattle.std.specs.Prelude.{ℕ, ◌+◌, ◌*◌, ◌/◌, ◌==◌, if◌then◌else◌, List, [], ◌∷◌}
use Rattle.mb_message.specs.Bytes.{is_channel}

-- section 4: a packet has four bytes; unused ones are 0
abbrev pub padded : List ℕ → List ℕ
padded [] = 0 ∷ 0 ∷ 0 ∷ []
padded (a ∷ []) = a ∷ 0 ∷ 0 ∷ []
padded (a ∷ b ∷ []) = a ∷ b ∷ 0 ∷ []
padded (a ∷ b ∷ c ∷ _) = a ∷ b ∷ c ∷ []

-- section 4: the cable number in the high half of the first byte, the code index number in the low half
abbrev pub packet : (cable number : ℕ) → List ℕ → List ℕ
packet cable number bytes = (cable * 16 + number) ∷ padded bytes

-- table 4-1: channel messages have the number of their status's high half, Song Position Pointer 3, Tune Request 5, MTC
-- Quarter Frame and Song Select 2
abbrev pub cin_of_short : ℕ → ℕ
cin_of_short s = if is_channel s then s / 16 else (if s == 0xf2 then 3 else (if s == 0xf6 then 5 else 2))

-- table 4-1, number F
abbrev pub single : (cable byte : ℕ) → List ℕ
single cable b = packet cable 15 (b ∷ [])
