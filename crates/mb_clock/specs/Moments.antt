-- The moments of stamps, in milliseconds from the recording's start (BLE-MIDI 1.0, "Timestamp"). 13 bits go round every
-- 8,192 ms; that a stamp is taken as late as it must be and no later is the project's own.
--
--   IsNextMoment last bits m      the least number not below the last that has these 13 bits
--   AreMoments last bits ms       each is the next of the one before it
--   AreNear last ms               each is less than 8,192 ms behind the one before it, and not before it
--   stamped_alone ms              each in a packet of its own, by its own 13 bits
--   moments ps                    the moments of all stamps of the packets: before the first stands 0, so it has its 13
--                                 bits as its moment
use Rattle.std.specs.Prelude.{◌≡◌, ℕ, ◌+◌, ◌-◌, ◌%◌, ◌<◌, ◌≤◌, List, [], ◌∷◌, map}
use Rattle.mb_clock.specs.Stamps.{StampedPacket, all_bits, upper_six, lower_seven}

pub record IsNextMoment (last bits moment : ℕ) : Type 0 where
  pub not_below : last ≤ moment
  pub remainder : moment % 8192 ≡ bits
  pub least : (m : ℕ) → last ≤ m → m % 8192 ≡ bits → moment ≤ m

abbrev pub AreMoments : (last : ℕ) → (bits moments : List ℕ) → Type 0
AreMoments last [] [] = Unit {0}
AreMoments last [] (m ∷ ms) = ⊥
AreMoments last (b ∷ bs) [] = ⊥
AreMoments last (b ∷ bs) (m ∷ ms) = IsNextMoment last b m × AreMoments m bs ms

abbrev pub AreNear : (last : ℕ) → (moments : List ℕ) → Type 0
AreNear last [] = Unit {0}
AreNear last (m ∷ ms) = (last ≤ m) × (m < last + 8192) × AreNear m ms

abbrev pub stamped_alone : (moments : List ℕ) → List StampedPacket
stamped_alone ms = map (λ m. record { high = upper_six m; lows = lower_seven m ∷ [] }) ms

-- the same, computed
abbrev pub next_moment : (last bits : ℕ) → ℕ
next_moment last bits = last + (bits + 8192 - last % 8192) % 8192

abbrev pub moments_from : ℕ → List ℕ → List ℕ
moments_from last [] = []
moments_from last (b ∷ bs) = next_moment last b ∷ moments_from (next_moment last b) bs

abbrev pub moments : List StampedPacket → List ℕ
moments ps = moments_from 0 (all_bits ps)
