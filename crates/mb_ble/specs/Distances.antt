-- How far apart the messages of a list of marks stand in time. A message is complete: a short message, a System
-- Exclusive message at its end, or a real-time message; a broken System Exclusive message is none. A stamp has 13 bits
-- of milliseconds (BLE-MIDI 1.0, "Timestamp"), so where moments don't fall, a message is read of packets a multiple of
-- 8,192 ms earlier than it was put. That it is the same multiple for all messages is what is kept of their moments.
--
--   puts_read parts          the marks of a reading with their moments
--   message_moments puts     the moments of the messages
--   IsRising last puts       no mark's moment is below that of the one before
--   AreClose ms              each less than 8,192 ms behind the one before
--   AreLater by ms ns        each so much later than that of the other list
--   KeepDistances ms ns      all by one multiple of 8,192, so any two of them lie as far apart in both lists
--   KeepStamps ms ns         each has the 13 bits of that of the other list
use Rattle.std.specs.Prelude.{◌≡◌, ℕ, ◌+◌, ◌*◌, ◌%◌, ◌<◌, ◌≤◌, List, [], ◌∷◌, flat_map}
use Rattle.mb_message.specs.Signs.{ShortSign, RtSign, OpenSign, ByteSign, EndSign, AbortSign}
use Rattle.mb_stream.specs.Puts.{Put, At, Flush}
use Rattle.mb_stream.specs.Reading.{Part}
use Rattle.mb_stream.specs.Told.{Told, Marks, Notes}

abbrev pub put_in : (moment : ℕ) → Told → List Put
put_in moment (Marks sign) = At moment sign ∷ []
put_in moment (Notes at kind) = []

abbrev pub puts_read : List Part → List Put
puts_read parts = flat_map (λ p. put_in p.moment p.told) parts

abbrev pub message_moments : List Put → List ℕ
message_moments [] = []
message_moments (Flush ∷ puts) = message_moments puts
message_moments (At moment (ShortSign s d1 d2) ∷ puts) = moment ∷ message_moments puts
message_moments (At moment (RtSign b) ∷ puts) = moment ∷ message_moments puts
message_moments (At moment OpenSign ∷ puts) = message_moments puts
message_moments (At moment (ByteSign b) ∷ puts) = message_moments puts
message_moments (At moment EndSign ∷ puts) = moment ∷ message_moments puts
message_moments (At moment AbortSign ∷ puts) = message_moments puts

abbrev pub IsRising : (last : ℕ) → List Put → Type 0
IsRising last [] = Unit {0}
IsRising last (Flush ∷ puts) = IsRising last puts
IsRising last (At moment sign ∷ puts) = (last ≤ moment) × IsRising moment puts

-- behind a message of this moment
abbrev pub AreCloseTo : (last : ℕ) → List ℕ → Type 0
AreCloseTo last [] = Unit {0}
AreCloseTo last (m ∷ ms) = (m < last + 8192) × AreCloseTo m ms

abbrev pub AreClose : List ℕ → Type 0
AreClose [] = Unit {0}
AreClose (m ∷ ms) = AreCloseTo m ms

abbrev pub AreLater : (by : ℕ) → List ℕ → List ℕ → Type 0
AreLater by [] [] = Unit {0}
AreLater by [] (n ∷ ns) = ⊥
AreLater by (m ∷ ms) [] = ⊥
AreLater by (m ∷ ms) (n ∷ ns) = (m ≡ n + by) × AreLater by ms ns

pub record KeepDistances (ms ns : List ℕ) : Type 0 where
  pub rounds : ℕ
  pub later : AreLater (8192 * rounds) ms ns

abbrev pub KeepStamps : List ℕ → List ℕ → Type 0
KeepStamps [] [] = Unit {0}
KeepStamps [] (n ∷ ns) = ⊥
KeepStamps (m ∷ ms) [] = ⊥
KeepStamps (m ∷ ms) (n ∷ ns) = (m % 8192 ≡ n % 8192) × KeepStamps ms ns
