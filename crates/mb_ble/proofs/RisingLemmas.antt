-- Lists of puts whose moments never fall, and moments that keep their distances.
use Rattle.std.proofs.Common.{◌≡◌, ℕ, ◌+◌, ◌*◌, ◌<◌, ◌≤◌, List, [], ◌∷◌, ◌++◌, refl, sym, ap, ◌∙◌, subst, arith}
use Rattle.mb_message.specs.Signs.{Sign, ShortSign, RtSign, OpenSign, ByteSign, EndSign, AbortSign}
use Rattle.mb_stream.specs.Puts.{Put, At, Flush, puts_at, last_put}
use Rattle.mb_ble.specs.Distances.{message_moments, IsRising, AreCloseTo, AreClose, AreLater, KeepDistances}

pub rises-lower : (low last : ℕ) (puts : List Put) → low ≤ last → IsRising last puts → IsRising low puts
rises-lower low last [] le h = tt
rises-lower low last (Flush ∷ puts) le h = rises-lower low last puts le h
rises-lower low last (At m s ∷ puts) le h = (omega (arith, le, h.0), h.1)

pub rises-append : (last : ℕ) (xs ys : List Put) → IsRising last xs → IsRising (last_put last xs) ys →
    IsRising last (xs ++ ys)
rises-append last [] ys h k = k
rises-append last (Flush ∷ xs) ys h k = rises-append last xs ys h k
rises-append last (At m s ∷ xs) ys h k = (h.0, rises-append m xs ys h.1 k)

pub last_put-append : (last : ℕ) (xs ys : List Put) → last_put last (xs ++ ys) ≡ last_put (last_put last xs) ys
last_put-append last [] ys = refl
last_put-append last (Flush ∷ xs) ys = last_put-append last xs ys
last_put-append last (At m s ∷ xs) ys = last_put-append m xs ys

-- marks of one moment
pub rises-at : (last m : ℕ) (signs : List Sign) → last ≤ m → IsRising last (puts_at m signs)
rises-at last m [] le = tt
rises-at last m (s ∷ signs) le = (le, rises-at m m signs (omega arith))

pub last_put-at : (last m : ℕ) (signs : List Sign) → last ≤ m → last_put last (puts_at m signs) ≤ m
last_put-at last m [] le = le
last_put-at last m (s ∷ signs) le = last_put-at m m signs (omega arith)

pub message_moments-append : (xs ys : List Put) → message_moments (xs ++ ys) ≡ message_moments xs ++ message_moments ys
message_moments-append [] ys = refl
message_moments-append (Flush ∷ xs) ys = message_moments-append xs ys
message_moments-append (At m (ShortSign s a b) ∷ xs) ys = ap (λ z. m ∷ z) (message_moments-append xs ys)
message_moments-append (At m (RtSign b) ∷ xs) ys = ap (λ z. m ∷ z) (message_moments-append xs ys)
message_moments-append (At m OpenSign ∷ xs) ys = message_moments-append xs ys
message_moments-append (At m (ByteSign b) ∷ xs) ys = message_moments-append xs ys
message_moments-append (At m EndSign ∷ xs) ys = ap (λ z. m ∷ z) (message_moments-append xs ys)
message_moments-append (At m AbortSign ∷ xs) ys = message_moments-append xs ys

-- Distances are kept by what keeps them twice, and messages stay as close.
later-then : (i j : ℕ) (ms ns os : List ℕ) → AreLater i ms ns → AreLater j ns os → AreLater (j + i) ms os
later-then i j [] [] [] h k = tt
later-then i j [] [] (o ∷ os) h k = absurd k
later-then i j [] (n ∷ ns) os h k = absurd h
later-then i j (m ∷ ms) [] os h k = absurd h
later-then i j (m ∷ ms) (n ∷ ns) [] h k = absurd k
later-then i j (m ∷ ms) (n ∷ ns) (o ∷ os) h k = (omega (arith, h.0, k.0), later-then i j ms ns os h.1 k.1)

pub keep-same : (ms : List ℕ) → KeepDistances ms ms
keep-same ms = record { rounds = 0; later = by ms }
  where
    by : (ms : List ℕ) → AreLater 0 ms ms
    by [] = tt
    by (m ∷ ms) = (omega arith, by ms)

pub keep-then : (ms ns os : List ℕ) → KeepDistances ms ns → KeepDistances ns os → KeepDistances ms os
keep-then ms ns os h k =
    let sum : 8192 * k.rounds + 8192 * h.rounds ≡ 8192 * (k.rounds + h.rounds) = omega arith in
    record {
      rounds = k.rounds + h.rounds;
      later = subst (λ z. AreLater z ms os) sum
          (later-then (8192 * h.rounds) (8192 * k.rounds) ms ns os h.later k.later);
    }

close_to-later : (by m n : ℕ) (ms ns : List ℕ) → m ≡ n + by → AreLater by ms ns → AreCloseTo m ms → AreCloseTo n ns
close_to-later by m n [] [] e h c = tt
close_to-later by m n [] (y ∷ ns) e h c = absurd h
close_to-later by m n (x ∷ ms) [] e h c = absurd h
close_to-later by m n (x ∷ ms) (y ∷ ns) e h c = (omega (arith, e, h.0, c.0), close_to-later by x y ms ns h.0 h.1 c.1)

pub close-kept : (ms ns : List ℕ) → KeepDistances ms ns → AreClose ms → AreClose ns
close-kept ms ns h c = by ms ns h.later c
  where
    by : (ms ns : List ℕ) → AreLater (8192 * h.rounds) ms ns → AreClose ms → AreClose ns
    by [] [] k c = tt
    by [] (n ∷ ns) k c = absurd k
    by (m ∷ ms) [] k c = absurd k
    by (m ∷ ms) (n ∷ ns) k c = close_to-later (8192 * h.rounds) m n ms ns k.0 k.1 c
