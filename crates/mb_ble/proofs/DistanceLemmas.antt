-- What is read of written packets keeps the stamps of messages, and the distances of those that lie close. Up to the
-- first message nothing is asked of the stamps that the start of a broken System Exclusive message has: they may lie
-- anywhere, and each shifts what is read by rounds of 13 bits. From the first message on the shift stays the same.
use Rattle.std.proofs.Common.{◌≡◌, ℕ, ◌+◌, ◌-◌, ◌*◌, ◌/◌, ◌%◌, ◌<◌, ◌≤◌, Bool, true, false, List, [], ◌∷◌, ◌++◌, refl}
use Rattle.std.proofs.Common.{sym, subst, arith}
use Rattle.std.specs.Prelude.{nat_lt}
use Rattle.std.proofs.lemmas.Bool.Decides.{nat_tests}
use Rattle.mb_message.specs.Signs.{Sign, ShortSign, RtSign, OpenSign, ByteSign, EndSign, AbortSign}
use Rattle.mb_clock.specs.Moments.{next_moment}
use Rattle.mb_stream.specs.Puts.{Put, At, Flush, signs_in, puts_at}
use Rattle.mb_stream.specs.Standing.{suited, AreValid}
use Rattle.mb_stream.proofs.Late.{Place, Closed, Opened, Broke, owed}
use Rattle.mb_ble.specs.Distances.{puts_read, message_moments, IsRising, AreCloseTo, AreClose, AreLater, KeepDistances}
use Rattle.mb_ble.specs.Distances.{KeepStamps}
use Rattle.mb_ble.specs.Reading.{ble_reading}
use Rattle.mb_ble.specs.Written.{ble_written}
use Rattle.mb_ble.proofs.TimedPackets.{timed_late, written-timed}

-- What is owed is no message.
owed-none : (p : Place) (last : ℕ) → message_moments (puts_at last (owed p)) ≡ []
owed-none Closed last = refl
owed-none Opened last = refl
owed-none Broke last = refl

owed-first : (p : Place) (now : ℕ) (mark : Sign) (more : List Put) →
    message_moments (puts_at now (owed p ++ mark ∷ []) ++ more) ≡ message_moments (At now mark ∷ more)
owed-first Closed now mark more = refl
owed-first Opened now mark more = refl
owed-first Broke now mark more = refl

-- the moment of a stamp, read behind a last moment
abbrev read : ℕ → ℕ → ℕ
read last m = next_moment last (m % 8192)

read-bits : (last m : ℕ) → m % 8192 ≡ read last m % 8192
read-bits last m = omega arith

stamps-late : (puts : List Put) (p : Place) (last : ℕ) →
    KeepStamps (message_moments puts) (message_moments (timed_late p last puts))
stamps-late [] p last = subst (KeepStamps []) (sym (owed-none p last)) tt
stamps-late (Flush ∷ puts) p last = stamps-late puts p last
stamps-late (At m (ShortSign s a b) ∷ puts) p last =
    subst (KeepStamps (m ∷ message_moments puts))
    (sym (owed-first p (read last m) (ShortSign s a b) (timed_late Closed (read last m) puts)))
    (read-bits last m, stamps-late puts Closed (read last m))
stamps-late (At m (RtSign b) ∷ puts) p last = (read-bits last m, stamps-late puts p (read last m))
stamps-late (At m OpenSign ∷ puts) p last =
    subst (KeepStamps (message_moments puts))
    (sym (owed-first p (read last m) OpenSign (timed_late Opened (read last m) puts)))
    (stamps-late puts Opened (read last m))
stamps-late (At m (ByteSign b) ∷ puts) p last = stamps-late puts p last
stamps-late (At m EndSign ∷ puts) p last = (read-bits last m, stamps-late puts Closed (read last m))
stamps-late (At m AbortSign ∷ puts) p last = stamps-late puts Broke last

-- A stamp less than 8,192 behind the last one put, which was read some rounds earlier, is read as many earlier; any
-- other is read some rounds earlier.
read-near : (c m last k : ℕ) → c ≡ last + 8192 * k → c ≤ m → m < c + 8192 → m ≡ read last m + 8192 * k
read-near c m last k e a b = omega (arith, e, a, b)

read-far : (c m last k : ℕ) → c ≡ last + 8192 * k → c ≤ m → m ≡ read last m + 8192 * ((m - read last m) / 8192)
read-far c m last k e a = omega (arith, e, a)

-- where the first message lies far, there is none
far-none : (puts : List Put) (low message : ℕ) → IsRising low puts → AreCloseTo message (message_moments puts) →
    message + 8192 ≤ low → message_moments puts ≡ []
far-none [] low message rises close far = refl
far-none (Flush ∷ puts) low message rises close far = far-none puts low message rises close far
far-none (At m (ShortSign s a b) ∷ puts) low message rises close far = absurd (omega (arith, rises.0, close.0, far))
far-none (At m (RtSign b) ∷ puts) low message rises close far = absurd (omega (arith, rises.0, close.0, far))
far-none (At m OpenSign ∷ puts) low message rises close far =
    far-none puts m message rises.1 close (omega (arith, rises.0, far))
far-none (At m (ByteSign b) ∷ puts) low message rises close far =
    far-none puts m message rises.1 close (omega (arith, rises.0, far))
far-none (At m EndSign ∷ puts) low message rises close far = absurd (omega (arith, rises.0, close.0, far))
far-none (At m AbortSign ∷ puts) low message rises close far =
    far-none puts m message rises.1 close (omega (arith, rises.0, far))

none-later : (by : ℕ) (ms ns : List ℕ) → ms ≡ [] → KeepStamps ms ns → AreLater by ms ns
none-later by [] [] e h = tt
none-later by [] (n ∷ ns) e h = absurd h
none-later by (m ∷ ms) ns e h = cc

-- The statement behind a message, by the last stamp c that was put.
abbrev Later : ℕ → List Put → Type 0
Later k puts = (p : Place) (last c message low : ℕ) → c ≡ last + 8192 * k → message ≤ c → c ≤ low → IsRising low puts →
    AreCloseTo message (message_moments puts) →
    AreLater (8192 * k) (message_moments puts) (message_moments (timed_late p last puts))

-- a message
later-message : (k : ℕ) (puts : List Put) → Later k puts → (q : Place) (last c message low m : ℕ) →
    c ≡ last + 8192 * k → message ≤ c → c ≤ low →
    (low ≤ m) × IsRising m puts → AreCloseTo message (m ∷ message_moments puts) →
    AreLater (8192 * k) (m ∷ message_moments puts) (read last m ∷ message_moments (timed_late q (read last m) puts))
later-message k puts ih q last c message low m e a b rises close =
    let is : m ≡ read last m + 8192 * k =
    read-near c m last k e (omega (arith, b, rises.0)) (omega (arith, a, close.0)) in
    (is, ih q (read last m) m m m is (omega arith) (omega arith) rises.1 close.1)

-- the start of a System Exclusive message, near or behind the last message of all
later-open : (k : ℕ) (puts : List Put) → Later k puts → (q : Place) (last c message low m : ℕ) → c ≡ last + 8192 * k →
    message ≤ c → c ≤ low →
    (low ≤ m) × IsRising m puts → AreCloseTo message (message_moments puts) → (near : Bool) →
    nat_lt m (message + 8192) ≡ near →
    AreLater (8192 * k) (message_moments puts) (message_moments (timed_late q (read last m) puts))
later-open k puts ih q last c message low m e a b rises close true t =
    let less : m < message + 8192 = grind (arith, nat_tests) in
    let is : m ≡ read last m + 8192 * k = read-near c m last k e (omega (arith, b, rises.0)) (omega (arith, a, less)) in
    ih q (read last m) m message m is (omega (arith, a, b, rises.0)) (omega arith) rises.1 close
later-open k puts ih q last c message low m e a b rises close false t =
    let far : message + 8192 ≤ m = grind (arith, nat_tests) in
    none-later (8192 * k) (message_moments puts) (message_moments (timed_late q (read last m) puts))
    (far-none puts m message rises.1 close far)
    (stamps-late puts q (read last m))

later : (k : ℕ) (puts : List Put) → Later k puts
later k [] p last c message low e a b rises close = subst (AreLater (8192 * k) []) (sym (owed-none p last)) tt
later k (Flush ∷ puts) p last c message low e a b rises close = later k puts p last c message low e a b rises close
later k (At m (ShortSign s d1 d2) ∷ puts) p last c message low e a b rises close =
    subst (AreLater (8192 * k) (m ∷ message_moments puts))
    (sym (owed-first p (read last m) (ShortSign s d1 d2) (timed_late Closed (read last m) puts)))
    (later-message k puts (later k puts) Closed last c message low m e a b rises close)
later k (At m (RtSign r) ∷ puts) p last c message low e a b rises close =
    later-message k puts (later k puts) p last c message low m e a b rises close
later k (At m OpenSign ∷ puts) p last c message low e a b rises close =
    subst (AreLater (8192 * k) (message_moments puts))
    (sym (owed-first p (read last m) OpenSign (timed_late Opened (read last m) puts)))
    (later-open k puts (later k puts) Opened last c message low m e a b rises close (nat_lt m (message + 8192)) refl)
later k (At m (ByteSign d) ∷ puts) p last c message low e a b rises close =
    later k puts p last c message m e a (omega (arith, b, rises.0)) rises.1 close
later k (At m EndSign ∷ puts) p last c message low e a b rises close =
    later-message k puts (later k puts) Closed last c message low m e a b rises close
later k (At m AbortSign ∷ puts) p last c message low e a b rises close =
    later k puts Broke last c message m e a (omega (arith, b, rises.0)) rises.1 close

-- The statement up to the first message.
abbrev First : List Put → Type 0
First puts = (p : Place) (last c low k : ℕ) → c ≡ last + 8192 * k → c ≤ low → IsRising low puts →
    AreClose (message_moments puts) → KeepDistances (message_moments puts) (message_moments (timed_late p last puts))

first-message : (puts : List Put) (q : Place) (last c low k m : ℕ) → c ≡ last + 8192 * k → c ≤ low →
    (low ≤ m) × IsRising m puts →
    AreCloseTo m (message_moments puts) →
    KeepDistances (m ∷ message_moments puts) (read last m ∷ message_moments (timed_late q (read last m) puts))
first-message puts q last c low k m e b rises close =
    let is : m ≡ read last m + 8192 * ((m - read last m) / 8192) = read-far c m last k e (omega (arith, b, rises.0)) in
    record {
      rounds = (m - read last m) / 8192;
      later = (
        is,
        later ((m - read last m) / 8192) puts q (read last m) m m m is (omega arith)
            (omega arith) rises.1 close,
      );
    }

first : (puts : List Put) → First puts
first [] p last c low k e b rises close =
    record { rounds = 0; later = subst (AreLater 0 []) (sym (owed-none p last)) tt }
first (Flush ∷ puts) p last c low k e b rises close = first puts p last c low k e b rises close
first (At m (ShortSign s d1 d2) ∷ puts) p last c low k e b rises close =
    subst (KeepDistances (m ∷ message_moments puts))
    (sym (owed-first p (read last m) (ShortSign s d1 d2) (timed_late Closed (read last m) puts)))
    (first-message puts Closed last c low k m e b rises close)
first (At m (RtSign r) ∷ puts) p last c low k e b rises close = first-message puts p last c low k m e b rises close
first (At m OpenSign ∷ puts) p last c low k e b rises close =
    subst (KeepDistances (message_moments puts))
    (sym (owed-first p (read last m) OpenSign (timed_late Opened (read last m) puts)))
    (first puts Opened (read last m) m m ((m - read last m) / 8192) (read-far c m last k e (omega (arith, b, rises.0)))
    (omega arith) rises.1 close)
first (At m (ByteSign d) ∷ puts) p last c low k e b rises close =
    first puts p last c m k e (omega (arith, b, rises.0)) rises.1 close
first (At m EndSign ∷ puts) p last c low k e b rises close = first-message puts Closed last c low k m e b rises close
first (At m AbortSign ∷ puts) p last c low k e b rises close =
    first puts Broke last c m k e (omega (arith, b, rises.0)) rises.1 close

pub stamps : (size : ℕ) (puts : List Put) → suited (signs_in puts) ≡ true → AreValid (signs_in puts) → IsRising 0 puts →
    KeepStamps (message_moments puts) (message_moments (puts_read (ble_reading (ble_written size puts))))
stamps size puts s v rises =
    subst (λ z. KeepStamps (message_moments puts) (message_moments z)) (sym (written-timed size puts s v rises))
    (stamps-late puts Closed 0)

pub distances : (size : ℕ) (puts : List Put) → suited (signs_in puts) ≡ true → AreValid (signs_in puts) →
    IsRising 0 puts → AreClose (message_moments puts) →
    KeepDistances (message_moments puts) (message_moments (puts_read (ble_reading (ble_written size puts))))
distances size puts s v rises close =
    subst (λ z. KeepDistances (message_moments puts) (message_moments z)) (sym (written-timed size puts s v rises))
    (first puts Closed 0 0 0 0 refl (omega arith) rises close)
