-- The moments that a hop hands on never fall, where those that it was handed never do, and none is above that of the
-- end.
use Rattle.std.proofs.Common.{◌≡◌, ℕ, zero, suc, ◌-◌, ◌<◌, ◌≤◌, Bool, true, false, List, [], ◌∷◌, ◌++◌, map, length}
use Rattle.std.proofs.Common.{refl, sym, subst, ◌∙◌, ap, ap₂, arith, append_assoc}
use Rattle.std.specs.Prelude.{if◌then◌else◌, get_or}
use Rattle.std.proofs.lemmas.Bool.Decides.{nat_tests}
use Rattle.mb_message.specs.Signs.{Sign}
use Rattle.mb_stream.specs.Order.{Each, not_after, put_in, in_order}
use Rattle.mb_stream.specs.Puts.{Put, At, Flush, puts_at, last_put}
use Rattle.mb_stream.specs.Reading.{Part, part_of, part_at, told_signs, payload_told}
use Rattle.mb_stream.specs.Told.{Known, Told, Marks, Notes}
use Rattle.mb_din.specs.Recording.{din_payload}
use Rattle.mb_usb.specs.Reading.{usb_told}
use Rattle.mb_fire.specs.Reading.{fire_told}
use Rattle.mb_ble.specs.Distances.{puts_read, IsRising}
use Rattle.mb_ble.specs.Reading.{ble_reading, ble_known}
use Rattle.mb_ble.proofs.RisingLemmas.{rises-lower, rises-append, rises-at, last_put-append, last_put-at}
use Rattle.mb_ble.proofs.TimedMachine.{reading-rises, reading-last}
use Rattle.mb_carrier.specs.Carrier.{known, moment_of, puts_known, puts_so_far, puts_of, end_told, end_moment}
use Rattle.mb_carrier.specs.Carrier.{last_byte_moment, live, written}
use Rattle.mb_carrier.specs.Carrier as carrier
use Rattle.mb_carrier.specs.Conversion.{none_set, repeated, live_moments, moments_of}
use Rattle.mb_carrier.specs.MessageMoments.{HasNoStamps}
use Rattle.mb_carrier.specs.declared.spec.Spec.{Spec}
use Rattle.mb_carrier.specs.declared.spec.Spec.TheVariants.{Din, Usb, Fire, Ble}
use Rattle.mb_carrier.proofs.FreshPlaces.{fresh-in}
use Rattle.mb_carrier.proofs.GrowLemmas as grow
use Rattle.mb_carrier.proofs.PlaceLemmas.{In, StandsIn}

-- What is put in order stands in the order of its offsets.
abbrev InOrder : ℕ → List Known → Type 0
InOrder low [] = Unit {0}
InOrder low (k ∷ ks) = (low ≤ k.at) × InOrder k.at ks

not_after-low : (x y : Known) → not_after x y ≡ true → x.at ≤ y.at
not_after-low x y e = grind (arith, nat_tests)

after-low : (x y : Known) → not_after x y ≡ false → y.at ≤ x.at
after-low x y e = grind (arith, nat_tests)

put-order : (low : ℕ) (x : Known) (ys : List Known) → low ≤ x.at → InOrder low ys → InOrder low (put_in (λ k. k) x ys)
put-order low x [] le h = (le, tt)
put-order low x (y ∷ ys) le h = by (not_after x y) refl (λ e. put-order y.at x ys (after-low x y e) h.1)
  where
    by : (c : Bool) → not_after x y ≡ c → (not_after x y ≡ false → InOrder y.at (put_in (λ k. k) x ys)) →
        InOrder low (if c then x ∷ y ∷ ys else y ∷ put_in (λ k. k) x ys)
    by true e ih = (le, (not_after-low x y e, h.1))
    by false e ih = (h.0, ih e)

all-order : (ks : List Known) → InOrder 0 (in_order (λ k. k) ks)
all-order [] = tt
all-order (k ∷ ks) = put-order 0 k (in_order (λ k. k) ks) (omega arith) (all-order ks)

known-order : (s : Spec) → HasNoStamps s → (bytes : List ℕ) → InOrder 0 (known s bytes)
known-order Din n bytes = all-order (payload_told (din_payload bytes))
known-order (Usb cable) n bytes = all-order (usb_told cable bytes)
known-order (Fire port) n bytes = all-order (fire_told port bytes)
known-order (Ble size) n bytes = absurd n

-- Moments that never fall along the bytes.
abbrev pub Rise : (ℕ → ℕ) → Type 0
Rise m = (i j : ℕ) → i ≤ j → m i ≤ m j

abbrev read : (ℕ → ℕ) → List Known → List Put
read m [] = []
read m (k ∷ ks) = carrier.put_in (m k.at) k.told ++ read m ks

read-same : (s : Spec) → HasNoStamps s → (m : ℕ → ℕ) (ks : List Known) → puts_known s m ks ≡ read m ks
read-same s n m [] = refl
read-same s n m (k ∷ ks) = ap₂ (λ x z. carrier.put_in x k.told ++ z) (by s n) (read-same s n m ks)
  where
    by : (s : Spec) → HasNoStamps s → moment_of s m k ≡ m k.at
    by Din n = refl
    by (Usb cable) n = refl
    by (Fire port) n = refl
    by (Ble size) n = absurd n

read-rises : (m : ℕ → ℕ) → Rise m → (ks : List Known) (last low : ℕ) → last ≤ m low → InOrder low ks →
    IsRising last (read m ks)
read-rises m rise [] last low le h = tt
read-rises m rise (k ∷ ks) last low le h =
    let up : m low ≤ m k.at = rise low k.at h.0 in
    by k.told (omega (arith, le, up)) (read-rises m rise ks (m k.at) k.at (omega arith) h.1)
  where
    by : (t : Told) → last ≤ m k.at → IsRising (m k.at) (read m ks) →
        IsRising last (carrier.put_in (m k.at) t ++ read m ks)
    by (Marks s) a rest = (a, rest)
    by (Notes at kind) a rest = rises-lower last (m k.at) (read m ks) a rest

-- a mark stands in the bytes
below-end : (m : ℕ → ℕ) → Rise m → (at n : ℕ) → at < n → m at ≤ last_byte_moment m n
below-end m rise at zero h = absurd (omega (arith, h))
below-end m rise at (suc n) h = rise at n (omega (arith, h))

read-last : (m : ℕ → ℕ) → Rise m → (n : ℕ) (ks : List Known) (last : ℕ) → last ≤ last_byte_moment m n →
    Each (In 0 n) ks →
    last_put last (read m ks) ≤ last_byte_moment m n
read-last m rise n [] last le h = le
read-last m rise n (k ∷ ks) last le h = by k.told h.0 (λ l le. read-last m rise n ks l le h.1)
  where
    by : (t : Told) → StandsIn 0 n k.at t →
        ((l : ℕ) → l ≤ last_byte_moment m n → last_put l (read m ks) ≤ last_byte_moment m n) →
        last_put last (carrier.put_in (m k.at) t ++ read m ks) ≤ last_byte_moment m n
    by (Marks s) i rest = rest (m k.at) (below-end m rise k.at n (omega (arith, i.1)))
    by (Notes at kind) i rest = rest last le

-- What a hop hands on.
pub record Rising (puts : List Put) (end : ℕ) : Type 0 where
  pub rises : IsRising 0 puts
  pub last : last_put 0 puts ≤ end

with-end : (puts : List Put) (end : ℕ) (signs : List Sign) → Rising puts end → Rising (puts ++ puts_at end signs) end
with-end puts end signs h = record {
  rises = rises-append 0 puts (puts_at end signs) h.rises (rises-at (last_put 0 puts) end signs h.last);
  last = subst (λ z. z ≤ end) (sym (last_put-append 0 puts (puts_at end signs)))
      (last_put-at (last_put 0 puts) end signs h.last);
}

known-rising : (s : Spec) → HasNoStamps s → (m : ℕ → ℕ) → Rise m → (bytes : List ℕ) → known s [] ≡ [] →
    Rising (puts_so_far s m bytes) (last_byte_moment m (length bytes))
known-rising s n m rise bytes nothing =
    let inside : Each (In 0 (length bytes)) (known s bytes) =
    fresh-in s n [] bytes (known s bytes) (ap (λ z. z ++ known s bytes) (sym nothing)) in
    subst (λ z. Rising z (last_byte_moment m (length bytes))) (sym (read-same s n m (known s bytes)))
    (record {
      rises = read-rises m rise (known s bytes) 0 0 (omega arith) (known-order s n bytes);
      last = read-last m rise (length bytes) (known s bytes) 0 (omega arith) inside;
    })

-- of BLE-MIDI packets it is the reading, whatever moments were set
ble-known : (size : ℕ) (m : ℕ → ℕ) (ks : List Known) → puts_known (Ble size) m ks ≡ puts_read (map part_of ks)
ble-known size m [] = refl
ble-known size m (k ∷ ks) = ap (λ z. carrier.put_in k.moment k.told ++ z) (ble-known size m ks)

ble-end : (e : ℕ) (ts : List Told) → puts_at e (told_signs ts) ≡ puts_read (map (part_at e) ts)
ble-end e [] = refl
ble-end e (Marks s ∷ ts) = ap (λ z. At e s ∷ z) (ble-end e ts)
ble-end e (Notes at kind ∷ ts) = ble-end e ts

read-append : (xs ys : List Part) → puts_read (xs ++ ys) ≡ puts_read xs ++ puts_read ys
read-append [] ys = refl
read-append (p ∷ xs) ys =
    ap (λ z. carrier.put_in p.moment p.told ++ z) (read-append xs ys)
    ∙ sym (append_assoc (carrier.put_in p.moment p.told) (puts_read xs) (puts_read ys))

pub ble-read : (size : ℕ) (m : ℕ → ℕ) (bytes : List ℕ) → puts_of (Ble size) m bytes ≡ puts_read (ble_reading bytes)
ble-read size m bytes =
    let e : ℕ = end_moment (Ble size) m bytes in
    let ts : List Told = end_told (Ble size) bytes in
    ap₂ (λ x y. x ++ y) (ble-known size m (ble_known bytes)) (ble-end e ts)
    ∙ sym (read-append (map part_of (ble_known bytes)) (map (part_at e) ts))

ble-rising : (size : ℕ) (m : ℕ → ℕ) (bytes : List ℕ) →
    Rising (puts_of (Ble size) m bytes) (end_moment (Ble size) m bytes)
ble-rising size m bytes =
    subst (λ z. Rising z (end_moment (Ble size) m bytes)) (sym (ble-read size m bytes))
    (record { rises = reading-rises bytes; last = reading-last bytes })

pub read-rising : (s : Spec) (m : ℕ → ℕ) → Rise m → (bytes : List ℕ) → Rising (puts_of s m bytes) (end_moment s m bytes)
read-rising Din m rise bytes =
    with-end (puts_so_far Din m bytes) (end_moment Din m bytes) (told_signs (end_told Din bytes))
    (known-rising Din tt m rise bytes refl)
read-rising (Usb cable) m rise bytes =
    with-end (puts_so_far (Usb cable) m bytes) (end_moment (Usb cable) m bytes)
    (told_signs (end_told (Usb cable) bytes)) (known-rising (Usb cable) tt m rise bytes refl)
read-rising (Fire port) m rise bytes =
    with-end (puts_so_far (Fire port) m bytes) (end_moment (Fire port) m bytes)
    (told_signs (end_told (Fire port) bytes)) (known-rising (Fire port) tt m rise bytes refl)
read-rising (Ble size) m rise bytes = ble-rising size m bytes

-- The moments of the bytes that are written.
abbrev Rises : (low : ℕ) → List ℕ → (end : ℕ) → Type 0
Rises low [] end = low ≤ end
Rises low (m ∷ ms) end = (low ≤ m) × Rises m ms end

rises-down : (low next : ℕ) (ms : List ℕ) (end : ℕ) → low ≤ next → Rises next ms end → Rises low ms end
rises-down low next [] end le h = omega (arith, le, h)
rises-down low next (m ∷ ms) end le h = (omega (arith, le, h.0), h.1)

rises-repeated : (count m : ℕ) (ms : List ℕ) (end : ℕ) → Rises m ms end → Rises m (repeated count m ++ ms) end
rises-repeated zero m ms end h = h
rises-repeated (suc count) m ms end h = (omega arith, rises-repeated count m ms end h)

get-above : (ms : List ℕ) (low end i : ℕ) → Rises low ms end → low ≤ get_or ms i end
get-above [] low end i h = h
get-above (m ∷ ms) low end zero h = h.0
get-above (m ∷ ms) low end (suc i) h = get-above ms low end i (rises-down low m ms end h.0 h.1)

get-rises : (ms : List ℕ) (low end i j : ℕ) → Rises low ms end → i ≤ j → get_or ms i end ≤ get_or ms j end
get-rises [] low end i j h le = omega arith
get-rises (m ∷ ms) low end zero zero h le = omega arith
get-rises (m ∷ ms) low end zero (suc j) h le = get-above ms m end j h.1
get-rises (m ∷ ms) low end (suc i) zero h le = absurd (omega (arith, le))
get-rises (m ∷ ms) low end (suc i) (suc j) h le = get-rises ms m end i j h.1 (omega (arith, le))

last-flush : (last : ℕ) (before : List Put) → last_put last (before ++ Flush ∷ []) ≡ last_put last before
last-flush last [] = refl
last-flush last (Flush ∷ ps) = last-flush last ps
last-flush last (At k x ∷ ps) = last-flush k ps

live-rises : (s : Spec) (end : ℕ) (puts before : List Put) (last : ℕ) → last_put 0 before ≡ last → IsRising last puts →
    last_put last puts ≤ end →
    Rises last (live_moments s before puts) end
live-rises s end [] before last e rises le = le
live-rises s end (Flush ∷ puts) before last e rises le =
    let next : List Put = before ++ Flush ∷ [] in
    let is : last_put 0 next ≡ last = last-flush 0 before ∙ e in
    subst (λ z. Rises last (repeated (length (live s next) - length (live s before)) z ++ live_moments s next puts) end)
    (sym is)
    (rises-repeated (length (live s next) - length (live s before)) last (live_moments s next puts) end
    (live-rises s end puts next last is rises le))
live-rises s end (At k x ∷ puts) before last e rises le =
    let next : List Put = before ++ At k x ∷ [] in
    let is : last_put 0 next ≡ k = grow.last_put-at 0 k x before in
    subst (λ z. Rises last (repeated (length (live s next) - length (live s before)) z ++ live_moments s next puts) end)
    (sym is)
    (rises-down last k (repeated (length (live s next) - length (live s before)) k ++ live_moments s next puts) end
    rises.0
    (rises-repeated (length (live s next) - length (live s before)) k (live_moments s next puts) end
    (live-rises s end puts next k is rises.1 le)))

pub moments-rise : (s : Spec) (end : ℕ) (puts : List Put) → Rising puts end → Rise (moments_of s end puts)
moments-rise s end puts h =
    λ i j le. get-rises (live_moments s [] puts) 0 end i j (live-rises s end puts [] 0 refl h.rises h.last) le

pub none-rise : Rise none_set
none-rise = λ i j le. omega arith
