-- A variable-length quantity is read as its number.
use Rattle.std.proofs.Common.{◌≡◌, ℕ, ◌+◌, ◌-◌, ◌%◌, ◌^◌, ◌<◌, ◌≤◌, Bool, true, false, nat_lt, nat_le}
use Rattle.std.proofs.Common.{if◌then◌else◌, List, [], ◌∷◌, ◌++◌, length, Option, refl, ◌∙◌, ap, arith}
use Rattle.std.proofs.lemmas.Bool.Decides.{nat_tests}
use Rattle.mb_smf.specs.TrackTime.{TrackTime}
use Rattle.mb_smf.specs.declared.event_kind.EventKind.{EventKind}
use Rattle.mb_smf.specs.declared.file_place.FilePlace.{FilePlace}
use Rattle.mb_smf.specs.declared.file_place.FilePlace.TheVariants as at
use Rattle.mb_smf.specs.declared.file_state.FileState.{FileState}
use Rattle.mb_smf.specs.declared.fault.SmfWhy.TheVariants as why
use Rattle.mb_smf.specs.FileStep.{FileStep, fails, goes, with_seven}
use Rattle.mb_smf.specs.TrackSteps.{delta, in_chunk, length_of}
use Rattle.mb_smf.specs.Smf.{file_step, moved}
use Rattle.mb_smf.specs.SmfEvents.{quantity, seven_bits}
use Rattle.mb_smf.proofs.PassLemmas.{Passes, passes-both, passes-none, passes-step, state_at}

-- a place of a chunk that begins at `o` and has `l` bytes, behind `k` of them
abbrev pub chunk_at : (o l k : ℕ) (p : FilePlace) (n e : ℕ) (r : Option ℕ) (t : TrackTime) → FileState
chunk_at o l k p n e r t = state_at (o + k) p n (l - k) e r t

abbrev pub went_on : (o : ℕ) → (room : Bool) → FileStep → FileStep
went_on o room step = moved o (
    if room then record { given = step.given; now = record step.now { left = step.now.left - 1 } }
    else fails step.now why.Track
    )

-- one byte further
pub one-on : (o l k : ℕ) (p : FilePlace) (n e : ℕ) (r : Option ℕ) (t : TrackTime) →
    state_at (o + k + 1) p n (l - k - 1) e r t ≡ chunk_at o l (k + 1) p n e r t
one-on o l k p n e r t =
    let offset : o + k + 1 ≡ o + (k + 1) = omega arith in
    let left : l - k - 1 ≡ l - (k + 1) = omega arith in
    ap (λ z. state_at z p n (l - k - 1) e r t) offset ∙ ap (λ z. state_at (o + (k + 1)) p n z e r t) left

pub room-in : (l k : ℕ) → k + 1 < l → nat_lt 1 (l - k) ≡ true
room-in l k h = grind (arith, nat_tests)

-- where a quantity stands, and what becomes of its number
pub data NumberPlace : Type 0 where
  OfDelta : NumberPlace
  OfLength : EventKind → NumberPlace

abbrev pub number_at : NumberPlace → ℕ → FilePlace
number_at OfDelta i = at.Delta i
number_at (OfLength k) i = at.Length i k

abbrev pub number_done : NumberPlace → FileState → ℕ → FileStep
number_done OfDelta s n = delta s n
number_done (OfLength k) s n = length_of s k n

-- a byte with bit 7 set
goes-on : (w : NumberPlace) (o l k i n e : ℕ) (r : Option ℕ) (t : TrackTime) (b : ℕ) → nat_lt b 128 ≡ false →
    nat_le 3 i ≡ false → nat_lt 1 (l - k) ≡ true →
    file_step (chunk_at o l k (number_at w i) n e r t) b
    ≡ goes (chunk_at o l (k + 1) (number_at w (i + 1)) (with_seven n b) e r t)
goes-on OfDelta o l k i n e r t b high few room =
    let s : FileState = chunk_at o l k (at.Delta i) n e r t in
    let now : FileStep = goes (record s { place = at.Delta (i + 1); number = with_seven n b }) in
    ap (λ (q : Bool). moved (o + k) (in_chunk (if q then delta s (with_seven n b)
    else (if nat_le 3 i then fails s why.Number else now)))) high
    ∙ (ap (λ (q : Bool). moved (o + k) (in_chunk (if q then fails s why.Number else now))) few
    ∙ (ap (λ (q : Bool). went_on (o + k) q now) room
    ∙ ap goes (one-on o l k (at.Delta (i + 1)) (with_seven n b) e r t)))
goes-on (OfLength u) o l k i n e r t b high few room =
    let s : FileState = chunk_at o l k (at.Length i u) n e r t in
    let now : FileStep = goes (record s { place = at.Length (i + 1) u; number = with_seven n b }) in
    ap (λ (q : Bool). moved (o + k) (in_chunk (if q then length_of s u (with_seven n b)
    else (if nat_le 3 i then fails s why.Number else now)))) high
    ∙ (ap (λ (q : Bool). moved (o + k) (in_chunk (if q then fails s why.Number else now))) few
    ∙ (ap (λ (q : Bool). went_on (o + k) q now) room
    ∙ ap goes (one-on o l k (at.Length (i + 1) u) (with_seven n b) e r t)))

-- the last one
pub is-done : (w : NumberPlace) (o l k i m e : ℕ) (r : Option ℕ) (t : TrackTime) (b n : ℕ) → nat_lt b 128 ≡ true →
    with_seven m b ≡ n → file_step (chunk_at o l k (number_at w i) m e r t) b
    ≡ moved (o + k) (in_chunk (number_done w (chunk_at o l k (number_at w i) m e r t) n))
is-done OfDelta o l k i m e r t b n low value =
    let s : FileState = chunk_at o l k (at.Delta i) m e r t in
    ap (λ (q : Bool). moved (o + k) (in_chunk (if q then delta s (with_seven m b)
    else (if nat_le 3 i then fails s why.Number
    else goes (record s { place = at.Delta (i + 1); number = with_seven m b }))))) low
    ∙ ap (λ z. moved (o + k) (in_chunk (delta s z))) value
is-done (OfLength u) o l k i m e r t b n low value =
    let s : FileState = chunk_at o l k (at.Length i u) m e r t in
    ap (λ (q : Bool). moved (o + k) (in_chunk (if q then length_of s u (with_seven m b)
    else (if nat_le 3 i then fails s why.Number
    else goes (record s { place = at.Length (i + 1) u; number = with_seven m b }))))) low
    ∙ ap (λ z. moved (o + k) (in_chunk (length_of s u z))) value

-- A quantity is bytes that go on and one that ends it.
pub record QuantityRead (w : NumberPlace) (n o l k e : ℕ) (r : Option ℕ) (t : TrackTime) : Type 0 where
  pub front : List ℕ
  pub last : ℕ
  pub number : ℕ
  pub count : ℕ
  pub behind : ℕ
  pub is : quantity n ≡ front ++ last ∷ []
  pub there : behind ≡ k + length front
  pub passes : Passes (chunk_at o l k (number_at w 0) 0 e r t) front []
      (chunk_at o l behind (number_at w count) number e r t)
  pub low : nat_lt last 128 ≡ true
  pub value : with_seven number last ≡ n

high : (n shift : ℕ) → nat_lt (seven_bits n shift) 128 ≡ false
high n shift = grind (arith, nat_tests)

abbrev longer : (n shift m : ℕ) → ℕ
longer n shift m = with_seven m (seven_bits n shift)

abbrev pub by_size : (n : ℕ) → (one two three : Bool) → List ℕ
by_size n one two three =
    if one then n ∷ []
    else (if two then seven_bits n 7 ∷ (n % 128) ∷ []
    else (if three then seven_bits n 14 ∷ seven_bits n 7 ∷ (n % 128) ∷ []
    else seven_bits n 21 ∷ seven_bits n 14 ∷ seven_bits n 7 ∷ (n % 128) ∷ []))

one-more : (w : NumberPlace) (o l k i n m e shift : ℕ) (r : Option ℕ) (t : TrackTime) → nat_le 3 i ≡ false →
    k + 1 < l → Passes (chunk_at o l k (number_at w i) m e r t) (seven_bits n shift ∷ []) []
    (chunk_at o l (k + 1) (number_at w (i + 1)) (longer n shift m) e r t)
one-more w o l k i n m e shift r t few room =
    passes-step (chunk_at o l k (number_at w i) m e r t) (seven_bits n shift)
    (goes (chunk_at o l (k + 1) (number_at w (i + 1)) (longer n shift m) e r t))
    (goes-on w o l k i m e r t (seven_bits n shift) (high n shift) few (room-in l k room))

lower : (n m : ℕ) → nat_lt n m ≡ true → n < m
lower n m h = grind (arith, nat_tests)

one-byte : (w : NumberPlace) (n o l k e : ℕ) (r : Option ℕ) (t : TrackTime) → n < 128 → quantity n ≡ n ∷ [] →
    QuantityRead w n o l k e r t
one-byte w n o l k e r t low is = record {
  front = [];
  last = n;
  number = 0;
  count = 0;
  behind = k;
  is = is;
  there = omega arith;
  passes = passes-none (chunk_at o l k (number_at w 0) 0 e r t);
  low = grind (arith, nat_tests);
  value = omega (arith, low);
}

two-bytes : (w : NumberPlace) (n o l k e : ℕ) (r : Option ℕ) (t : TrackTime) → n < 16384 →
    quantity n ≡ seven_bits n 7 ∷ (n % 128) ∷ [] → k + 2 ≤ l → QuantityRead w n o l k e r t
two-bytes w n o l k e r t low is room = record {
  front = seven_bits n 7 ∷ [];
  last = n % 128;
  number = longer n 7 0;
  count = 1;
  behind = k + 1;
  is = is;
  there = omega arith;
  passes = one-more w o l k 0 n 0 e 7 r t refl (omega (arith, room));
  low = grind (arith, nat_tests);
  value = omega (arith, low);
}

three-bytes : (w : NumberPlace) (n o l k e : ℕ) (r : Option ℕ) (t : TrackTime) → n < 2097152 →
    quantity n ≡ seven_bits n 14 ∷ seven_bits n 7 ∷ (n % 128) ∷ [] → k + 3 ≤ l → QuantityRead w n o l k e r t
three-bytes w n o l k e r t low is room = record {
  front = seven_bits n 14 ∷ seven_bits n 7 ∷ [];
  last = n % 128;
  number = longer n 7 (longer n 14 0);
  count = 2;
  behind = k + 1 + 1;
  is = is;
  there = omega arith;
  passes =
      passes-both (chunk_at o l k (number_at w 0) 0 e r t)
      (chunk_at o l (k + 1) (number_at w 1) (longer n 14 0) e r t)
      (chunk_at o l (k + 1 + 1) (number_at w 2) (longer n 7 (longer n 14 0)) e r t) (seven_bits n 14 ∷ [])
      (seven_bits n 7 ∷ []) [] [] (one-more w o l k 0 n 0 e 14 r t refl (omega (arith, room)))
      (one-more w o l (k + 1) 1 n (longer n 14 0) e 7 r t refl (omega (arith, room)));
  low = grind (arith, nat_tests);
  value = omega (arith, low);
}

four-bytes : (w : NumberPlace) (n o l k e : ℕ) (r : Option ℕ) (t : TrackTime) → n < 268435456 →
    quantity n ≡ seven_bits n 21 ∷ seven_bits n 14 ∷ seven_bits n 7 ∷ (n % 128) ∷ [] → k + 4 ≤ l →
    QuantityRead w n o l k e r t
four-bytes w n o l k e r t low is room =
    let second : ℕ = longer n 14 (longer n 21 0) in
    let third : ℕ = longer n 7 second in
    record {
      front = seven_bits n 21 ∷ seven_bits n 14 ∷ seven_bits n 7 ∷ [];
      last = n % 128;
      number = third;
      count = 3;
      behind = k + 1 + 1 + 1;
      is = is;
      there = omega arith;
      passes =
          passes-both (chunk_at o l k (number_at w 0) 0 e r t)
          (chunk_at o l (k + 1) (number_at w 1) (longer n 21 0) e r t)
          (chunk_at o l (k + 1 + 1 + 1) (number_at w 3) third e r t) (seven_bits n 21 ∷ [])
          (seven_bits n 14 ∷ seven_bits n 7 ∷ []) [] []
          (one-more w o l k 0 n 0 e 21 r t refl (omega (arith, room)))
          (passes-both (chunk_at o l (k + 1) (number_at w 1) (longer n 21 0) e r t)
          (chunk_at o l (k + 1 + 1) (number_at w 2) second e r t)
          (chunk_at o l (k + 1 + 1 + 1) (number_at w 3) third e r t) (seven_bits n 14 ∷ []) (seven_bits n 7 ∷ []) []
          [] (one-more w o l (k + 1) 1 n (longer n 21 0) e 14 r t refl (omega (arith, room)))
          (one-more w o l (k + 1 + 1) 2 n second e 7 r t refl (omega (arith, room))));
      low = grind (arith, nat_tests);
      value = omega (arith, low);
    }

-- the quantity that a number is, by its size
pub quantity-read : (w : NumberPlace) (n o l k e : ℕ) (r : Option ℕ) (t : TrackTime) → n < 2 ^ 28 →
    k + length (quantity n) ≤ l → QuantityRead w n o l k e r t
quantity-read w n o l k e r t low room = by (nat_lt n (2 ^ 7)) (nat_lt n (2 ^ 14)) (nat_lt n (2 ^ 21)) refl refl refl
  where
    by : (one two three : Bool) → nat_lt n (2 ^ 7) ≡ one → nat_lt n (2 ^ 14) ≡ two → nat_lt n (2 ^ 21) ≡ three →
        QuantityRead w n o l k e r t
    by true two three a b c = one-byte w n o l k e r t (lower n 128 a)
        (ap (λ (q : Bool). by_size n q (nat_lt n (2 ^ 14)) (nat_lt n (2 ^ 21))) a)
    by false true three a b c =
        let is : quantity n ≡ seven_bits n 7 ∷ (n % 128) ∷ [] =
        ap (λ (q : Bool). by_size n q (nat_lt n (2 ^ 14)) (nat_lt n (2 ^ 21))) a
        ∙ ap (λ (q : Bool). by_size n false q (nat_lt n (2 ^ 21))) b in
        two-bytes w n o l k e r t (lower n 16384 b) is (omega (arith, room, ap length is))
    by false false true a b c =
        let is : quantity n ≡ seven_bits n 14 ∷ seven_bits n 7 ∷ (n % 128) ∷ [] =
        ap (λ (q : Bool). by_size n q (nat_lt n (2 ^ 14)) (nat_lt n (2 ^ 21))) a
        ∙ (ap (λ (q : Bool). by_size n false q (nat_lt n (2 ^ 21))) b ∙ ap (λ (q : Bool). by_size n false false q) c) in
        three-bytes w n o l k e r t (lower n 2097152 c) is (omega (arith, room, ap length is))
    by false false false a b c =
        let is : quantity n ≡ seven_bits n 21 ∷ seven_bits n 14 ∷ seven_bits n 7 ∷ (n % 128) ∷ [] =
        ap (λ (q : Bool). by_size n q (nat_lt n (2 ^ 14)) (nat_lt n (2 ^ 21))) a
        ∙ (ap (λ (q : Bool). by_size n false q (nat_lt n (2 ^ 21))) b ∙ ap (λ (q : Bool). by_size n false false q) c) in
        four-bytes w n o l k e r t (omega (arith, low)) is (omega (arith, room, ap length is))
