-- The list that is kept as one truth value for each voice.
use Rattle.std.proofs.Common.{◌≡◌, ◌≢◌, ℕ, zero, suc, ◌+◌, ◌*◌, ◌/◌, ◌%◌, ◌<◌, ◌≤◌, Bool, true, false, ◌&&◌, ◌||◌, ◌==◌}
use Rattle.std.proofs.Common.{nat_lt, nat_le, cond, if◌then◌else◌, List, [], ◌∷◌, length, map, get_or, set, Some, None}
use Rattle.std.proofs.Common.{refl, sym, ◌∙◌, ap, arith, get_or-set_same, get_or-set_other}
use Rattle.std.proofs.lemmas.Bool.Decides.{nat_tests}
use Rattle.std.proofs.lemmas.Bool.{false≢true}
use Rattle.std.proofs.lemmas.List.{length-set}
use Rattle.std.proofs.lemmas.List.Quantifiers.{position-Some}
use Rattle.std.specs.List.{filter, range_with_len, position, position_or_len}
use Rattle.mb_message.specs.Signs.{ShortSign}
use Rattle.mb_stream.specs.Denotation.{Message}
use Rattle.mb_guard.specs.Sounding.{Voice, voices, turned, last_said}
use Rattle.mb_guard.specs.Guard.{is_same, stands_in, after, voice_at, sounding_from, place_of, begins}

pub voices-are : voices ≡ map voice_at (range_with_len 0 2048)
unfolding voices
voices-are = refl

pub heard-filter : (p : Voice → Bool) (i : ℕ) (bits : List Bool) →
    ((j : ℕ) → j < length bits → get_or bits j false ≡ p (voice_at (i + j))) →
    sounding_from i bits ≡ filter p (map voice_at (range_with_len i (length bits)))
unfolding sounding_from
heard-filter p i [] same = refl
heard-filter p i (true ∷ bits) same =
    let e : i + 0 ≡ i = omega arith in
    let here : true ≡ p (voice_at i) = same 0 (omega arith) ∙ ap (λ k. p (voice_at k)) e in
    let kept : List Voice = filter p (map voice_at (range_with_len (i + 1) (length bits))) in
    let rest : sounding_from (i + 1) bits ≡ kept =
    heard-filter p (i + 1) bits (λ j low. let f : i + suc j ≡ i + 1 + j = omega arith in
    same (suc j) (omega (arith, low)) ∙ ap (λ k. p (voice_at k)) f) in
    ap (λ z. voice_at i ∷ z) rest ∙ ap (λ (t : Bool). cond t (voice_at i ∷ kept) kept) here
heard-filter p i (false ∷ bits) same =
    let e : i + 0 ≡ i = omega arith in
    let here : false ≡ p (voice_at i) = same 0 (omega arith) ∙ ap (λ k. p (voice_at k)) e in
    let kept : List Voice = filter p (map voice_at (range_with_len (i + 1) (length bits))) in
    let rest : sounding_from (i + 1) bits ≡ kept =
    heard-filter p (i + 1) bits (λ j low. let f : i + suc j ≡ i + 1 + j = omega arith in
    same (suc j) (omega (arith, low)) ∙ ap (λ k. p (voice_at k)) f) in
    rest ∙ ap (λ (t : Bool). cond t (voice_at i ∷ kept) kept) here

same-own : (a : ℕ) → is_same (voice_at a) (voice_at a) ≡ true
same-own a = grind (arith, nat_tests)

same-above : (a b : ℕ) → b < a → is_same (voice_at a) (voice_at b) ≡ false
same-above a b low = grind (arith, nat_tests)

same-below : (a b : ℕ) → a < b → is_same (voice_at a) (voice_at b) ≡ false
same-below a b low = grind (arith, nat_tests)

stands-below : (k i : ℕ) (bits : List Bool) → k < i → stands_in (voice_at k) (sounding_from i bits) ≡ false
unfolding sounding_from
stands-below k i [] low = refl
stands-below k i (true ∷ bits) low =
    ap (λ (t : Bool). t || stands_in (voice_at k) (sounding_from (i + 1) bits)) (same-below k i low) ∙
    stands-below k (i + 1) bits (omega (arith, low))
stands-below k i (false ∷ bits) low = stands-below k (i + 1) bits (omega (arith, low))

pub stands-heard : (i j : ℕ) (bits : List Bool) → j < length bits →
    stands_in (voice_at (i + j)) (sounding_from i bits) ≡ get_or bits j false
unfolding sounding_from
stands-heard i j [] low = absurd (omega (arith, low))
stands-heard i zero (true ∷ bits) low =
    let e : i + 0 ≡ i = omega arith in
    ap (λ k. is_same (voice_at k) (voice_at i) || stands_in (voice_at k) (sounding_from (i + 1) bits)) e ∙
    ap (λ (t : Bool). t || stands_in (voice_at i) (sounding_from (i + 1) bits)) (same-own i)
stands-heard i zero (false ∷ bits) low = stands-below (i + 0) (i + 1) bits (omega arith)
stands-heard i (suc j) (true ∷ bits) low =
    let e : i + suc j ≡ i + 1 + j = omega arith in
    ap (λ (t : Bool). t || stands_in (voice_at (i + suc j)) (sounding_from (i + 1) bits))
    (same-above (i + suc j) i (omega arith)) ∙
    (ap (λ k. stands_in (voice_at k) (sounding_from (i + 1) bits)) e ∙ stands-heard (i + 1) j bits (omega (arith, low)))
stands-heard i (suc j) (false ∷ bits) low =
    let e : i + suc j ≡ i + 1 + j = omega arith in
    ap (λ k. stands_in (voice_at k) (sounding_from (i + 1) bits)) e ∙ stands-heard (i + 1) j bits (omega (arith, low))

pub heard-nothing : (i n : ℕ) (bits : List Bool) → ((j : ℕ) → j < length bits → get_or bits j false ≡ false) →
    sounding_from i bits ≡ []
unfolding sounding_from
heard-nothing i n [] all = refl
heard-nothing i n (true ∷ bits) all = absurd (false≢true (sym (all 0 (omega arith))))
heard-nothing i n (false ∷ bits) all = heard-nothing (i + 1) n bits (λ j low. all (suc j) (omega (arith, low)))

-- the first that sounds, and the list without it
pub heard-next : (i k : ℕ) (bits : List Bool) → k < length bits → get_or bits k false ≡ true →
    ((j : ℕ) → j < k → get_or bits j false ≡ false) →
    sounding_from i bits ≡ voice_at (i + k) ∷ sounding_from i (set bits k false)
unfolding sounding_from
heard-next i k [] low here before = absurd (omega (arith, low))
heard-next i zero (true ∷ bits) low here before =
    let e : i ≡ i + 0 = omega arith in
    ap (λ k. voice_at k ∷ sounding_from (i + 1) bits) e
heard-next i zero (false ∷ bits) low here before = absurd (false≢true here)
heard-next i (suc k) (true ∷ bits) low here before = absurd (false≢true (sym (before 0 (omega arith))))
heard-next i (suc k) (false ∷ bits) low here before =
    let e : i + 1 + k ≡ i + suc k = omega arith in
    heard-next (i + 1) k bits (omega (arith, low)) here (λ j below. before (suc j) (omega (arith, below))) ∙
    ap (λ z. voice_at z ∷ sounding_from (i + 1) (set bits k false)) e

-- what a message says of a voice
abbrev two : (on off said : Bool) → List Bool
two on off said = if on then said ∷ [] else (if off then false ∷ [] else [])

turned-here : (k s a d : ℕ) → 0x80 ≤ s → s < 0xa0 → a < 128 → k ≡ 128 * (s % 16) + a →
    turned (voice_at k) (Message s a d) ≡ (nat_le 0x90 s && nat_lt 0 d) ∷ []
turned-here k s a d low high small is = by (nat_le 0x90 s) refl where
  by : (t : Bool) → nat_le 0x90 s ≡ t → turned (voice_at k) (Message s a d) ≡ (t && nat_lt 0 d) ∷ []
  by true h =
      let on : ((s == 0x90 + k / 128) && (a == k % 128)) ≡ true = grind (arith, nat_tests) in
      ap (λ (t : Bool). two t ((s == 0x80 + k / 128) && (a == k % 128)) (nat_lt 0 d)) on
  by false h =
      let on : ((s == 0x90 + k / 128) && (a == k % 128)) ≡ false = grind (arith, nat_tests) in
      let off : ((s == 0x80 + k / 128) && (a == k % 128)) ≡ true = grind (arith, nat_tests) in
      ap (λ (t : Bool). two t ((s == 0x80 + k / 128) && (a == k % 128)) (nat_lt 0 d)) on ∙
      ap (λ (t : Bool). two false t (nat_lt 0 d)) off

turned-other : (j s a d : ℕ) → j < 2048 → (0x80 ≤ s → s < 0xa0 → j ≡ 128 * (s % 16) + a → ⊥) →
    turned (voice_at j) (Message s a d) ≡ []
turned-other j s a d low other =
    let on : ((s == 0x90 + j / 128) && (a == j % 128)) ≡ false = grind (arith, nat_tests) in
    let off : ((s == 0x80 + j / 128) && (a == j % 128)) ≡ false = grind (arith, nat_tests) in
    ap (λ (t : Bool). two t ((s == 0x80 + j / 128) && (a == j % 128)) (nat_lt 0 d)) on ∙
    ap (λ (t : Bool). two false t (nat_lt 0 d)) off

-- a message that turns no voice
pub after-nothing : (bits : List Bool) (s a d : ℕ) → length bits ≡ 2048 → (0x80 ≤ s → s < 0xa0 → ⊥) →
    sounding_from 0 bits ≡ after (sounding_from 0 bits) (ShortSign s a d)
after-nothing bits s a d len other =
    let said : Voice → Bool = λ v. last_said (stands_in v (sounding_from 0 bits)) (turned v (Message s a d)) in
    heard-filter said 0 bits (λ j low.
    let e : 0 + j ≡ j = omega arith in
    sym (ap (λ z. last_said (stands_in (voice_at (0 + j)) (sounding_from 0 bits)) z)
    (turned-other (0 + j) s a d (omega (arith, low, len)) (λ l h is. other l h)) ∙ stands-heard 0 j bits low)) ∙
    (ap (λ n. filter said (map voice_at (range_with_len 0 n))) len ∙ ap (filter said) (sym voices-are))

pub after-turned : (bits : List Bool) (k s a d : ℕ) (b : Bool) → length bits ≡ 2048 → 0x80 ≤ s → s < 0xa0 → a < 128 →
    k ≡ 128 * (s % 16) + a → b ≡ (nat_le 0x90 s && nat_lt 0 d) →
    sounding_from 0 (set bits k b) ≡ after (sounding_from 0 bits) (ShortSign s a d)
after-turned bits k s a d b len low high small is said_is =
    let said : Voice → Bool = λ v. last_said (stands_in v (sounding_from 0 bits)) (turned v (Message s a d)) in
    let same_len : length (set bits k b) ≡ 2048 = length-set bits k b ∙ len in
    heard-filter said 0 (set bits k b) (λ j below. by j (j == k) refl (omega (arith, below, same_len))) ∙
    (ap (λ n. filter said (map voice_at (range_with_len 0 n))) same_len ∙ ap (filter said) (sym voices-are)) where
      by : (j : ℕ) (t : Bool) → (j == k) ≡ t → j < 2048 →
          get_or (set bits k b) j false ≡ last_said (stands_in (voice_at (0 + j)) (sounding_from 0 bits))
          (turned (voice_at (0 + j)) (Message s a d))
      by j true h below =
          let e : j ≡ k = grind (arith, nat_tests) in
          let f : 0 + j ≡ k = omega (arith, e) in
          let within : k < length bits = omega (arith, e, below, len) in
          ap (λ n. get_or (set bits k b) n false) e ∙ (get_or-set_same bits k b false within ∙ (said_is ∙
          sym (ap (λ z. last_said (stands_in (voice_at (0 + j)) (sounding_from 0 bits)) z)
          (ap (λ n. turned (voice_at n) (Message s a d)) f ∙ turned-here k s a d low high small is))))
      by j false h below =
          let ne : j ≢ k = grind (arith, nat_tests) in
          let within : j < length bits = omega (arith, below, len) in
          get_or-set_other bits k j b false ne ∙
          sym (ap (λ z. last_said (stands_in (voice_at (0 + j)) (sounding_from 0 bits)) z)
          (turned-other (0 + j) s a d (omega (arith, below)) (λ l h2 same. absurd (omega (arith, same, is, ne)))) ∙
          stands-heard 0 j bits within)

none-some : (n : ℕ) → None ≡ Some n → ⊥
none-some n h = cc

pub after-some : (bits : List Bool) (at s a d : ℕ) → length bits ≡ 2048 → a < 128 → place_of s a ≡ Some at →
    sounding_from 0 (set bits at (begins s d)) ≡ after (sounding_from 0 bits) (ShortSign s a d)
after-some bits at s a d len small place = by (nat_le 0x80 s) refl (nat_lt s 0xa0) refl place where
  by : (low : Bool) → nat_le 0x80 s ≡ low → (high : Bool) → nat_lt s 0xa0 ≡ high →
      (if low && high then Some (128 * (s % 16) + a) else None) ≡ Some at →
      sounding_from 0 (set bits at (begins s d)) ≡ after (sounding_from 0 bits) (ShortSign s a d)
  by true l true h is =
      let l2 : 0x80 ≤ s = grind (arith, nat_tests) in
      let h2 : s < 0xa0 = grind (arith, nat_tests) in
      let at_is : 128 * (s % 16) + a ≡ at = cc in
      after-turned bits at s a d (begins s d) len l2 h2 small (sym at_is) refl
  by true l false h is = absurd (none-some at is)
  by false l high h is = absurd (none-some at is)

pub after-none : (bits : List Bool) (s a d : ℕ) → length bits ≡ 2048 → place_of s a ≡ None →
    sounding_from 0 bits ≡ after (sounding_from 0 bits) (ShortSign s a d)
after-none bits s a d len place = after-nothing bits s a d len
    (λ low high. by (nat_le 0x80 s) refl (nat_lt s 0xa0) refl place low high) where
      by : (low : Bool) → nat_le 0x80 s ≡ low → (high : Bool) → nat_lt s 0xa0 ≡ high →
          (if low && high then Some (128 * (s % 16) + a) else None) ≡ None → 0x80 ≤ s → s < 0xa0 → ⊥
      by true l true h is = λ low high. none-some (128 * (s % 16) + a) (sym is)
      by true l false h is = λ low high. grind (arith, nat_tests)
      by false l high h is = λ low high2. grind (arith, nat_tests)

-- the first that is true, if one is
some-none : (t : Bool) (n : ℕ) → cond t (Some n) None ≡ None → t ≡ false
some-none true n h = absurd (none-some n (sym h))
some-none false n h = refl

all-false : (bits : List Bool) → nat_lt (position_or_len (λ b. b) bits) (length bits) ≡ false → (j : ℕ) →
    j < length bits → get_or bits j false ≡ false
all-false [] h j low = absurd (omega (arith, low))
all-false (true ∷ bits) h j low =
    let k : nat_lt 0 (length (true ∷ bits)) ≡ true = grind (arith, nat_tests) in
    absurd (false≢true (sym h ∙ k))
all-false (false ∷ bits) h zero low = refl
all-false (false ∷ bits) h (suc j) low =
    let k : nat_lt (position_or_len (λ b. b) bits) (length bits) ≡ false = grind (arith, nat_tests) in
    all-false bits k j (omega (arith, low))

pub first-none : (bits : List Bool) → position (λ b. b) bits ≡ None → sounding_from 0 bits ≡ []
first-none bits h = heard-nothing 0 0 bits (all-false bits
    (some-none (nat_lt (position_or_len (λ b. b) bits) (length bits)) (position_or_len (λ b. b) bits) h))

pub first-some : (bits : List Bool) (at : ℕ) → position (λ b. b) bits ≡ Some at →
    sounding_from 0 bits ≡ voice_at at ∷ sounding_from 0 (set bits at false)
first-some bits at h =
    let k = position-Some (λ b. b) bits at false h in
    let e : 0 + at ≡ at = omega arith in
    heard-next 0 at bits k.0 k.1 k.2 ∙ ap (λ n. voice_at n ∷ sounding_from 0 (set bits at false)) e
