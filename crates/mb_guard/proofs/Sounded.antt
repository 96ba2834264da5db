-- What sounds behind one mark more.
use Rattle.std.proofs.Common.{◌≡◌, ℕ, zero, suc, ◌+◌, ◌<◌, Bool, false, cond, List, [], ◌∷◌, ◌++◌, length, map}
use Rattle.std.proofs.Common.{flat_map, get_or, Option, Some, None, refl, sym, ◌∙◌, ap, arith, append-nil}
use Rattle.std.proofs.lemmas.Grind.{flat_map-append}
use Rattle.std.proofs.lemmas.List.FromFn.{length-map-range_with_len, get_or-map-range_with_len}
use Rattle.std.specs.List.{filter, range_with_len}
use Rattle.mb_message.specs.Signs.{Sign, ShortSign, RtSign, OpenSign, ByteSign, EndSign, AbortSign}
use Rattle.mb_stream.specs.Denotation.{Message, items_from, denotation}
use Rattle.mb_guard.specs.Sounding.{Voice, voices, turned, last_said, sounds, sounding}
use Rattle.mb_guard.specs.Guard.{Stands, stands_in, after, voice_at, sounding_from}
use Rattle.mb_guard.proofs.Heard.{voices-are, heard-filter, stands-heard}

pub last_said-append : (b : Bool) (xs ys : List Bool) → last_said b (xs ++ ys) ≡ last_said (last_said b xs) ys
last_said-append b [] ys = refl
last_said-append b (x ∷ xs) ys = last_said-append x xs ys

-- two tests that agree on each voice
filter-range : (p q : Voice → Bool) (i n : ℕ) → ((j : ℕ) → j < i + n → p (voice_at j) ≡ q (voice_at j)) →
    filter p (map voice_at (range_with_len i n)) ≡ filter q (map voice_at (range_with_len i n))
filter-range p q i zero same = refl
filter-range p q i (suc n) same =
    let rest : filter p (map voice_at (range_with_len (i + 1) n)) ≡ filter q (map voice_at (range_with_len (i + 1) n)) =
    filter-range p q (i + 1) n (λ j low. same j (omega (arith, low))) in
    ap (λ (t : Bool). cond t (voice_at i ∷ filter p (map voice_at (range_with_len (i + 1) n)))
    (filter p (map voice_at (range_with_len (i + 1) n)))) (same i (omega arith)) ∙
    ap (λ z. cond (q (voice_at i)) (voice_at i ∷ z) z) rest

pub filter-like : (p q : Voice → Bool) → ((j : ℕ) → j < 2048 → p (voice_at j) ≡ q (voice_at j)) →
    filter p voices ≡ filter q voices
filter-like p q same =
    ap (filter p) voices-are ∙ (filter-range p q 0 2048 (λ j low. same j (omega (arith, low))) ∙
    ap (filter q) (sym voices-are))

-- a voice is in what passes a test exactly where it passes
pub stands-filter : (p : Voice → Bool) (j : ℕ) → j < 2048 → stands_in (voice_at j) (filter p voices) ≡ p (voice_at j)
stands-filter p j low =
    let bits : List Bool = map (λ k. p (voice_at k)) (range_with_len 0 2048) in
    let len : length bits ≡ 2048 = length-map-range_with_len (λ k. p (voice_at k)) 0 2048 in
    let at : (k : ℕ) → k < length bits → get_or bits k false ≡ p (voice_at (0 + k)) =
    λ k below. get_or-map-range_with_len (λ k. p (voice_at k)) 0 2048 k (0 + k) false (omega (arith, below, len))
    refl in
    let within : j < length bits = omega (arith, low, len) in
    let e : 0 + j ≡ j = omega arith in
    let heard : sounding_from 0 bits ≡ filter p voices =
    heard-filter p 0 bits at ∙ (ap (λ n. filter p (map voice_at (range_with_len 0 n))) len ∙
    ap (filter p) (sym voices-are)) in
    ap (λ z. stands_in (voice_at j) z) (sym heard) ∙
    (ap (λ k. stands_in (voice_at k) (sounding_from 0 bits)) (sym e) ∙
    (stands-heard 0 j bits within ∙ (at j within ∙ ap (λ k. p (voice_at k)) e)))

-- what marks say of a voice
abbrev said : Voice → Sign → List Bool
said v (ShortSign s a b) = turned v (Message s a b)
said v _ = []

items-said : (v : Voice) (o : Option (List ℕ)) (ms : List Sign) →
    flat_map (turned v) (items_from o ms) ≡ flat_map (said v) ms
items-said v None [] = refl
items-said v (Some ds) [] = refl
items-said v o (ShortSign s a b ∷ ms) = ap (λ z. turned v (Message s a b) ++ z) (items-said v o ms)
items-said v o (RtSign b ∷ ms) = items-said v o ms
items-said v o (OpenSign ∷ ms) = items-said v (Some []) ms
items-said v None (ByteSign b ∷ ms) = items-said v None ms
items-said v (Some ds) (ByteSign b ∷ ms) = items-said v (Some (ds ++ b ∷ [])) ms
items-said v None (EndSign ∷ ms) = items-said v None ms
items-said v (Some ds) (EndSign ∷ ms) = items-said v None ms
items-said v None (AbortSign ∷ ms) = items-said v None ms
items-said v (Some ds) (AbortSign ∷ ms) = items-said v None ms

sounds-push : (v : Voice) (ms : List Sign) (m : Sign) →
    sounds v (denotation (ms ++ m ∷ [])).items ≡ last_said (sounds v (denotation ms).items) (said v m)
sounds-push v ms m =
    ap (last_said false) (items-said v None (ms ++ m ∷ []) ∙ flat_map-append (said v) ms (m ∷ [])) ∙
    (last_said-append false (flat_map (said v) ms) (said v m ++ []) ∙
    (ap (λ z. last_said (last_said false (flat_map (said v) ms)) z) (append-nil (said v m)) ∙
    ap (λ z. last_said (last_said false z) (said v m)) (sym (items-said v None ms))))

-- a mark that is no short message
sounding-same : (ms : List Sign) (m : Sign) → ((v : Voice) → said v m ≡ []) →
    sounding (denotation ms).items ≡ sounding (denotation (ms ++ m ∷ [])).items
sounding-same ms m nothing =
    filter-like (λ v. sounds v (denotation ms).items) (λ v. sounds v (denotation (ms ++ m ∷ [])).items)
    (λ j low. sym (sounds-push (voice_at j) ms m ∙
    ap (last_said (sounds (voice_at j) (denotation ms).items)) (nothing (voice_at j))))

sounding-short : (ms : List Sign) (s a b : ℕ) →
    after (sounding (denotation ms).items) (ShortSign s a b) ≡ sounding (denotation (ms ++ ShortSign s a b ∷ [])).items
sounding-short ms s a b =
    filter-like (λ v. last_said (stands_in v (sounding (denotation ms).items)) (turned v (Message s a b)))
    (λ v. sounds v (denotation (ms ++ ShortSign s a b ∷ [])).items)
    (λ j low.
    ap (λ (t : Bool). last_said t (turned (voice_at j) (Message s a b)))
    (stands-filter (λ v. sounds v (denotation ms).items) j low) ∙
    sym (sounds-push (voice_at j) ms (ShortSign s a b)))

pub Stands-after : (now : List Voice) (ms : List Sign) (m : Sign) → Stands now ms → Stands (after now m) (ms ++ m ∷ [])
Stands-after now ms (ShortSign s a b) h = ap (λ z. after z (ShortSign s a b)) h ∙ sounding-short ms s a b
Stands-after now ms (RtSign b) h = h ∙ sounding-same ms (RtSign b) (λ v. refl)
Stands-after now ms OpenSign h = h ∙ sounding-same ms OpenSign (λ v. refl)
Stands-after now ms (ByteSign b) h = h ∙ sounding-same ms (ByteSign b) (λ v. refl)
Stands-after now ms EndSign h = h ∙ sounding-same ms EndSign (λ v. refl)
Stands-after now ms AbortSign h = h ∙ sounding-same ms AbortSign (λ v. refl)

-- nothing sounds at first
pub sounding-nothing : sounding [] ≡ []
sounding-nothing = ap (filter (λ v. sounds v [])) voices-are ∙ none 0 2048 where
  none : (i n : ℕ) → filter (λ v. sounds v []) (map voice_at (range_with_len i n)) ≡ []
  none i zero = refl
  none i (suc n) = none (i + 1) n
