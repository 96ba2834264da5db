-- Lanes and blocks of a writer of eight ports.
use Rattle.std.proofs.Common.{◌≡◌, ℕ, zero, suc, ◌+◌, ◌-◌, ◌*◌, ◌<◌, ◌≤◌, Bool, true, false, Option, Some, None, List}
use Rattle.std.proofs.Common.{[], ◌∷◌, ◌++◌, length, map, drop, refl, ap, sym, subst, ◌∙◌, arith, append_assoc}
use Rattle.std.proofs.Common.{length-append}
use Rattle.std.specs.Prelude.{if◌then◌else◌, nat_lt, ◌==◌, flat_map, slice_set, slice_index_or, ◌≢◌}
use Rattle.std.proofs.lemmas.Bool.Decides.{nat_tests}
use Rattle.std.proofs.lemmas.List.{get_or-set_same, get_or-set_other, get_or_read}
use Rattle.mb_message.specs.Signs.{ByteSign}
use Rattle.mb_stream.specs.Spelling.{full_bytes}
use Rattle.mb_fire.specs.Written.{block, quadlet}
use Rattle.mb_fire.specs.Rings.{Waiting, nothing, ring_at, head, popped, heads}

pub run_bytes : (bs : List ℕ) → full_bytes (map ByteSign bs) ≡ bs
run_bytes [] = refl
run_bytes (b ∷ bs) = ap (λ z. b ∷ z) (run_bytes bs)

pub heads_at : (rings : List Waiting) (i : ℕ) → i < length rings → drop i (heads rings)
    ≡ head (ring_at rings i) ∷ drop (i + 1) (heads rings)
heads_at [] i h = absurd (omega arith)
heads_at (w ∷ ws) zero h = refl
heads_at (w ∷ ws) (suc i) h = subst (λ z. drop (suc i) (heads (w ∷ ws))
    ≡ head (ring_at (w ∷ ws) (suc i)) ∷ drop z (heads (w ∷ ws))) (back i) (heads_at ws i (omega arith))
  where
    back : (i : ℕ) → suc (i + 1) ≡ suc i + 1
    back i = omega arith

pub quadlet-length : (w : Option ℕ) → length (quadlet w) ≡ 4
quadlet-length None = refl
quadlet-length (Some b) = refl

pub block-length : (k : ℕ) (w : Option ℕ) → length (block k w) ≡ 4 * (k + 1)
block-length zero w = quadlet-length w
block-length (suc k) w = let h = block-length k w in omega arith

pub blocks-length : (k : ℕ) (ws : List (Option ℕ)) → length (flat_map (block k) ws) ≡ length ws * (4 * (k + 1))
blocks-length k [] = none (4 * (k + 1))
  where
    none : (n : ℕ) → 0 ≡ 0 * n
    none n = omega arith
blocks-length k (w ∷ ws) = length-append (block k w) (flat_map (block k) ws)
    ∙ ap (λ z. z + length (flat_map (block k) ws)) (block-length k w) ∙ ap (λ z. 4 * (k + 1) + z) (blocks-length k ws)
    ∙ sym (mul_suc_left (length ws) (4 * (k + 1)))
  where
    mul_suc_left : (k s : ℕ) → suc k * s ≡ s + k * s
    mul_suc_left k s = grind (arith)

-- one more quadlet of a block
pub one_quadlet : (k i : ℕ) (w : Option ℕ) → i < k → block (k - i) w ≡ quadlet None ++ block (k - (i + 1)) w
one_quadlet k i w h = subst (λ z. block z w ≡ quadlet None ++ block (k - (i + 1)) w) (back k i h) refl
  where
    back : (k i : ℕ) → i < k → suc (k - (i + 1)) ≡ k - i
    back k i h = omega arith

-- one more block
pub one_block : (k i : ℕ) (rings now : List Waiting) (first : Option ℕ) (before out behind : List ℕ) →
    i < length rings → first ≡ head (ring_at now i) → ring_at now i ≡ ring_at rings i →
    behind ≡ out ++ block k first → out ++ flat_map (block k) (drop i (heads rings)) ≡ before →
    behind ++ flat_map (block k) (drop (i + 1) (heads rings)) ≡ before
one_block k i rings now first before out behind h f same b e =
    ap (λ z. z ++ flat_map (block k) (drop (i + 1) (heads rings))) b
    ∙ append_assoc out (block k first) (flat_map (block k) (drop (i + 1) (heads rings)))
    ∙ ap (λ z. out ++ (block k z ++ flat_map (block k) (drop (i + 1) (heads rings)))) (f ∙ ap head same)
    ∙ ap (λ z. out ++ flat_map (block k) z) (sym (heads_at rings i h)) ∙ e

abbrev pub Popped : ℕ → List Waiting → List Waiting → Type 0
Popped i was now = (m : ℕ) → m < 8 → ring_at now m ≡ (if nat_lt m i then popped (ring_at was m) else ring_at was m)

pub one_ring : (i : ℕ) (was now : List Waiting) (x : Waiting) → length now ≡ 8 → i < 8 → Popped i was now →
    x ≡ popped (ring_at now i) → Popped (i + 1) was (slice_set now i x)
one_ring i was now x long h p e m l = by_test (i == m) refl
  where
    equal : (c d : ℕ) → (c == d) ≡ true → c ≡ d
    equal c d e = grind (arith, nat_tests)

    differ : (c d : ℕ) → (c == d) ≡ false → d ≢ c
    differ c d e = grind (arith, nat_tests)

    lower : (i : ℕ) → nat_lt i (i + 1) ≡ true
    lower i = grind (arith, nat_tests)

    not_lower : (i : ℕ) → nat_lt i i ≡ false
    not_lower i = grind (arith, nat_tests)

    same_test : (i m : ℕ) → (i == m) ≡ false → nat_lt m i ≡ nat_lt m (i + 1)
    same_test i m e = grind (arith, nat_tests)

    by_test : (t : Bool) → (i == m) ≡ t → ring_at (slice_set now i x) m
        ≡ (if nat_lt m (i + 1) then popped (ring_at was m) else ring_at was m)
    by_test true f =
        subst (λ z. ring_at (slice_set now i x) z
        ≡ (if nat_lt z (i + 1) then popped (ring_at was z) else ring_at was z)) (equal i m f)
        (get_or-set_same now i x nothing (omega arith) ∙ e
        ∙ ap popped (p i h ∙ ap (λ t. if t then popped (ring_at was i) else ring_at was i) (not_lower i))
        ∙ ap (λ t. if t then popped (ring_at was i) else ring_at was i) (sym (lower i)))
    by_test false f =
        get_or-set_other now i m x nothing (differ i m f) ∙ p m l
        ∙ ap (λ t. if t then popped (ring_at was m) else ring_at was m) (same_test i m f)

pub room_left : (i s n r : ℕ) → i < 8 → n + (8 - i) * s ≤ 1024 → r ≡ n + s → r + (8 - (i + 1)) * s ≤ 1024
room_left i s n r h l e = plain (8 - (i + 1)) s n r (subst (λ z. n + z * s ≤ 1024) (back i h) l) e
  where
    back : (i : ℕ) → i < 8 → 8 - i ≡ suc (8 - (i + 1))
    back i h = omega arith

    plain : (j s n r : ℕ) → n + suc j * s ≤ 1024 → r ≡ n + s → r + j * s ≤ 1024
    plain j s n r l e = let m : suc j * s ≡ s + j * s = mul_suc_left j s in omega arith
      where
        mul_suc_left : (k s : ℕ) → suc k * s ≡ s + k * s
        mul_suc_left k s = grind (arith)

pub at_read : (now : List Waiting) (i : ℕ) (d : Waiting) → i < length now → d ≡ slice_index_or now i d → ring_at now i
    ≡ d
at_read now i d h e = sym (get_or_read now i d h e nothing)

pub still_there : (i : ℕ) (was now : List Waiting) → i < 8 → Popped i was now → ring_at now i ≡ ring_at was i
still_there i was now h p = p i h ∙ ap (λ t. if t then popped (ring_at was i) else ring_at was i) (not_lower i)
  where
    not_lower : (i : ℕ) → nat_lt i i ≡ false
    not_lower i = grind (arith, nat_tests)

pub long_behind : (k : ℕ) (w : Option ℕ) (out behind : List ℕ) → behind ≡ out ++ block k w → length behind
    ≡ length out + 4 * (k + 1)
long_behind k w out behind e = ap length e ∙ length-append {A = ℕ} out (block k w)
    ∙ ap (λ z. length out + z) (block-length k w)
