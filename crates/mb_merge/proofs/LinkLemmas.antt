-- Links at their places, and who owns.
use Rattle.std.proofs.Common.{◌≡◌, ◌≢◌, ℕ, zero, suc, ◌<◌, ◌⊎◌, inl, inr, Bool, true, false, not, ◌&&◌, ◌||◌, ◌==◌}
use Rattle.std.proofs.Common.{List, [], ◌∷◌, length, get_or, refl, sym, ◌∙◌, ap, subst, arith}
use Rattle.std.proofs.lemmas.Bool.Decides.{nat_tests}
use Rattle.std.proofs.lemmas.List.{get_or_default}
use Rattle.mb_merge.specs.Links.{Link, closed_link, link_at, share, owns, owns_out, is_owned_below}
use Rattle.mb_merge.specs.Calls.{IsExclusive}

pub or-true : (a : Bool) → (a || true) ≡ true
or-true true = refl
or-true false = refl

pub and-true : (a b : Bool) → a ≡ true → b ≡ true → (a && b) ≡ true
and-true a b h k = ap (λ z. z && b) h ∙ k

-- whether a source owns an out of another one
abbrev pub takes_from : List Link → (source at : ℕ) → Bool
takes_from links source at = not (at == source) && owns (link_at links at) (link_at links source)

below_or_same : (at n : ℕ) → at < suc n → (at < n) ⊎ (at ≡ n)
below_or_same at n below = grind arith

-- another source that owns an out is enough
pub is_owned_below-hit : (links : List Link) (source at count : ℕ) → at < count → takes_from links source at ≡ true →
    is_owned_below links source count ≡ true
is_owned_below-hit links source at zero below owned = absurd (omega arith)
is_owned_below-hit links source at (suc n) below owned =
    by_place (below_or_same at n below) (λ earlier. is_owned_below-hit links source at n earlier owned) where
      by_place : (at < n) ⊎ (at ≡ n) → (at < n → is_owned_below links source n ≡ true) →
          is_owned_below links source (suc n) ≡ true
      by_place (inl earlier) rest = ap (λ z. z || takes_from links source n) (rest earlier)
      by_place (inr same) rest =
          ap (λ z. is_owned_below links source n || z) (subst (λ k. takes_from links source k ≡ true) same owned) ∙
          or-true (is_owned_below links source n)

-- what code reads of a slice
pub link_at_is : (links : List Link) (at : ℕ) (link : Link) → link ≡ get_or links at link → at < length links →
    link_at links at ≡ link
link_at_is links at link is below = get_or_default links at (closed_link []) link below ∙ sym is

pub takes_from_is : (links : List Link) (source at : ℕ) → (at ≡ source → ⊥) →
    owns (link_at links at) (link_at links source) ≡ true → takes_from links source at ≡ true
takes_from_is links source at apart owned =
    let other : not (at == source) ≡ true = grind (arith, nat_tests) in
    and-true (not (at == source)) (owns (link_at links at) (link_at links source)) other owned

both_true : (a b : Bool) → (a && b) ≡ true → (a ≡ true) × (b ≡ true)
both_true true b h = (refl, h)
both_true false b h = absurd (false_true h) where
  false_true : false ≡ true → ⊥
  false_true e = cc

-- who it is that owns
pub record Owner (links : List Link) (source count : ℕ) : Type 0 where
  pub at : ℕ
  pub below : at < count
  pub other : at ≢ source
  pub owned : owns (link_at links at) (link_at links source) ≡ true

other_place : (a b : ℕ) → not (a == b) ≡ true → a ≢ b
other_place a b h = grind (arith, nat_tests)

pub is_owned_below-who : (links : List Link) (source count : ℕ) → is_owned_below links source count ≡ true →
    Owner links source count
is_owned_below-who links source zero h = absurd (false_true h) where
  false_true : false ≡ true → ⊥
  false_true e = cc
is_owned_below-who links source (suc n) h = by_test (is_owned_below links source n) refl h (is_owned_below-who links
    source n) where
      by_test : (earlier : Bool) → is_owned_below links source n ≡ earlier → (earlier || takes_from links source n) ≡ true →
          (is_owned_below links source n ≡ true → Owner links source n) → Owner links source (suc n)
      by_test true is all rest =
          let o : Owner links source n = rest is in
          record { at = o.at; below = omega (arith, o.below); other = o.other; owned = o.owned }
      by_test false is all rest =
          let parts = both_true (not (n == source)) (owns (link_at links n) (link_at links source)) all in
          record { at = n; below = omega arith; other = other_place n source parts.0; owned = parts.1 }

-- an out of both is shared
pub share-at : (out : ℕ) (xs ys : List Bool) → get_or xs out false ≡ true → get_or ys out false ≡ true →
    share xs ys ≡ true
share-at out [] ys h k = absurd (false_true h) where
  false_true : false ≡ true → ⊥
  false_true e = cc
share-at out (x ∷ xs) [] h k = absurd (false_true k) where
  false_true : false ≡ true → ⊥
  false_true e = cc
share-at zero (x ∷ xs) (y ∷ ys) h k = ap (λ z. z || share xs ys) (and-true x y h k)
share-at (suc out) (x ∷ xs) (y ∷ ys) h k = ap (λ z. (x && y) || z) (share-at out xs ys h k) ∙ or-true (x && y)

pub one_owner : (links : List Link) (out i j : ℕ) → IsExclusive links → i < length links → j < length links →
    owns_out out (link_at links i) ≡ true → owns_out out (link_at links j) ≡ true → i ≡ j
one_owner links out i j ex i_below j_below mine theirs = by_place (same i j) where
  same : (a b : ℕ) → (a ≡ b) ⊎ (a ≢ b)
  same a b = grind arith

  false_true : false ≡ true → ⊥
  false_true e = cc

  by_place : (i ≡ j) ⊎ (i ≢ j) → i ≡ j
  by_place (inl e) = e
  by_place (inr different) =
      let m = both_true (link_at links i).is_open (get_or (link_at links i).outs out false) mine in
      let t = both_true (link_at links j).is_open (get_or (link_at links j).outs out false) theirs in
      absurd (false_true (sym (ex.apart i j i_below j_below different m.0 t.0) ∙ share-at out (link_at links i).outs
      (link_at links j).outs m.1 t.1))
