-- The handles that a desk in memory gave, by their places.
use Rattle.std.proofs.Common.{◌≡◌, ℕ, zero, suc, ◌+◌, ◌-◌, ◌<◌, ◌≤◌, Bool, true, false, ◌==◌, if◌then◌else◌, List}
use Rattle.std.proofs.Common.{[], ◌∷◌, ◌++◌, length, get_or, set, take, drop, map, Option, Some, None, refl, sym, ◌∙◌}
use Rattle.std.proofs.Common.{ap}
use Rattle.std.proofs.Common.{subst, arith}
use Rattle.std.specs.Prelude.{slice_get, nat_le}
use Rattle.std.proofs.lemmas.Bool.{eqb-true, eqb-false}
use Rattle.std.proofs.lemmas.Bool.Decides.{nat_tests}
use Rattle.std.proofs.lemmas.List.{drop-drop}
use Rattle.std.proofs.Math.Seq.{take-add}
use Rattle.mb_outside.specs.Place.{Place, Opened, Created, moved_on}
use Rattle.mb_outside.specs.MemoryDesk.{at_handle, given_as, left_at, taken_at, bytes_in}

-- one more place
pub get_last : (xs : List Place) (x : Place) → slice_get (xs ++ x ∷ []) (length xs) ≡ Some x
get_last [] x = refl
get_last (y ∷ ys) x = get_last ys x

pub get_past : (xs : List Place) → slice_get xs (length xs) ≡ None
get_past [] = refl
get_past (y ∷ ys) = get_past ys

pub get_push-other : (xs : List Place) (x : Place) (i : ℕ) → (i ≡ length xs → ⊥) →
    slice_get (xs ++ x ∷ []) i ≡ slice_get xs i
get_push-other [] x zero other = absurd (other refl)
get_push-other [] x (suc i) other = refl
get_push-other (y ∷ ys) x zero other = refl
get_push-other (y ∷ ys) x (suc i) other = get_push-other ys x i (λ e. other (ap suc e))

-- another place
pub get_set-same : (xs : List Place) (x : Place) (i : ℕ) → i < length xs → slice_get (set xs i x) i ≡ Some x
get_set-same [] x i within = absurd (omega arith)
get_set-same (y ∷ ys) x zero within = refl
get_set-same (y ∷ ys) x (suc i) within = get_set-same ys x i (omega arith)

pub get_set-other : (xs : List Place) (x : Place) (i j : ℕ) → (j ≡ i → ⊥) → slice_get (set xs i x) j ≡ slice_get xs j
get_set-other [] x i j other = refl
get_set-other (y ∷ ys) x zero zero other = absurd (other refl)
get_set-other (y ∷ ys) x zero (suc j) other = refl
get_set-other (y ∷ ys) x (suc i) zero other = refl
get_set-other (y ∷ ys) x (suc i) (suc j) other = get_set-other ys x i j (λ e. other (ap suc e))

-- the element by its index
pub get_or-slice_get : (xs : List Place) (i : ℕ) (p d : Place) → slice_get xs i ≡ Some p → get_or xs i d ≡ p
get_or-slice_get [] i p d e = cc
get_or-slice_get (x ∷ xs) zero p d e = cc
get_or-slice_get (x ∷ xs) (suc i) p d e = get_or-slice_get xs i p d e

-- what is left by the same files and place
pub left_shown : (files shown_files : List (List ℕ × List ℕ)) (p shown : Place) → shown_files ≡ files → shown ≡ p →
    left_at shown_files (Some shown) ≡ left_at files (Some p)
left_shown files shown_files p shown e f =
    ap (λ (q : Place). left_at shown_files (Some q)) f
    ∙ ap (λ (xs : List (List ℕ × List ℕ)). left_at xs (Some p)) e

-- the entry of a handle that was given
pub entry_at : (input : List ℕ) (given : Option Place → List ℕ) (places : List Place) (i : ℕ) →
    at_handle input given places (3 + i) ≡ given (slice_get places i)
entry_at input given places i =
    let not_zero : (3 + i == 0) ≡ false = grind (arith, nat_tests) in
    let up : nat_le 3 (3 + i) ≡ true = grind (arith, nat_tests) in
    let back : 3 + i - 3 ≡ i = omega arith in
    ap (λ (b : Bool). if b then input else (if nat_le 3 (3 + i) then given (slice_get places (3 + i - 3)) else []))
    not_zero
    ∙ (ap (λ (b : Bool). if b then given (slice_get places (3 + i - 3)) else []) up
    ∙ ap (λ (k : ℕ). given (slice_get places k)) back)

-- places that differ at one alone
elsewhere : (input : List ℕ) (given : Option Place → List ℕ) (xs ys : List Place) (i h : ℕ) → (h ≡ 3 + i → ⊥) →
    ((j : ℕ) → (j ≡ i → ⊥) → slice_get ys j ≡ slice_get xs j) → at_handle input given ys h ≡ at_handle input given xs h
elsewhere input given xs ys i h other same =
    ap (λ (x : List ℕ). if h == 0 then input else x) (by_test (nat_le 3 h) refl)
  where
    by_test : (b : Bool) → nat_le 3 h ≡ b →
        (if b then given (slice_get ys (h - 3)) else []) ≡ (if b then given (slice_get xs (h - 3)) else [])
    by_test true up =
        let three : 3 ≤ h = grind (arith, nat_tests) in ap given (same (h - 3) (λ e. other (omega arith)))
    by_test false up = refl

-- entries that differ at one handle
pub entry_changes : (input x : List ℕ) (given : Option Place → List ℕ) (xs ys : List Place) (i h : ℕ) →
    given (slice_get ys i) ≡ x → ((j : ℕ) → (j ≡ i → ⊥) → slice_get ys j ≡ slice_get xs j) →
    at_handle input given ys h ≡ (if h == 3 + i then x else at_handle input given xs h)
entry_changes input x given xs ys i h here same = by_test (h == 3 + i) refl
  where
    by_test : (b : Bool) → (h == 3 + i) ≡ b →
        at_handle input given ys h ≡ (if b then x else at_handle input given xs h)
    by_test true e =
        subst (λ (k : ℕ). at_handle input given ys k ≡ x) (sym (eqb-true h (3 + i) e))
        (entry_at input given ys i ∙ here)
    by_test false e = elsewhere input given xs ys i h (eqb-false h (3 + i) e) same

-- entries that differ at no handle
pub entry_same : (input : List ℕ) (given : Option Place → List ℕ) (xs ys : List Place) (i h : ℕ) →
    given (slice_get ys i) ≡ given (slice_get xs i) → ((j : ℕ) → (j ≡ i → ⊥) → slice_get ys j ≡ slice_get xs j) →
    at_handle input given ys h ≡ at_handle input given xs h
entry_same input given xs ys i h here same = by_test (h == 3 + i) refl
  where
    by_test : (b : Bool) → (h == 3 + i) ≡ b → at_handle input given ys h ≡ at_handle input given xs h
    by_test true e =
        subst (λ (k : ℕ). at_handle input given ys k ≡ at_handle input given xs k) (sym (eqb-true h (3 + i) e))
        (entry_at input given ys i ∙ (here ∙ sym (entry_at input given xs i)))
    by_test false e = elsewhere input given xs ys i h (eqb-false h (3 + i) e) same

-- so many bytes more were taken off a place
drop-none : (n : ℕ) → [] ≡ drop {A = ℕ} n []
drop-none zero = refl
drop-none (suc n) = refl

take-none : (n : ℕ) → [] ≡ take {A = ℕ} n []
take-none zero = refl
take-none (suc n) = refl

pub left-moved : (files : List (List ℕ × List ℕ)) (n : ℕ) (p : Place) →
    left_at files (Some (moved_on n p)) ≡ drop n (left_at files (Some p))
left-moved files n (Opened file at) = sym (drop-drop n at (bytes_in (slice_get files file)))
left-moved files n (Created name) = drop-none n

pub taken-moved : (files : List (List ℕ × List ℕ)) (n : ℕ) (p : Place) →
    taken_at files (Some (moved_on n p)) ≡ taken_at files (Some p) ++ take n (left_at files (Some p))
taken-moved files n (Opened file at) = take-add at n (bytes_in (slice_get files file))
taken-moved files n (Created name) = take-none n

-- its name stays
named-moved : (files : List (List ℕ × List ℕ)) (n : ℕ) (p : Place) → given_as files (moved_on n p) ≡ given_as files p
named-moved files n (Opened file at) = refl
named-moved files n (Created name) = refl

pub names_stay : (files : List (List ℕ × List ℕ)) (places : List Place) (i n : ℕ) (p : Place) →
    slice_get places i ≡ Some p → map (given_as files) (set places i (moved_on n p)) ≡ map (given_as files) places
names_stay files [] i n p e = refl
names_stay files (q ∷ places) zero n p e =
    let same : q ≡ p = cc in
    ap (λ (x : List ℕ × Bool). x ∷ map (given_as files) places) (named-moved files n p ∙ ap (given_as files) (sym same))
names_stay files (q ∷ places) (suc i) n p e =
    ap (λ (xs : List (List ℕ × Bool)). given_as files q ∷ xs) (names_stay files places i n p e)
