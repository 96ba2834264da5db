-- From what is known of a run to orderly and merged, line by line.
use Rattle.std.proofs.Common.{◌≡◌, ℕ, zero, suc, ◌≤◌, Bool, true, false, Some, List, [], ◌∷◌, refl, ap, sym, subst, ◌∙◌}
use Rattle.std.proofs.Common.{arith}
use Rattle.std.specs.Prelude.{not, ◌&&◌, ◌||◌, ◌==◌, nat_le, slice_get}
use Rattle.std.specs.List.{list_any, list_all}
use Rattle.std.proofs.lemmas.Bool.Decides.{nat_tests}
use Rattle.mb_rig.specs.Merging.Lines.{Key, is_below, arrival_of, is_realtime, is_sysex, Line}
use Rattle.mb_rig.specs.Merging.Report.{Passing, share, may_hold}
use Rattle.mb_rig.specs.Merging.Orderly.{is_in_order, is_on_time, is_held_back}
use Rattle.mb_rig.specs.Merging.Run.{AtMost, Stood}
use Rattle.mb_rig.specs.Merging.Order.{Bounded, sharing}
use Rattle.mb_rig.proofs.Merging.Lateness.{true≢false, none≢some, some_same}

pub any_of : (f : Passing → Bool) (xs : List Passing) (i : ℕ) (x : Passing) → slice_get xs i ≡ Some x → f x ≡ true →
    list_any f xs ≡ true
any_of f [] i x at e = absurd (none≢some x at)
any_of f (y ∷ ys) zero x at e = here (f y) (ap f (some_same at) ∙ e)
  where
    here : (b : Bool) → b ≡ true → (b || list_any f ys) ≡ true
    here true e = refl
    here false e = absurd (true≢false (sym e))
any_of f (y ∷ ys) (suc i) x at e = there (f y) (any_of f ys i x at e)
  where
    there : (b : Bool) → list_any f ys ≡ true → (b || list_any f ys) ≡ true
    there true e = refl
    there false e = e

pub all_of : (f : Passing → Bool) (xs : List Passing) → ((i : ℕ) (x : Passing) → slice_get xs i ≡ Some x → f x ≡ true) →
    list_all f xs ≡ true
all_of f [] each = refl
all_of f (y ∷ ys) each = both (f y) (list_all f ys) (each 0 y refl) (all_of f ys (λ i x at. each (suc i) x at))
  where
    both : (a b : Bool) → a ≡ true → b ≡ true → (a && b) ≡ true
    both true b e f = f
    both false b e f = absurd (true≢false (sym e))

and_true : (a b : Bool) → a ≡ true → b ≡ true → (a && b) ≡ true
and_true true b e f = f
and_true false b e f = absurd (true≢false (sym e))

pub implied : (a b : Bool) → (a ≡ true → b ≡ true) → (not a || b) ≡ true
implied true b e = e refl
implied false b e = refl

pub not_false : (b : Bool) → b ≡ false → not b ≡ true
not_false true e = absurd (true≢false e)
not_false false e = refl

stood_any : (routes : List (ℕ × ℕ)) (before : List Passing) (x : Line) (f : Line → Bool) (P : Line → Type 0) →
    ((y : Line) → is_sysex y.event ≡ true → (not (y.source == x.source) && share routes y.source x.source) ≡ true →
    P y → f y ≡ true) → Stood (sharing routes) before x.source P
    → list_any (λ (y : Passing). may_hold routes y.line x && f y.line) before ≡ true
stood_any routes before x f P means s =
    any_of (λ (y : Passing). may_hold routes y.line x && f y.line) before s.0 s.1 s.2
    (and_true (may_hold routes s.1.line x) (f s.1.line)
    (and_true (is_sysex s.1.line.event) (not (s.1.line.source == x.source) && share routes s.1.line.source x.source)
    s.3 s.4) (means s.1.line s.3 s.4 s.5))

at_most_self : (a b : Key) → a ≡ b → AtMost b a
at_most_self a b e = subst (λ k. AtMost k a) e (self a)
  where
    self : (a : Key) → AtMost a a
    self a = grind (arith, nat_tests)

below_through : (a b c : Key) → is_below a b ≡ true → AtMost b c → is_below a c ≡ true
below_through a b c p q = grind (arith, nat_tests)

pub moment_at_most : (a b : Key) → AtMost a b → arrival_of a ≤ arrival_of b
moment_at_most a b e = let le : a.moment ≤ b.moment = grind (arith, nat_tests) in omega arith

-- Orderly, first and second part: a line that passes at the greatest key's moment, and, where its own key is below,
-- behind a line
-- of that key which held it.
pub passes_in_order : (routes : List (ℕ × ℕ)) (K : Key) (before : List Passing) (x : Passing) → Bounded K before →
    x.moment ≡ arrival_of K → AtMost x.line.key K
    → (is_below x.line.key K ≡ true → Stood (sharing routes) before x.line.source (λ y. y.key ≡ K))
    → (is_in_order routes x.line before && is_on_time routes x before) ≡ true
passes_in_order routes K before x bounded at within held = and_true _ _
    (all_of _ before (λ i z here. implied (is_below x.line.key z.line.key) _ (λ later.
    stood_any routes before x.line (λ y. not (is_below y.key z.line.key)) (λ y. y.key ≡ K)
    (λ y s o e. not_false _ (subst (λ k. AtMost z.line.key k) (sym e) (bounded.keys i z here)))
    (held (below_through x.line.key z.line.key K later (bounded.keys i z here))))))
    (and_true _ _ (all_of _ before (λ i z here. le_true z.moment x.moment
    (subst (λ k. z.moment ≤ k) (sym at) (bounded.moments i z here))))
    (and_true _ _ (le_true (arrival_of x.line.key) x.moment
    (subst (λ k. arrival_of x.line.key ≤ k) (sym at) (moment_at_most x.line.key K within)))
    (on_time (is_below x.line.key K) refl)))
  where
    le_true : (a b : ℕ) → a ≤ b → nat_le a b ≡ true
    le_true a b e = grind (arith, nat_tests)

    or_left : (a b : Bool) → a ≡ true → (a || b) ≡ true
    or_left true b e = refl
    or_left false b e = absurd (true≢false (sym e))

    or_right : (a b : Bool) → b ≡ true → (a || b) ≡ true
    or_right true b e = refl
    or_right false b e = e

    eq_true : (a b : ℕ) → a ≡ b → (a == b) ≡ true
    eq_true a b e = grind (arith, nat_tests)

    same_moment : (a b : Key) → AtMost a b → is_below a b ≡ false → arrival_of a ≡ arrival_of b
    same_moment a b p q = let same : a.moment ≡ b.moment = grind (arith, nat_tests) in omega arith

    on_time : (b : Bool) → is_below x.line.key K ≡ b → ((arrival_of x.line.key == x.moment) || list_any
        (λ (y : Passing). may_hold routes y.line x.line && (arrival_of y.line.key == x.moment)) before) ≡ true
    on_time true e = or_right _ _ (stood_any routes before x.line (λ y. arrival_of y.key == x.moment) (λ y. y.key ≡ K)
        (λ y s o f. eq_true _ _ (ap arrival_of f ∙ sym at)) (held e))
    on_time false e = or_left _ _ (eq_true _ _ (same_moment x.line.key K within e ∙ sym at))

-- Orderly, third part: a line that isn't real-time, and at each key from its own to the greatest a line had held it.
pub held_back : (routes : List (ℕ × ℕ)) (K : Key) (before : List Passing) (x : Line) → Bounded K before → AtMost x.key K
    → ((z : Passing) (i : ℕ) → slice_get before i ≡ Some z → is_below x.key z.line.key ≡ true →
    is_realtime x.event ≡ false)
    → ((c : Key) → AtMost x.key c → AtMost c K → Stood (sharing routes) before x.source
    (λ y. (AtMost y.begin c × AtMost c y.key) × ((y.key.link ≡ y.source) × (y.begin.link ≡ y.source))))
    → x.key.link ≡ x.source → is_held_back routes x before ≡ true
held_back routes K before x bounded within calm held own =
    all_of _ before (λ i z here. implied (is_below x.key z.line.key) _ (λ later.
    and_true _ _ (not_false _ (calm z i here later))
    (and_true _ _
    (stood_any routes before x (λ y. not (is_below y.key z.line.key) && not (is_below z.line.key y.begin)) _
    (λ y s o e. and_true _ _ (not_false _ e.0.1) (not_false _ e.0.0))
    (held z.line.key (below_at_most' x.key z.line.key later) (bounded.keys i z here)))
    (stood_any routes before x (λ y. is_below y.begin x.key && is_below x.key y.key) _
    (λ y s o e. and_true _ _ (strict y.begin x.key e.0.0 (λ same. apart y o (sym e.1.1 ∙ same ∙ own)))
    (strict x.key y.key e.0.1 (λ same. apart y o (sym e.1.0 ∙ sym same ∙ own))))
    (held x.key (self x.key) within)))))
  where
    self : (a : Key) → AtMost a a
    self a = grind (arith, nat_tests)

    below_at_most' : (a b : Key) → is_below a b ≡ true → AtMost a b
    below_at_most' a b e = grind (arith, nat_tests)

    strict : (a b : Key) → AtMost a b → (a.link ≡ b.link → ⊥) → is_below a b ≡ true
    strict a b e apart = grind (arith, nat_tests, apart)

    apart : (y : Line) → (not (y.source == x.source) && share routes y.source x.source) ≡ true → y.source ≡ x.source → ⊥
    apart y o same = of_test (y.source == x.source) (share routes y.source x.source) o (eq_true _ _ same)
      where
        eq_true : (a b : ℕ) → a ≡ b → (a == b) ≡ true
        eq_true a b e = grind (arith, nat_tests)

        of_test : (a b : Bool) → (not a && b) ≡ true → a ≡ true → ⊥
        of_test true b e f = true≢false (sym e)
        of_test false b e f = true≢false (sym f)
