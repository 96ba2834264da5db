-- Each event of a run without stalls keeps it unbroken.
use Rattle.std.proofs.Common.{◌≡◌, ◌≢◌, ◌⊎◌, inl, inr, ⊎_elim, ℕ, zero, suc, Bool, true, false, Option, Some, None}
use Rattle.std.proofs.Common.{List, [], ◌∷◌, ◌++◌, refl, ap, sym, subst, ◌∙◌, arith}
use Rattle.std.specs.Prelude.{slice_get}
use Rattle.std.proofs.lemmas.Bool.Decides.{nat_tests}
use Rattle.mb_rig.specs.Merging.Lines.{Key, is_below, is_sysex}
use Rattle.mb_rig.specs.Merging.Report.{Passing}
use Rattle.mb_rig.specs.Merging.Run.{Run, AtMost, Stood, Drained}
use Rattle.mb_rig.specs.Merging.Unbroken.{HasOwner, IsHeld, Unbroken}
use Rattle.mb_rig.proofs.Merging.Lateness.{true≢false, none≢some, some_same, same_or_not, true_or_not, at_most_trans}
use Rattle.mb_rig.proofs.Merging.Lateness.{stood_line, with_line}

below_is : (a b : Key) → is_below a b ≡ true → AtMost a b
below_is a b e = grind (arith, nat_tests)

at_or_above : (k K : Key) → AtMost k K ⊎ AtMost K k
at_or_above k K = ⊎_elim (λ (e : is_below K k ≡ true). inr (below_is K k e)) (λ e. inl e) (true_or_not (is_below K k))

not_empty : (hs : List Key) (i : ℕ) (h : Key) → slice_get hs i ≡ Some h → hs ≡ [] → ⊥
not_empty [] i h e none = none≢some h e
not_empty (x ∷ xs) i h e none = no_cons none
  where
    no_cons : x ∷ xs ≡ [] → ⊥
    no_cons e = cc

pub begins : (shares : ℕ → ℕ → Bool) (begin_of : ℕ → Key) (r : Run) (k : Key) → Unbroken shares begin_of r →
    Drained shares r → AtMost r.greatest k → Unbroken shares begin_of (record r { greatest = k })
begins shares begin_of r k known drained later = record {
  held = λ x h is c from to. ⊎_elim (λ (old : AtMost c r.greatest). known.held x h is c from old)
      (λ new. inr (owner x h is c new)) (at_or_above c r.greatest);
  begun = λ o e. at_most_trans (begin_of o) r.greatest k (known.begun o e) later;
  within = λ x h is. at_most_trans h r.greatest k (known.within x h is) later;
}
  where
    owner : (x : ℕ) (h : Key) → IsHeld r x h → (c : Key) → AtMost r.greatest c →
        HasOwner shares r x (λ o. AtMost (begin_of o) c)
    owner x h is c new =
        let w = drained.waits x (not_empty (r.held x) is.0 h is.1) in (
          w.0,
          (
            w.1.0,
            w.1.1,
            (drained.owners w.1.0 w.1.1).0,
            w.1.2,
            at_most_trans (begin_of w.1.0) r.greatest c
                (known.begun w.1.0 w.1.1) new,
          ),
        )

-- a mark is held, since an owner is there
pub takes : (shares : ℕ → ℕ → Bool) (begin_of : ℕ → Key) (r : Run) (held : ℕ → List Key) (i : ℕ) →
    Unbroken shares begin_of r → r.is_open i ≡ false
    → ((o : ℕ) × (r.is_open o ≡ true) × (r.held o ≡ []) × (shares o i ≡ true)) → held i ≡ r.held i ++ r.greatest ∷ [] →
    ((x : ℕ) → x ≢ i → held x ≡ r.held x)
    → Unbroken shares begin_of (record r { held = held })
takes shares begin_of r held i known closed owner grown others = record {
  held = λ x h is c from to. ⊎_elim (λ (e : x ≡ i). at_source x h e is c from to)
      (λ apart. keep x c (known.held x h (is.0, ap (λ hs. slice_get hs is.0) (sym (others x apart)) ∙ is.1) c from to))
      (same_or_not x i);
  begun = known.begun;
  within = λ x h is. ⊎_elim (λ (e : x ≡ i). ⊎_elim (λ (old : IsHeld r i h). known.within i h old)
      (λ (new : r.greatest ≡ h). subst (λ z. AtMost z r.greatest) new (at_self r.greatest)) (old_or_new x h e is))
      (λ apart. known.within x h (is.0, ap (λ hs. slice_get hs is.0) (sym (others x apart)) ∙ is.1)) (same_or_not x i);
}
  where
    at_self : (a : Key) → AtMost a a
    at_self a = grind (arith, nat_tests)

    last : (hs : List Key) (j : ℕ) (k h : Key) → slice_get (hs ++ k ∷ []) j ≡ Some h →
        (slice_get hs j ≡ Some h) ⊎ (k ≡ h)
    last [] zero k h e = inr (some_same e)
    last [] (suc j) k h e = inl e
    last (x ∷ xs) zero k h e = inl e
    last (x ∷ xs) (suc j) k h e = last xs j k h e

    old_or_new : (x : ℕ) (h : Key) → x ≡ i → IsHeld (record r { held = held }) x h → IsHeld r i h ⊎ (r.greatest ≡ h)
    old_or_new x h e is = ⊎_elim (λ (f : slice_get (r.held i) is.0 ≡ Some h). inl (is.0, f)) (λ f. inr f)
        (last (r.held i) is.0 r.greatest h (ap (λ hs. slice_get hs is.0) (sym grown)
        ∙ ap (λ y. slice_get (held y) is.0) (sym e) ∙ is.1))

    apart_of : (o : ℕ) → r.is_open o ≡ true → o ≢ i
    apart_of o e same = true≢false (sym e ∙ ap r.is_open same ∙ closed)

    keep : (x : ℕ) (c : Key) → Stood shares r.report x (λ y. AtMost y.begin c × AtMost c y.key) ⊎ HasOwner shares r x
        (λ o. AtMost (begin_of o) c) → Stood shares r.report x (λ y. AtMost y.begin c × AtMost c y.key) ⊎ HasOwner
        shares (record r { held = held }) x (λ o. AtMost (begin_of o) c)
    keep x c (inl s) = inl s
    keep x c (inr w) = inr (w.0, (w.1.0, w.1.1, others w.1.0 (apart_of w.1.0 w.1.1) ∙ w.1.2, w.1.3, w.1.4))

    new_owner : (x : ℕ) (c : Key) → x ≡ i → AtMost r.greatest c → HasOwner shares (record r { held = held }) x
        (λ o. AtMost (begin_of o) c)
    new_owner x c e from = (
      ap r.is_open e ∙ closed,
      (
        owner.0,
        owner.1,
        others owner.0 (apart_of owner.0 owner.1)
            ∙ owner.2,
        ap (λ y. shares owner.0 y) e ∙ owner.3,
        at_most_trans (begin_of owner.0) r.greatest c
            (known.begun owner.0 owner.1) from,
      ),
    )

    at_source : (x : ℕ) (h : Key) → x ≡ i → IsHeld (record r { held = held }) x h → (c : Key) → AtMost h c →
        AtMost c r.greatest → Stood shares r.report x (λ y. AtMost y.begin c × AtMost c y.key) ⊎ HasOwner shares
        (record r { held = held }) x (λ o. AtMost (begin_of o) c)
    at_source x h e is c from to = ⊎_elim
        (λ (old : IsHeld r i h). keep x c (known.held x h (subst (λ y. IsHeld r y h) (sym e) old) c from to))
        (λ (new : r.greatest ≡ h). inr (new_owner x c e (subst (λ z. AtMost z c) (sym new) from)))
        (old_or_new x h e is)

-- the mark that ends a source's SysEx is a line of it, with the greatest key, begun when its Open was
abbrev pub EndsBegun : ℕ → Key → Key → Option Passing → Type 0
EndsBegun i begin k None = ⊥
EndsBegun i begin k (Some q) = (q.line.source ≡ i) × (is_sysex q.line.event ≡ true) × (q.line.key ≡ k) ×
    (q.line.begin ≡ begin)

ends_line : (shares : ℕ → ℕ → Bool) (report : List Passing) (i x : ℕ) (begin K c : Key) (q : Option Passing) →
    EndsBegun i begin K q → shares i x ≡ true → AtMost begin c → AtMost c K →
    Stood shares (with_line q report) x (λ y. AtMost y.begin c × AtMost c y.key)
ends_line shares report i x begin K c None e s from to = absurd e
ends_line shares report i x begin K c (Some q) e s from to = (
  0,
  q,
  refl,
  e.1,
  ap (λ o. shares o x) e.0 ∙ s,
  (
    subst (λ z. AtMost z c) (sym e.3) from,
    subst (λ z. AtMost c z)
        (sym e.2) to,
  ),
)

-- the mark just offered passes; its key is the greatest
pub passes_offered : (shares : ℕ → ℕ → Bool) (begin_of begin_then : ℕ → Key) (r : Run) (is_open : ℕ → Bool)
    (q : Option Passing) (i : ℕ) → Unbroken shares begin_of r
    → ((x : ℕ) → x ≢ i → (is_open x ≡ r.is_open x) × (begin_then x ≡ begin_of x)) →
    (is_open i ≡ true → (r.held i ≡ []) × (((r.is_open i ≡ true) × (begin_then i ≡ begin_of i)) ⊎
    (begin_then i ≡ r.greatest)))
    → (r.is_open i ≡ true → is_open i ≡ false → EndsBegun i (begin_of i) r.greatest q) →
    (r.is_open i ≡ true → is_open i ≡ true → begin_then i ≡ begin_of i)
    → Unbroken shares begin_then (record r { is_open = is_open; report = with_line q r.report })
passes_offered shares begin_of begin_then r is_open q i known others opens ends same_begin = record {
  held = λ x h is c from to. keep x h is c to (known.held x h is c from to);
  begun = λ o e. ⊎_elim (λ (same : o ≡ i). subst (λ y. AtMost (begin_then y) r.greatest) (sym same)
      (begun_here (ap is_open (sym same) ∙ e))) (λ apart. subst (λ z. AtMost z r.greatest) (sym (others o apart).1)
      (known.begun o (sym (others o apart).0 ∙ e))) (same_or_not o i);
  within = known.within;
}
  where
    at_self : (a : Key) → AtMost a a
    at_self a = grind (arith, nat_tests)

    begun_here : is_open i ≡ true → AtMost (begin_then i) r.greatest
    begun_here e = ⊎_elim (λ (old : (r.is_open i ≡ true) × (begin_then i ≡ begin_of i)). subst
        (λ z. AtMost z r.greatest) (sym old.1) (known.begun i old.0))
        (λ new. subst (λ z. AtMost z r.greatest) (sym new) (at_self r.greatest)) (opens e).1

    closed : (x : ℕ) (h : Key) → IsHeld r x h → r.is_open x ≡ false → is_open x ≡ false
    closed x h is e = ⊎_elim (λ (same : x ≡ i). ⊎_elim (λ (now : is_open i ≡ true). absurd
        (not_empty (r.held x) is.0 h is.1 (ap r.held same ∙ (opens now).0))) (λ now. ap is_open same ∙ now)
        (true_or_not (is_open i))) (λ apart. (others x apart).0 ∙ e) (same_or_not x i)

    begin_same : (o : ℕ) → r.is_open o ≡ true → is_open o ≡ true → begin_then o ≡ begin_of o
    begin_same o was now = ⊎_elim (λ (e : o ≡ i). ap begin_then e ∙ same_begin (ap r.is_open (sym e) ∙ was)
        (ap is_open (sym e) ∙ now) ∙ ap begin_of (sym e)) (λ apart. (others o apart).1) (same_or_not o i)

    keep : (x : ℕ) (h : Key) → IsHeld r x h → (c : Key) → AtMost c r.greatest →
        Stood shares r.report x (λ y. AtMost y.begin c × AtMost c y.key) ⊎ HasOwner shares r x
        (λ o. AtMost (begin_of o) c)
        → Stood shares (with_line q r.report) x (λ y. AtMost y.begin c × AtMost c y.key) ⊎ HasOwner shares
        (record r { is_open = is_open; report = with_line q r.report }) x (λ o. AtMost (begin_then o) c)
    keep x h is c to (inl s) = inl (stood_line shares r.report q x _ s)
    keep x h is c to (inr w) = ⊎_elim
        (λ (now : is_open w.1.0 ≡ true). inr (
          closed x h is w.0,
          (w.1.0, now, w.1.2, w.1.3, subst (λ z. AtMost z c) (sym (begin_same w.1.0 w.1.1 now)) w.1.4),
        ))
        (λ now. inl (⊎_elim
        (λ (e : w.1.0 ≡ i). ends_line shares r.report i x (begin_of i) r.greatest c q
        (ends (ap r.is_open (sym e) ∙ w.1.1) (ap is_open (sym e) ∙ now)) (ap (λ o. shares o x) (sym e) ∙ w.1.3)
        (subst (λ o. AtMost (begin_of o) c) e w.1.4) to)
        (λ apart. absurd (true≢false (sym w.1.1 ∙ sym (others w.1.0 apart).0 ∙ now)))
        (same_or_not w.1.0 i)))
        (true_or_not (is_open w.1.0))

-- a held line that passes: at each key from its own to the greatest one had held it back
pub held_in_order : (shares : ℕ → ℕ → Bool) (begin_of : ℕ → Key) (r : Run) (s : ℕ) (h : Key) →
    Unbroken shares begin_of r → IsHeld r s h → (r.is_open s ≡ false → (o : ℕ) → r.is_open o ≡ true →
    shares o s ≡ true → ⊥)
    → (c : Key) → AtMost h c → AtMost c r.greatest → Stood shares r.report s (λ y. AtMost y.begin c × AtMost c y.key)
held_in_order shares begin_of r s h known is may c from to = ⊎_elim
    (λ (x : Stood shares r.report s (λ y. AtMost y.begin c × AtMost c y.key)). x)
    (λ w. absurd (may w.0 w.1.0 w.1.1 w.1.3)) (known.held s h is c from to)

pub passes_head : (shares : ℕ → ℕ → Bool) (begin_of begin_then : ℕ → Key) (r : Run) (is_open : ℕ → Bool)
    (held : ℕ → List Key) (stalled : ℕ → Bool) (q : Option Passing) (s : ℕ) (h : Key) (hs : List Key) →
    Unbroken shares begin_of r
    → r.held s ≡ h ∷ hs → held s ≡ hs → ((x : ℕ) → x ≢ s → (held x ≡ r.held x) × (is_open x ≡ r.is_open x) ×
    (begin_then x ≡ begin_of x))
    → (is_open s ≡ true → ((r.is_open s ≡ true) × (begin_then s ≡ begin_of s)) ⊎ (begin_then s ≡ h))
    → (r.is_open s ≡ false → (o : ℕ) → r.is_open o ≡ true → shares o s ≡ true → ⊥)
    → Unbroken shares begin_then (record r {
      is_open = is_open;
      held = held;
      stalled = stalled;
      report = with_line q
          r.report;
    })
passes_head shares begin_of begin_then r is_open held stalled q s h hs known is now others opens may = record {
  held = λ x g held_now c from to. ⊎_elim
      (λ (e : x ≡ s). inl (stood_line shares r.report q x _
      (subst (λ y. Stood shares r.report y (λ z. AtMost z.begin c × AtMost c z.key)) (sym e)
      (held_in_order shares begin_of r s g known (was_held x g e held_now) may c from to))))
      (λ apart. keep x apart c (known.held x g (
        held_now.0,
        ap (λ z. slice_get z held_now.0) (sym (others x apart).0)
            ∙ held_now.1,
      ) c from to))
      (same_or_not x s);
  begun = λ o e. ⊎_elim (λ (same : o ≡ s). subst (λ y. AtMost (begin_then y) r.greatest) (sym same)
      (begun_here (ap is_open (sym same) ∙ e))) (λ apart. subst (λ z. AtMost z r.greatest) (sym (others o apart).2)
      (known.begun o (sym (others o apart).1 ∙ e))) (same_or_not o s);
  within = λ x g held_now. ⊎_elim (λ (e : x ≡ s). known.within s g (was_held x g e held_now))
      (λ apart. known.within x g (held_now.0, ap (λ z. slice_get z held_now.0) (sym (others x apart).0) ∙ held_now.1))
      (same_or_not x s);
}
  where
    head_held : IsHeld r s h
    head_held = (0, ap (λ z. slice_get z 0) is)

    begun_here : is_open s ≡ true → AtMost (begin_then s) r.greatest
    begun_here e = ⊎_elim (λ (old : (r.is_open s ≡ true) × (begin_then s ≡ begin_of s)). subst
        (λ z. AtMost z r.greatest) (sym old.1) (known.begun s old.0))
        (λ new. subst (λ z. AtMost z r.greatest) (sym new) (known.within s h head_held)) (opens e)

    was_held : (x : ℕ) (g : Key) → x ≡ s → IsHeld (record r
        { is_open = is_open; held = held; stalled = stalled; report = with_line q r.report }) x g → IsHeld r s g
    was_held x g e held_now = (
      suc held_now.0,
      ap (λ z. slice_get z (suc held_now.0)) is
          ∙ ap (λ z. slice_get z held_now.0) (sym now) ∙ ap (λ y. slice_get (held y) held_now.0) (sym e) ∙ held_now.1,
    )

    no_cons : h ∷ hs ≡ [] → ⊥
    no_cons e = cc

    owner_apart : (o : ℕ) → r.held o ≡ [] → o ≢ s
    owner_apart o none e = no_cons (sym is ∙ ap r.held (sym e) ∙ none)

    keep : (x : ℕ) → x ≢ s → (c : Key) → Stood shares r.report x (λ y. AtMost y.begin c × AtMost c y.key) ⊎ HasOwner
        shares r x (λ o. AtMost (begin_of o) c)
        → Stood shares (with_line q r.report) x (λ y. AtMost y.begin c × AtMost c y.key) ⊎ HasOwner shares
        (record r { is_open = is_open; held = held; stalled = stalled; report = with_line q r.report }) x
        (λ o. AtMost (begin_then o) c)
    keep x apart c (inl z) = inl (stood_line shares r.report q x _ z)
    keep x apart c (inr w) =
        let o = others w.1.0 (owner_apart w.1.0 w.1.2) in
        inr (
          (others x apart).1 ∙ w.0,
          (
            w.1.0,
            o.1 ∙ w.1.1,
            o.0 ∙ w.1.2,
            w.1.3,
            subst (λ z. AtMost z c) (sym o.2)
                w.1.4,
          ),
        )
