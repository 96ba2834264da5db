-- Each event of a run keeps what is known of late sources.
use Rattle.std.proofs.Common.{◌≡◌, ◌≢◌, ◌⊎◌, inl, inr, ⊎_elim, ℕ, suc, Bool, true, false, Option, Some, None, List, []}
use Rattle.std.proofs.Common.{◌∷◌, ◌++◌, refl, ap, sym, subst, ◌∙◌, arith}
use Rattle.std.specs.Prelude.{◌&&◌, ◌||◌, ◌==◌, nat_lt, slice_get, if◌then◌else◌}
use Rattle.std.proofs.lemmas.Bool.Decides.{nat_tests}
use Rattle.mb_rig.specs.Merging.Lines.{Key, is_below, is_sysex, Line}
use Rattle.mb_rig.specs.Merging.Report.{Passing}
use Rattle.mb_rig.specs.Merging.Run.{Run, AtMost, Stood, IsPresent, IsLate, Waits, WasHeld, Lateness, Drained}

pub true≢false : true ≡ false → ⊥
true≢false e = cc

pub none≢some : {A : Type 0} (a : A) → None ≡ Some a → ⊥
none≢some a e = cc

pub some_same : {A : Type 0} {a b : A} → Some a ≡ Some b → a ≡ b
some_same e = cc

pub same_or_not : (a b : ℕ) → (a ≡ b) ⊎ (a ≢ b)
same_or_not a b = grind arith

pub true_or_not : (b : Bool) → (b ≡ true) ⊎ (b ≡ false)
true_or_not true = inl refl
true_or_not false = inr refl

-- keys
pub below_at_most : (a b c : Key) → AtMost a b → is_below b c ≡ true → is_below a c ≡ true
below_at_most a b c p q = grind (arith, nat_tests)

at_most_below : (a b c : Key) → is_below a b ≡ true → AtMost b c → is_below a c ≡ true
at_most_below a b c p q = grind (arith, nat_tests)

pub at_most_trans : (a b c : Key) → AtMost a b → AtMost b c → AtMost a c
at_most_trans a b c p q = grind (arith, nat_tests)

pub not_both : (a b : Key) → is_below a b ≡ true → AtMost b a → ⊥
not_both a b p q = true≢false (sym p ∙ q)

numbers_same : (a b c d : ℕ) → (nat_lt a c || ((a == c) && nat_lt b d)) ≡ false →
    (nat_lt c a || ((c == a) && nat_lt d b)) ≡ false → (a ≡ c) × (b ≡ d)
numbers_same a b c d p q = (grind (arith, nat_tests), grind (arith, nat_tests))

pub same_key : (a b : Key) → AtMost a b → AtMost b a → a ≡ b
same_key a b p q = let e = numbers_same a.moment a.link b.moment b.link q p in λ i. record
    { moment = e.0 i; link = e.1 i }

-- what stood still stands behind one more line
pub stood_more : (shares : ℕ → ℕ → Bool) (report : List Passing) (q : Passing) (x : ℕ) (P : Line → Type 0) →
    Stood shares report x P → Stood shares (q ∷ report) x P
stood_more shares report q x P s = (suc s.0, s.1, s.2, s.3, s.4, s.5)

-- a step begins
pub begins : (shares : ℕ → ℕ → Bool) (r : Run) (i : ℕ) (k : Key) → Lateness shares r → Drained shares r →
    ((x : ℕ) (c : Key) → r.stalled x ≡ false → r.present x ≡ Some c → AtMost k c)
    → Lateness shares (record r { greatest = if is_below r.greatest k then k else r.greatest })
begins shares r i k known drained least = by_test (is_below r.greatest k) refl
  where
    waits : (x : ℕ) → r.held x ≢ [] → Waits shares (record r { greatest = k }) x
    waits x some =
        let w = drained.waits x some in
        let o = drained.owners w.1.0 w.1.1 in
        (w.0, some, (w.1.0, w.1.1, o.0, w.1.2, (o.2.0, o.2.1, least w.1.0 o.2.0 o.1 o.2.1)))

    behind : (x : ℕ) → IsPresent r x (λ c. is_below c k ≡ true) → r.stalled x ≡ true
    behind x p = ⊎_elim (λ (e : r.stalled x ≡ true). e) (λ e. absurd (not_both p.0 k p.2 (least x p.0 e p.1)))
        (true_or_not (r.stalled x))

    some_of : (x : ℕ) (c : Key) → slice_get (r.held x) 0 ≡ Some c → r.held x ≢ []
    some_of x c e none = none≢some c (sym (ap (λ hs. slice_get hs 0) none) ∙ e)

    by_test : (b : Bool) → is_below r.greatest k ≡ b → Lateness shares
        (record r { greatest = if b then k else r.greatest })
    by_test false e = record { late = known.late; on_time = known.on_time }
    by_test true e = record {
      late = λ x late. inl (waits x (⊎_elim (λ (h : (c : Key) × (slice_get (r.held x) 0 ≡ Some c) ×
          (is_below c k ≡ true)). some_of x h.0 h.1) (λ p. drained.stalled x (behind x p)) late));
      on_time = λ x free p. absurd (true≢false (sym (behind x p) ∙ free));
    }

-- a mark is held
pub takes : (shares : ℕ → ℕ → Bool) (r : Run) (held : ℕ → List Key) (i : ℕ) (k : Key) → Lateness shares r →
    r.stalled i ≡ false → r.present i ≡ Some k → r.is_open i ≡ false
    → held i ≡ r.held i ++ k ∷ [] → ((x : ℕ) → x ≢ i → held x ≡ r.held x)
    → Lateness shares (record r { held = held })
takes shares r held i k known free here closed grown others = record {
  late = λ x late. ⊎_elim (λ (e : x ≡ i). at_source x e late) (λ apart. elsewhere x apart late) (same_or_not x i);
  on_time = known.on_time;
}
  where
    first : (hs : List Key) (c : Key) → slice_get (hs ++ k ∷ []) 0 ≡ Some c → (slice_get hs 0 ≡ Some c) ⊎ (k ≡ c)
    first [] c e = inr (some_same e)
    first (h ∷ hs) c e = inl e

    grown_some : (hs : List Key) → (hs ++ k ∷ []) ≡ [] → ⊥
    grown_some [] e = cc
    grown_some (h ∷ hs) e = cc

    some_of : (o : ℕ) → o ≢ i → r.held o ≡ [] → held o ≡ []
    some_of o apart e = others o apart ∙ e

    open_apart : (o : ℕ) → r.is_open o ≡ true → o ≢ i
    open_apart o e same = true≢false (sym e ∙ ap r.is_open same ∙ closed)

    keep : (x : ℕ) → (held x ≡ [] → ⊥) → Waits shares r x ⊎ WasHeld shares r x →
        Waits shares (record r { held = held }) x ⊎ WasHeld shares r x
    keep x some (inr s) = inr s
    keep x some (inl w) = inl (w.0, some, (w.2.0, w.2.1, some_of w.2.0 (open_apart w.2.0 w.2.1) w.2.2, w.2.3, w.2.4))

    late_before : (x : ℕ) → x ≡ i → IsLate (record r { held = held }) x → IsLate r x
    late_before x e (inr p) = inr p
    late_before x e (inl h) = ⊎_elim
        (λ (f : slice_get (r.held i) 0 ≡ Some h.0). inl (h.0, ap (λ y. slice_get (r.held y) 0) e ∙ f, h.2))
        (λ (f : k ≡ h.0). inr (k, ap r.present e ∙ here, ap (λ c. is_below c r.greatest) f ∙ h.2))
        (first (r.held i) h.0 (ap (λ hs. slice_get hs 0) (sym grown) ∙ ap (λ y. slice_get (held y) 0) (sym e) ∙ h.1))

    at_source : (x : ℕ) → x ≡ i → IsLate (record r { held = held }) x →
        Waits shares (record r { held = held }) x ⊎ WasHeld shares r x
    at_source x e late = keep x (λ none. grown_some (r.held i) (sym grown ∙ ap held (sym e) ∙ none))
        (known.late x (late_before x e late))

    elsewhere : (x : ℕ) → x ≢ i → IsLate (record r { held = held }) x →
        Waits shares (record r { held = held }) x ⊎ WasHeld shares r x
    elsewhere x apart late =
        let before : IsLate r x = ⊎_elim (λ (h : (c : Key) × (slice_get (held x) 0 ≡ Some c) ×
        (is_below c r.greatest ≡ true)). inl (h.0, ap (λ hs. slice_get hs 0) (sym (others x apart)) ∙ h.1, h.2))
        (λ p. inr p) late in
        ⊎_elim (λ (w : Waits shares r x). keep x (λ none. w.1 (sym (others x apart) ∙ none)) (inl w)) (λ s. inr s)
        (known.late x before)

-- the report as it is after a mark: its line before it, if it is one
abbrev pub with_line : Option Passing → List Passing → List Passing
with_line None report = report
with_line (Some q) report = q ∷ report

pub stood_line : (shares : ℕ → ℕ → Bool) (report : List Passing) (q : Option Passing) (x : ℕ) (P : Line → Type 0) →
    Stood shares report x P → Stood shares (with_line q report) x P
stood_line shares report None x P s = s
stood_line shares report (Some q) x P s = stood_more shares report q x P s

-- the mark that ends a source's SysEx is a line of it, with this key
abbrev pub EndsBy : ℕ → Key → Option Passing → Type 0
EndsBy i k None = ⊥
EndsBy i k (Some q) = (q.line.source ≡ i) × (is_sysex q.line.event ≡ true) × (q.line.key ≡ k)

ends_line : (shares : ℕ → ℕ → Bool) (report : List Passing) (i x : ℕ) (k K : Key) (q : Option Passing) → EndsBy i k q →
    shares i x ≡ true → k ≡ K → Stood shares (with_line q report) x (λ y. y.key ≡ K)
ends_line shares report i x k K None e s same = absurd e
ends_line shares report i x k K (Some q) e s same = (0, q, refl, e.1, ap (λ o. shares o x) e.0 ∙ s, e.2 ∙ same)

-- the mark just offered passes
pub passes_offered : (shares : ℕ → ℕ → Bool) (r : Run) (is_open : ℕ → Bool) (q : Option Passing) (i : ℕ) (k : Key) →
    Lateness shares r → r.present i ≡ Some k → AtMost k r.greatest
    → ((x : ℕ) → x ≢ i → is_open x ≡ r.is_open x) → (is_open i ≡ true → r.held i ≡ [])
    → (r.is_open i ≡ true → is_open i ≡ false → EndsBy i k q)
    → Lateness shares (record r { is_open = is_open; report = with_line q r.report })
passes_offered shares r is_open q i k known here not_above others opens ends = record {
  late = λ x late. keep x (known.late x late);
  on_time = λ x free p. stood_line shares r.report q x _ (known.on_time x free p);
}
  where
    after : Run
    after = record r { is_open = is_open; report = with_line q r.report }

    closed : (x : ℕ) → r.held x ≢ [] → r.is_open x ≡ false → is_open x ≡ false
    closed x some e = ⊎_elim (λ (same : x ≡ i). ⊎_elim (λ (now : is_open i ≡ true). absurd
        (some (ap r.held same ∙ opens now))) (λ now. ap is_open same ∙ now) (true_or_not (is_open i)))
        (λ apart. others x apart ∙ e) (same_or_not x i)

    owner_ends : (x : ℕ) → shares i x ≡ true → r.is_open i ≡ true → is_open i ≡ false →
        IsPresent r i (λ c. AtMost r.greatest c) → Stood shares (with_line q r.report) x (λ y. y.key ≡ r.greatest)
    owner_ends x s was now p = ends_line shares r.report i x k r.greatest q (ends was now) s
        (same_key k r.greatest not_above (subst (λ c. AtMost r.greatest c) (some_same (sym p.1 ∙ here)) p.2))

    keep : (x : ℕ) → Waits shares r x ⊎ WasHeld shares r x → Waits shares
        (record r { is_open = is_open; report = with_line q r.report }) x ⊎ WasHeld shares
        (record r { is_open = is_open; report = with_line q r.report }) x
    keep x (inr s) = inr (stood_line shares r.report q x _ s)
    keep x (inl w) = ⊎_elim
        (λ (now : is_open w.2.0 ≡ true). inl (closed x w.1 w.0, w.1, (w.2.0, now, w.2.2, w.2.3, w.2.4)))
        (λ now. inr (⊎_elim
        (λ (same : w.2.0 ≡ i). owner_ends x (ap (λ o. shares o x) (sym same) ∙ w.2.3) (ap r.is_open (sym same) ∙ w.2.1)
        (ap is_open (sym same) ∙ now) (subst (λ o. IsPresent r o (λ c. AtMost r.greatest c)) same w.2.4))
        (λ apart. absurd (true≢false (sym w.2.1 ∙ sym (others w.2.0 apart) ∙ now)))
        (same_or_not w.2.0 i)))
        (true_or_not (is_open w.2.0))

-- a line that passes as it is offered, late, was held back by one of the greatest key
pub offered_in_order : (shares : ℕ → ℕ → Bool) (r : Run) (i : ℕ) (k : Key) → Lateness shares r → r.stalled i ≡ false →
    r.present i ≡ Some k → is_below k r.greatest ≡ true → WasHeld shares r i
offered_in_order shares r i k known free here below = known.on_time i free (k, here, below)

-- so was one that was held
pub held_in_order : (shares : ℕ → ℕ → Bool) (r : Run) (s : ℕ) (h : Key) (hs : List Key) → Lateness shares r →
    r.held s ≡ h ∷ hs → (r.is_open s ≡ false → (o : ℕ) → r.is_open o ≡ true → shares o s ≡ true → ⊥) → IsLate r s →
    WasHeld shares r s
held_in_order shares r s h hs known is may late = ⊎_elim (λ (w : Waits shares r s). absurd (may w.0 w.2.0 w.2.1 w.2.3))
    (λ x. x) (known.late s late)

-- a first held mark passes
pub passes_head : (shares : ℕ → ℕ → Bool) (r : Run) (is_open : ℕ → Bool) (held : ℕ → List Key) (stalled : ℕ → Bool)
    (q : Option Passing) (s : ℕ) (h : Key) (hs : List Key) → Lateness shares r
    → r.held s ≡ h ∷ hs → held s ≡ hs → ((c : Key) → slice_get hs 0 ≡ Some c → AtMost h c)
    → ((x : ℕ) → x ≢ s → (held x ≡ r.held x) × (is_open x ≡ r.is_open x) × (stalled x ≡ r.stalled x))
    → (r.is_open s ≡ false → (o : ℕ) → r.is_open o ≡ true → shares o s ≡ true → ⊥)
    → Lateness shares (record r { is_open = is_open; held = held; stalled = stalled; report = with_line q r.report })
passes_head shares r is_open held stalled q s h hs known is now sorted others may = record {
  late = λ x late. ⊎_elim (λ (e : x ≡ s). inr (at_source x e late)) (λ apart. elsewhere x apart late) (same_or_not x s);
  on_time = λ x free p. stood_line shares r.report q x _
      (⊎_elim (λ (e : x ≡ s). at_late x e (inr p)) (λ apart. known.on_time x (sym (others x apart).2 ∙ free) p)
      (same_or_not x s));
}
  where
    at_late : (x : ℕ) → x ≡ s → IsLate r x → WasHeld shares r x
    at_late x e late = subst (WasHeld shares r) (sym e) (held_in_order shares r s h hs known is may
        (subst (IsLate r) e late))

    late_before : (x : ℕ) → x ≡ s → IsLate (record r {
      is_open = is_open;
      held = held;
      stalled = stalled;
      report =
          with_line q r.report;
    }) x → IsLate r x
    late_before x e (inr p) = inr p
    late_before x e (inl l) = inl (
      h,
      ap (λ y. slice_get (r.held y) 0) e
          ∙ ap (λ z. slice_get z 0) is,
      below_at_most h l.0 r.greatest
          (sorted l.0 (ap (λ z. slice_get z 0) (sym now) ∙ ap (λ y. slice_get (held y) 0) (sym e) ∙ l.1)) l.2,
    )

    at_source : (x : ℕ) → x ≡ s → IsLate (record r {
      is_open = is_open;
      held = held;
      stalled = stalled;
      report =
          with_line q r.report;
    }) x → Stood shares (with_line q r.report) x (λ y. y.key ≡ r.greatest)
    at_source x e late = stood_line shares r.report q x _ (at_late x e (late_before x e late))

    no_cons : h ∷ hs ≡ [] → ⊥
    no_cons e = cc

    owner_apart : (o : ℕ) → r.held o ≡ [] → o ≢ s
    owner_apart o none e = no_cons (sym is ∙ ap r.held (sym e) ∙ none)

    keep : (x : ℕ) → x ≢ s → Waits shares r x ⊎ WasHeld shares r x → Waits shares
        (record r { is_open = is_open; held = held; stalled = stalled; report = with_line q r.report }) x ⊎ WasHeld
        shares (record r { is_open = is_open; held = held; stalled = stalled; report = with_line q r.report }) x
    keep x apart (inr z) = inr (stood_line shares r.report q x _ z)
    keep x apart (inl w) =
        let o = others w.2.0 (owner_apart w.2.0 w.2.2) in
        inl (
          (others x apart).1 ∙ w.0,
          (λ none. w.1 (sym (others x apart).0 ∙ none)),
          (w.2.0, o.1 ∙ w.2.1, o.0 ∙ w.2.2, w.2.3, w.2.4),
        )

    elsewhere : (x : ℕ) → x ≢ s → IsLate (record r {
      is_open = is_open;
      held = held;
      stalled = stalled;
      report =
          with_line q r.report;
    }) x → Waits shares (record r
        { is_open = is_open; held = held; stalled = stalled; report = with_line q r.report }) x ⊎ WasHeld shares
        (record r { is_open = is_open; held = held; stalled = stalled; report = with_line q r.report }) x
    elsewhere x apart (inr p) = keep x apart (known.late x (inr p))
    elsewhere x apart (inl l) = keep x apart (known.late x
        (inl (l.0, ap (λ z. slice_get z 0) (sym (others x apart).0) ∙ l.1, l.2)))

-- a step ends: the record is used up, or its source is stalled
pub ends : (shares : ℕ → ℕ → Bool) (r : Run) (present : ℕ → Option Key) (stalled : ℕ → Bool) (i : ℕ) (k : Key) →
    Lateness shares r → r.stalled i ≡ false → r.present i ≡ Some k
    → ((x : ℕ) → x ≢ i → (present x ≡ r.present x) × (stalled x ≡ r.stalled x))
    → ((c : Key) → present i ≡ Some c → AtMost k c) → (r.is_open i ≡ true → (c : Key) × (present i ≡ Some c))
    → Lateness shares (record r { present = present; stalled = stalled })
ends shares r present stalled i k known free here others later goes_on = record {
  late = λ x late. ⊎_elim (λ (e : x ≡ i). at_source x e late) (λ apart. elsewhere x apart late) (same_or_not x i);
  on_time = λ x now p. ⊎_elim (λ (e : x ≡ i). was_late x e p)
      (λ apart. known.on_time x (sym (others x apart).1 ∙ now) (p.0, sym (others x apart).0 ∙ p.1, p.2))
      (same_or_not x i);
}
  where
    was_late : (x : ℕ) → x ≡ i → ((c : Key) × (present x ≡ Some c) × (is_below c r.greatest ≡ true)) →
        WasHeld shares r x
    was_late x e p = subst (WasHeld shares r) (sym e) (known.on_time i free
        (k, here, below_at_most k p.0 r.greatest (later p.0 (ap present (sym e) ∙ p.1)) p.2))

    owner : (x : ℕ) (o : ℕ) → r.is_open o ≡ true → IsPresent r o (λ c. AtMost r.greatest c) →
        (c : Key) × (present o ≡ Some c) × AtMost r.greatest c
    owner x o open_now p = ⊎_elim
        (λ (e : o ≡ i). let c = goes_on (ap r.is_open (sym e) ∙ open_now) in (
          c.0,
          ap present e ∙ c.1,
          at_most_trans r.greatest k c.0
              (subst (λ z. AtMost r.greatest z) (some_same (sym p.1 ∙ ap r.present e ∙ here)) p.2) (later c.0 c.1),
        ))
        (λ apart. (p.0, (others o apart).0 ∙ p.1, p.2))
        (same_or_not o i)

    keep : (x : ℕ) → Waits shares r x ⊎ WasHeld shares r x → Waits shares
        (record r { present = present; stalled = stalled }) x ⊎ WasHeld shares
        (record r { present = present; stalled = stalled }) x
    keep x (inr z) = inr z
    keep x (inl w) = inl (w.0, w.1, (w.2.0, w.2.1, w.2.2, w.2.3, owner x w.2.0 w.2.1 w.2.4))

    at_source : (x : ℕ) → x ≡ i → IsLate (record r { present = present; stalled = stalled }) x →
        Waits shares (record r { present = present; stalled = stalled }) x ⊎ WasHeld shares
        (record r { present = present; stalled = stalled }) x
    at_source x e (inr p) = inr (was_late x e p)
    at_source x e (inl l) = keep x (known.late x (inl l))

    elsewhere : (x : ℕ) → x ≢ i → IsLate (record r { present = present; stalled = stalled }) x →
        Waits shares (record r { present = present; stalled = stalled }) x ⊎ WasHeld shares
        (record r { present = present; stalled = stalled }) x
    elsewhere x apart (inr p) = keep x (known.late x (inr (p.0, sym (others x apart).0 ∙ p.1, p.2)))
    elsewhere x apart (inl l) = keep x (known.late x (inl l))
