-- Each event of a run keeps what is known of real-time lines that overtook held marks.
use Rattle.std.proofs.Common.{◌≡◌, ◌≢◌, ◌⊎◌, inl, inr, ⊎_elim, ℕ, zero, suc, ◌<◌, Bool, true, false, Option, Some, None}
use Rattle.std.proofs.Common.{List, [], ◌∷◌, ◌++◌, take, refl, ap, sym, subst, ◌∙◌}
use Rattle.std.specs.Prelude.{slice_get}
use Rattle.mb_rig.specs.Merging.Lines.{Key, is_realtime, is_sysex, Line}
use Rattle.mb_rig.specs.Merging.Report.{Passing}
use Rattle.mb_rig.specs.Merging.Run.{Run, Stood}
use Rattle.mb_rig.specs.Merging.Unbroken.{HasOwner, Overtaken}
use Rattle.mb_rig.proofs.Merging.Lateness.{true≢false, none≢some, some_same, same_or_not, true_or_not, with_line}

abbrev pub Any : Line → Type 0
Any y = Unit {0}

abbrev pub Anyone : ℕ → Type 0
Anyone o = Unit {0}

pub takes : (shares : ℕ → ℕ → Bool) (places places_then : ℕ → List ℕ) (r : Run) (held : ℕ → List Key) (i n : ℕ) →
    Overtaken shares places r → r.is_open i ≡ false
    → ((x : ℕ) → x ≢ i → (held x ≡ r.held x) × (places_then x ≡ places x)) → places_then i ≡ places i ++ n ∷ []
    → ((k : ℕ) (p : Passing) → slice_get r.report k ≡ Some p → p.line.source ≡ i → n < p.line.place → ⊥)
    → Overtaken shares places_then (record r { held = held })
takes shares places places_then r held i n known closed others grown latest = λ x j m k p place at source rt less.
    keep x (⊎_elim
    (λ (e : x ≡ i). ⊎_elim
    (λ (old : slice_get (places i) j ≡ Some m). known x j m k p (ap (λ y. slice_get (places y) j) e ∙ old) at source rt
    less)
    (λ (new : n ≡ m). absurd (latest k p at (source ∙ e) (subst (λ z. z < p.line.place) (sym new) less)))
    (last (places i) j n m (ap (λ ns. slice_get ns j) (sym grown) ∙ ap (λ y. slice_get (places_then y) j) (sym e)
    ∙ place)))
    (λ apart. known x j m k p (ap (λ ns. slice_get ns j) (sym (others x apart).1) ∙ place) at source rt less)
    (same_or_not x i))
  where
    last : (ns : List ℕ) (j n m : ℕ) → slice_get (ns ++ n ∷ []) j ≡ Some m → (slice_get ns j ≡ Some m) ⊎ (n ≡ m)
    last [] zero n m e = inr (some_same e)
    last [] (suc j) n m e = inl e
    last (x ∷ xs) zero n m e = inl e
    last (x ∷ xs) (suc j) n m e = last xs j n m e

    keep : {P : Type 0} (x : ℕ) → P ⊎ HasOwner shares r x Anyone → P ⊎ HasOwner shares (record r { held = held }) x
        Anyone
    keep x (inl s) = inl s
    keep x (inr w) = inr (
      w.0,
      (
        w.1.0,
        w.1.1,
        (others w.1.0
            (λ same. true≢false (sym w.1.1 ∙ ap r.is_open same ∙ closed))).0 ∙ w.1.2,
        w.1.3,
        tt,
      ),
    )

-- a line before the report: what is said of each line behind it, and of itself
shifted : (shares : ℕ → ℕ → Bool) (report : List Passing) (q : Option Passing) (x n : ℕ) (O : Type 0)
    → ((k : ℕ) (p : Passing) → slice_get report k ≡ Some p → p.line.source ≡ x → is_realtime p.line.event ≡ true →
    n < p.line.place → Stood shares (take k report) x Any ⊎
    (((z : Passing) × (q ≡ Some z) × (is_sysex z.line.event ≡ true) × (shares z.line.source x ≡ true)) ⊎ O))
    → ((z : Passing) → q ≡ Some z → z.line.source ≡ x → is_realtime z.line.event ≡ true → O)
    → (k : ℕ) (p : Passing) → slice_get (with_line q report) k ≡ Some p → p.line.source ≡ x →
    is_realtime p.line.event ≡ true → n < p.line.place → Stood shares (take k (with_line q report)) x Any ⊎ O
shifted shares report None x n O each first k p at source rt less = ⊎_elim (λ s. inl s)
    (λ w. ⊎_elim (λ (z : (z : Passing) × (None ≡ Some z) × (is_sysex z.line.event ≡ true) ×
    (shares z.line.source x ≡ true)). absurd (none≢some z.0 z.1)) (λ o. inr o) w) (each k p at source rt less)
shifted shares report (Some q) x n O each first zero p at source rt less = inr
    (first q refl (ap (λ (z : Passing). z.line.source) (some_same at) ∙ source)
    (ap (λ (z : Passing). is_realtime z.line.event) (some_same at) ∙ rt))
shifted shares report (Some q) x n O each first (suc k) p at source rt less = ⊎_elim
    (λ (s : Stood shares (take k report) x Any). inl (suc s.0, s.1, s.2, s.3, s.4, tt))
    (λ w. ⊎_elim (λ (z : (z : Passing) × (Some q ≡ Some z) × (is_sysex z.line.event ≡ true) ×
    (shares z.line.source x ≡ true)). inl (0, z.0, z.1, z.2, z.3, tt)) (λ o. inr o) w)
    (each k p at source rt less)

pub passes_offered : (shares : ℕ → ℕ → Bool) (places : ℕ → List ℕ) (r : Run) (is_open : ℕ → Bool) (q : Option Passing)
    (i : ℕ) → Overtaken shares places r
    → ((x : ℕ) → x ≢ i → is_open x ≡ r.is_open x) → (is_open i ≡ true → places i ≡ [])
    → (r.is_open i ≡ true → is_open i ≡ false → (z : Passing) × (q ≡ Some z) × (is_sysex z.line.event ≡ true) ×
    (z.line.source ≡ i))
    → ((z : Passing) → q ≡ Some z → z.line.source ≡ i)
    → ((z : Passing) → q ≡ Some z → is_realtime z.line.event ≡ true → places i ≢ [] →
    HasOwner shares (record r { is_open = is_open; report = with_line q r.report }) i Anyone)
    → Overtaken shares places (record r { is_open = is_open; report = with_line q r.report })
passes_offered shares places r is_open q i known others opens ends of_source waits =
    λ x j n k p place at source rt less.
    shifted shares r.report q x n _ (λ k p at source rt less. old x j n place k p
    (known x j n k p place at source rt less)) (first x j n place) k p at source rt less
  where
    not_empty : (ns : List ℕ) (j n : ℕ) → slice_get ns j ≡ Some n → ns ≡ [] → ⊥
    not_empty [] j n e none = none≢some n e
    not_empty (m ∷ ms) j n e none = no_cons none
      where
        no_cons : m ∷ ms ≡ [] → ⊥
        no_cons e = cc

    closed : (x j n : ℕ) → slice_get (places x) j ≡ Some n → r.is_open x ≡ false → is_open x ≡ false
    closed x j n place e = ⊎_elim (λ (same : x ≡ i). ⊎_elim
        (λ (now : is_open i ≡ true). absurd (not_empty (places x) j n place (ap places same ∙ opens now)))
        (λ now. ap is_open same ∙ now) (true_or_not (is_open i))) (λ apart. others x apart ∙ e) (same_or_not x i)

    old : (x j n : ℕ) → slice_get (places x) j ≡ Some n → (k : ℕ) (p : Passing) →
        Stood shares (take k r.report) x Any ⊎ HasOwner shares r x Anyone
        → Stood shares (take k r.report) x Any ⊎ (((z : Passing) × (q ≡ Some z) × (is_sysex z.line.event ≡ true) ×
        (shares z.line.source x ≡ true)) ⊎ HasOwner shares
        (record r { is_open = is_open; report = with_line q r.report }) x Anyone)
    old x j n place k p (inl s) = inl s
    old x j n place k p (inr w) = ⊎_elim
        (λ (now : is_open w.1.0 ≡ true). inr (inr (closed x j n place w.0, (w.1.0, now, w.1.2, w.1.3, tt))))
        (λ now. ⊎_elim
        (λ (e : w.1.0 ≡ i). let z = ends (ap r.is_open (sym e) ∙ w.1.1) (ap is_open (sym e) ∙ now) in inr
        (inl (z.0, z.1, z.2, ap (λ o. shares o x) (z.3 ∙ sym e) ∙ w.1.3)))
        (λ apart. absurd (true≢false (sym w.1.1 ∙ sym (others w.1.0 apart) ∙ now)))
        (same_or_not w.1.0 i))
        (true_or_not (is_open w.1.0))

    first : (x j n : ℕ) → slice_get (places x) j ≡ Some n → (z : Passing) → q ≡ Some z → z.line.source ≡ x →
        is_realtime z.line.event ≡ true → HasOwner shares
        (record r { is_open = is_open; report = with_line q r.report }) x Anyone
    first x j n place z e source rt =
        let same : x ≡ i = sym source ∙ of_source z e in
        subst (λ y. HasOwner shares (record r { is_open = is_open; report = with_line q r.report }) y Anyone) (sym same)
        (waits z e rt (λ none. not_empty (places x) j n place (ap places same ∙ none)))

-- a held line that passes: behind each real-time line that overtook it stands a SysEx line of another that shares
pub held_fits : (shares : ℕ → ℕ → Bool) (places : ℕ → List ℕ) (r : Run) (s j n : ℕ) → Overtaken shares places r →
    slice_get (places s) j ≡ Some n → (r.is_open s ≡ false → (o : ℕ) → r.is_open o ≡ true → shares o s ≡ true → ⊥)
    → (k : ℕ) (p : Passing) → slice_get r.report k ≡ Some p → p.line.source ≡ s → is_realtime p.line.event ≡ true →
    n < p.line.place → Stood shares (take k r.report) s Any
held_fits shares places r s j n known place may k p at source rt less =
    ⊎_elim (λ (x : Stood shares (take k r.report) s Any). x) (λ w. absurd (may w.0 w.1.0 w.1.1 w.1.3))
    (known s j n k p place at source rt less)

pub passes_head : (shares : ℕ → ℕ → Bool) (places places_then : ℕ → List ℕ) (r : Run) (is_open : ℕ → Bool)
    (held : ℕ → List Key) (stalled : ℕ → Bool) (q : Option Passing) (s n : ℕ) (ns : List ℕ) → Overtaken shares places r
    → places s ≡ n ∷ ns → places_then s ≡ ns → r.held s ≢ [] →
    ((x : ℕ) → x ≢ s → (held x ≡ r.held x) × (is_open x ≡ r.is_open x) × (places_then x ≡ places x))
    → ((z : Passing) → q ≡ Some z → is_realtime z.line.event ≡ false) →
    (r.is_open s ≡ false → (o : ℕ) → r.is_open o ≡ true → shares o s ≡ true → ⊥)
    → Overtaken shares places_then (record r {
      is_open = is_open;
      held = held;
      stalled = stalled;
      report = with_line q
          r.report;
    })
passes_head shares places places_then r is_open held stalled q s n ns known is now some others calm may =
    λ x j m k p place at source rt less.
    shifted shares r.report q x m _ (λ k p at source rt less. step x j m k p place at source rt less)
    (λ z e source rt. absurd (true≢false (sym rt ∙ calm z e))) k p at source rt less
  where
    keep : {P Q : Type 0} (x : ℕ) → x ≢ s → P ⊎ HasOwner shares r x Anyone →
        P ⊎ (Q ⊎ HasOwner shares (record r {
          is_open = is_open;
          held = held;
          stalled = stalled;
          report = with_line q
              r.report;
        }) x Anyone)
    keep x apart (inl z) = inl z
    keep x apart (inr w) =
        let o = others w.1.0 (λ same. some (ap r.held (sym same) ∙ w.1.2)) in
        inr (inr ((others x apart).1 ∙ w.0, (w.1.0, o.1 ∙ w.1.1, o.0 ∙ w.1.2, w.1.3, tt)))

    step : (x j m k : ℕ) (p : Passing) → slice_get (places_then x) j ≡ Some m → slice_get r.report k ≡ Some p →
        p.line.source ≡ x → is_realtime p.line.event ≡ true → m < p.line.place
        → Stood shares (take k r.report) x Any ⊎ (((z : Passing) × (q ≡ Some z) × (is_sysex z.line.event ≡ true) ×
        (shares z.line.source x ≡ true)) ⊎ HasOwner shares
        (record r { is_open = is_open; held = held; stalled = stalled; report = with_line q r.report }) x Anyone)
    step x j m k p place at source rt less = ⊎_elim
        (λ (e : x ≡ s). inl (subst (λ y. Stood shares (take k r.report) y Any) (sym e)
        (held_fits shares places r s (suc j) m known
        (ap (λ z. slice_get z (suc j)) is ∙ ap (λ z. slice_get z j) (sym now)
        ∙ ap (λ y. slice_get (places_then y) j) (sym e) ∙ place) may k p at (source ∙ e) rt less)))
        (λ apart. keep x apart (known x j m k p (ap (λ z. slice_get z j) (sym (others x apart).2) ∙ place) at source rt
        less))
        (same_or_not x s)
