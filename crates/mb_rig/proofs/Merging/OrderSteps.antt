-- Each call of the router keeps the report in order.
use Rattle.std.proofs.Common.{◌≡◌, ◌≢◌, inl, ⊎_elim, ℕ, zero, suc, ◌<◌, ◌≤◌, Bool, true, false, Option, Some, None}
use Rattle.std.proofs.Common.{List, [], ◌∷◌, ◌++◌, length, map, drop, refl, ap, sym, subst, ◌∙◌, arith, append-nil}
use Rattle.std.proofs.Common.{append_assoc}
use Rattle.std.specs.Prelude.{◌&&◌, if◌then◌else◌, reverse, slice_get, slice_set}
use Rattle.std.proofs.lemmas.Bool.Decides.{nat_tests}
use Rattle.std.proofs.lemmas.List.{reverse-append}
use Rattle.std.proofs.lemmas.List.Concat.{flat_map-append}
use Rattle.mb_message.specs.Signs.{sign_of}
use Rattle.mb_message.specs.declared.mark.Mark.{Mark}
use Rattle.mb_merge.specs.declared.source.Held.{Held}
use Rattle.mb_merge.specs.declared.router.Passed.{Passed}
use Rattle.mb_merge.specs.Links.{Link, Merger, link_at, link_of}
use Rattle.mb_merge.specs.Passing.{opens, taken, after_pass, after_head}
use Rattle.mb_rig.specs.Merging.Lines.{Key, is_below, arrival_of, Line}
use Rattle.mb_rig.specs.Merging.Report.{Passing, fits_behind}
use Rattle.mb_rig.specs.Merging.Orderly.{is_in_order, is_on_time, is_orderly}
use Rattle.mb_rig.specs.Merging.Run.{AtMost, Stood, Lateness, Drained}
use Rattle.mb_rig.specs.Merging.Routed.{key_of, run_of}
use Rattle.mb_rig.specs.Merging.Tags.{Tag}
use Rattle.mb_rig.specs.Merging.Playing.{PassedTag, Play, Plays, report_of, line_of, takes, offered_goes, head_goes}
use Rattle.mb_rig.specs.Merging.Tags.{is_realtime_sign}
use Rattle.mb_rig.specs.Merging.Order.{Bounded, LineFits, Order, newest, sharing}
use Rattle.mb_rig.proofs.Merging.Lateness as late
use Rattle.mb_merge.proofs.Flows.{link_at-set_same, link_at-set_other}
use Rattle.mb_rig.proofs.Merging.Lateness.{same_or_not, true≢false, none≢some, some_same, true_or_not, with_line}
use Rattle.mb_rig.proofs.Merging.Lateness.{EndsBy, at_most_trans}
use Rattle.mb_rig.proofs.Merging.InOrder.{passes_in_order}
use Rattle.mb_rig.proofs.Merging.RouterEvents.{same_run, router_takes, router_passes, router_head}
use Rattle.mb_rig.proofs.Merging.PlaySteps as plays

-- the passing of a tag, if it completes a line
abbrev pub passing_of : (moment : ℕ) → Option Line → Option Passing
passing_of moment None = None
passing_of moment (Some line) = Some (record { line = line; moment = moment })

pub reverse-line : (moment : ℕ) (line : Option Line) (run : List Passing) →
    reverse (run ++ line_of moment line) ≡ with_line (passing_of moment line) (reverse run)
reverse-line moment None run = ap reverse (append-nil run)
reverse-line moment (Some line) run = reverse-append run ((record { line = line; moment = moment }) ∷ [])

pub report-push : (ps : List PassedTag) (t : Tag) (moment : ℕ) → report_of
    (ps ++ (record { tag = t; moment = moment }) ∷ []) ≡ report_of ps ++ line_of moment t.line
report-push ps t moment =
    flat_map-append (λ (x : PassedTag). line_of x.moment x.tag.line) ps ((record { tag = t; moment = moment }) ∷ [])
    ∙ ap (λ qs. report_of ps ++ qs) (append-nil (line_of moment t.line))

pub newest-push : (p : Play) (t : Tag) (moment : ℕ) → reverse
    (report_of (p.passed ++ (record { tag = t; moment = moment }) ∷ [])) ≡ with_line (passing_of moment t.line)
    (newest p)
newest-push p t moment = ap reverse (report-push p.passed t moment) ∙ reverse-line moment t.line (report_of p.passed)

pub each_fits-push : (fits : Passing → List Passing → Bool) (before run : List Passing) (q : Passing) →
    fits_behind fits before (run ++ q ∷ []) ≡ (fits_behind fits before run && fits q (reverse run ++ before))
each_fits-push fits before [] q = by_value (fits q before)
  where
    by_value : (c : Bool) → (c && true) ≡ (true && c)
    by_value true = refl
    by_value false = refl
each_fits-push fits before (p ∷ ps) q =
    ap (λ c. fits p before && c) (each_fits-push fits (p ∷ before) ps q)
    ∙ (regroup (fits p before) (fits_behind fits (p ∷ before) ps) (fits q (reverse ps ++ p ∷ before))
    ∙ ap (λ xs. (fits p before && fits_behind fits (p ∷ before) ps) && fits q xs)
    (sym (append_assoc (reverse ps) (p ∷ []) before) ∙ ap (λ ys. ys ++ before) (sym (reverse-append (p ∷ []) ps))))
  where
    regroup : (a b c : Bool) → (a && (b && c)) ≡ ((a && b) && c)
    regroup true b c = refl
    regroup false b c = refl

pub both : (a b : Bool) → a ≡ true → b ≡ true → (a && b) ≡ true
both true b e f = f
both false b e f = absurd (true≢false (sym e))

-- a line more, which fits behind the others
orderly-line : (routes : List (ℕ × ℕ)) (moment : ℕ) (line : Option Line) (run : List Passing) →
    is_orderly routes run ≡ true →
    ((l : Line) → line ≡ Some l → (is_in_order routes l (reverse run) && is_on_time routes
    (record { line = l; moment = moment }) (reverse run)) ≡ true) →
    is_orderly routes (run ++ line_of moment line) ≡ true
orderly-line routes moment None run known fits = ap (is_orderly routes) (append-nil run) ∙ known
orderly-line routes moment (Some l) run known fits =
    each_fits-push (λ p before. is_in_order routes p.line before && is_on_time routes p before) [] run
    (record { line = l; moment = moment })
    ∙ both _ _ known (ap (λ xs. is_in_order routes l xs && is_on_time routes (record { line = l; moment = moment }) xs)
    (append-nil (reverse run)) ∙ fits l refl)

pub bounded-line : (K : Key) (moment : ℕ) (line : Option Line) (before : List Passing) → Bounded K before →
    moment ≤ arrival_of K → ((l : Line) → line ≡ Some l → AtMost l.key K) →
    Bounded K (with_line (passing_of moment line) before)
bounded-line K moment None before known at within = known
bounded-line K moment (Some l) before known at within = record {
  keys = λ i z here. by_place i z here;
  moments = λ i z here. at_place i z here;
}
  where
    by_place : (i : ℕ) (z : Passing) → slice_get ((record { line = l; moment = moment }) ∷ before) i ≡ Some z →
        AtMost z.line.key K
    by_place zero z here = subst (λ (q : Passing). AtMost q.line.key K) (some_same here) (within l refl)
    by_place (suc i) z here = known.keys i z here

    at_place : (i : ℕ) (z : Passing) → slice_get ((record { line = l; moment = moment }) ∷ before) i ≡ Some z →
        z.moment ≤ arrival_of K
    at_place zero z here = subst (λ (q : Passing). q.moment ≤ arrival_of K) (some_same here) at
    at_place (suc i) z here = known.moments i z here

-- A tag passes at the greatest key's moment: where its key is below, a line of the greatest key had held it.
report-passes : (routes : List (ℕ × ℕ)) (p : Play) (t : Tag) (K : Key) → Bounded K (newest p) →
    is_orderly routes (report_of p.passed) ≡ true → LineFits t → AtMost t.key K →
    (is_below t.key K ≡ true → Stood (sharing routes) (newest p) t.source (λ y. y.key ≡ K)) →
    (is_orderly routes (report_of (p.passed ++ (record { tag = t; moment = arrival_of K }) ∷ [])) ≡ true) × Bounded K
    (reverse (report_of (p.passed ++ (record { tag = t; moment = arrival_of K }) ∷ [])))
report-passes routes p t K bounded orderly fits within held = (
  ap (is_orderly routes) (report-push p.passed t (arrival_of K))
      ∙ orderly-line routes (arrival_of K) t.line (report_of p.passed) orderly
      (λ l e. passes_in_order routes K (newest p) (record { line = l; moment = arrival_of K }) bounded refl
      (subst (λ k. AtMost k K) (sym (fits l e).1) within)
      (λ below. subst (λ s. Stood (sharing routes) (newest p) s (λ y. y.key ≡ K)) (sym (fits l e).0)
      (held (ap (λ k. is_below k K) (sym (fits l e).1) ∙ below)))),
  subst (Bounded K) (sym (newest-push p t (arrival_of K)))
      (bounded-line K (arrival_of K) t.line (newest p) bounded (omega arith)
      (λ l e. subst (λ k. AtMost k K) (sym (fits l e).1) within)),
)

-- where one link changes but not what it holds
held_kept : (links : List Link) (source : ℕ) (link : Link) (x : ℕ) → source < length links →
    link.held ≡ (link_at links source).held → (link_at (slice_set links source link) x).held ≡ (link_at links x).held
held_kept links source link x within same = ⊎_elim
    (λ (e : x ≡ source). subst (λ y. (link_at (slice_set links source link) y).held ≡ (link_at links y).held) (sym e)
    (ap (λ (l : Link). l.held) (link_at-set_same links source link within) ∙ same))
    (λ (apart : x ≢ source). ap (λ (l : Link). l.held) (link_at-set_other links source x link apart))
    (same_or_not x source)

-- the offered mark passes at once; its key is its link's present key
pub order-offered : (routes : List (ℕ × ℕ)) (m : Merger) (p : Play) (present : ℕ → Option Key) (stalled : ℕ → Bool)
    (K : Key) (q : Passed) (t : Tag) →
    Order routes m p present stalled K → m.offered ≡ Some q → p.offered ≡ Some t → q.source ≡ t.source →
    q.arrival ≡ t.key.moment → t.key.link ≡ t.source → q.source < length m.links →
    stalled t.source ≡ false → present t.source ≡ Some t.key → AtMost t.key K → LineFits t →
    (opens (link_of m q.source).is_open q.mark ≡ true → (link_of m q.source).held ≡ []) →
    ((link_of m q.source).is_open ≡ true → opens (link_of m q.source).is_open q.mark ≡ false →
    EndsBy q.source t.key (passing_of (arrival_of K) t.line)) →
    Order routes (record m {
      links = slice_set m.links q.source (after_pass (link_of m q.source) q.mark);
      offered = None;
    }) (offered_goes p t (arrival_of K)) present stalled K
order-offered routes m p present stalled K q t known is_q is_t own came key in_range free here not_above fits opening
    ending =
    let same : t.key ≡ record { moment = q.arrival; link = q.source } = λ i. record
    { moment = sym came i; link = (key ∙ sym own) i } in
    let passed = report-passes routes p t K known.bounded known.orderly fits not_above
    (λ below. late.offered_in_order (sharing routes) (run_of m present stalled K (newest p)) t.source t.key known.late
    free here below) in
    record {
      plays = plays.plays-offered m p q t (arrival_of K) known.plays in_range;
      turns = plays.in_turn-offered p t (arrival_of K) known.turns is_t;
      late = subst (λ ps. Lateness (sharing routes) (run_of
          (record m { links = slice_set m.links q.source (after_pass (link_of m q.source) q.mark); offered = None })
          present stalled K ps)) (sym (newest-push p t (arrival_of K)))
          (router_passes (sharing routes) m present stalled K (newest p) q (passing_of (arrival_of K) t.line) None
          known.late in_range
          (subst (λ (k : Key). present q.source ≡ Some k) same (ap present own ∙ here))
          (subst (λ (k : Key). AtMost k K) same not_above) opening
          (λ was now. subst (λ (k : Key). EndsBy q.source k (passing_of (arrival_of K) t.line)) same (ending was now)));
      within = λ x i k e. known.within x i k (ap (λ hs. slice_get (map (key_of x) hs) i)
          (sym (held_kept m.links q.source (after_pass (link_of m q.source) q.mark) x in_range refl)) ∙ e);
      bounded = passed.1;
      orderly = passed.0;
    }

-- a first held mark passes, where no open source that shares is there
pub order-head : (routes : List (ℕ × ℕ)) (m : Merger) (p : Play) (present : ℕ → Option Key)
    (stalled stalled_then : ℕ → Bool) (K : Key) (s : ℕ) (h : Held) (hs : List Held) (t : Tag) (rest : List Tag) →
    Order routes m p present stalled K → p.offered ≡ None → (link_of m s).held ≡ h ∷ hs → t.source ≡ s →
    p.held t.source ≡ t ∷ rest → h.arrival ≡ t.key.moment → t.key.link ≡ t.source →
    is_realtime_sign t.sign ≡ false →
    LineFits t → ((c : Key) → slice_get (map (key_of s) hs) 0 ≡ Some c → AtMost (key_of s h) c) →
    ((x : ℕ) → x ≢ s → stalled_then x ≡ stalled x) →
    ((link_of m s).is_open ≡ false → (o : ℕ) → (link_of m o).is_open ≡ true → sharing routes o s ≡ true → ⊥) →
    Order routes (record m { links = slice_set m.links s (after_head (link_of m s) h.mark) })
    (head_goes p t (arrival_of K)) present stalled_then K
order-head routes m p present stalled stalled_then K s h hs t rest known idle is own first came key calm fits sorted
    others may =
    let in_range : s < length m.links = in_range_of m.links s h hs is in
    let same : t.key ≡ key_of s h = λ i. record { moment = sym came i; link = (key ∙ own) i } in
    let not_above : AtMost (key_of s h) K = known.within s 0 (key_of s h)
    (ap (λ gs. slice_get (map (key_of s) gs) 0) is)
    in
    let passed = report-passes routes p t K known.bounded known.orderly fits
    (subst (λ k. AtMost k K) (sym same) not_above)
    (λ below. subst (λ x. Stood (sharing routes) (newest p) x (λ y. y.key ≡ K)) (sym own)
    (late.held_in_order (sharing routes) (run_of m present stalled K (newest p)) s (key_of s h) (map (key_of s) hs)
    known.late (ap (map (key_of s)) is) may
    (inl (key_of s h, ap (λ gs. slice_get (map (key_of s) gs) 0) is, ap (λ k. is_below k K) (sym same) ∙ below)))) in
    record {
      plays = subst (λ x. Plays (record m { links = slice_set m.links x (after_head (link_of m x) h.mark) })
          (head_goes p t (arrival_of K))) own
          (plays.plays-head m p h t (arrival_of K) known.plays (subst (λ x. x < length m.links) (sym own) in_range));
      turns = plays.in_turn-head p t rest (arrival_of K) known.turns idle first calm;
      late = subst (λ ps. Lateness (sharing routes) (run_of
          (record m { links = slice_set m.links s (after_head (link_of m s) h.mark) }) present stalled_then K ps))
          (sym (newest-push p t (arrival_of K)))
          (router_head (sharing routes) m present stalled stalled_then K (newest p) s h hs
          (passing_of (arrival_of K) t.line) known.late is sorted others may);
      within = λ x i k e. within_dropped x i k in_range e;
      bounded = passed.1;
      orderly = passed.0;
    }
  where
    in_range_of : (links : List Link) (x : ℕ) (g : Held) (gs : List Held) → (link_at links x).held ≡ g ∷ gs →
        x < length links
    in_range_of [] x g gs e = absurd (no_cons e)
      where
        no_cons : ◌≡◌ {A = List Held} [] (g ∷ gs) → ⊥
        no_cons e = cc
    in_range_of (l ∷ ls) zero g gs e = omega arith
    in_range_of (l ∷ ls) (suc x) g gs e = let below : x < length ls = in_range_of ls x g gs e in omega arith

    within_dropped : (x i : ℕ) (k : Key) → s < length m.links → slice_get
        (map (key_of x) (link_at (slice_set m.links s (after_head (link_of m s) h.mark)) x).held) i ≡ Some k →
        AtMost k K
    within_dropped x i k in_range e = ⊎_elim
        (λ (same : x ≡ s). known.within x (suc i) k (ap (λ y. slice_get (map (key_of x) (link_of m y).held) (suc i))
        same
        ∙ (ap (λ gs. slice_get (map (key_of x) gs) (suc i)) is
        ∙ (ap (λ gs. slice_get (map (key_of x) (drop 1 gs)) i) (sym is)
        ∙ (ap (λ (l : Link). slice_get (map (key_of x) l.held) i)
        (sym (link_at-set_same m.links s (after_head (link_of m s) h.mark) in_range))
        ∙ (ap (λ y. slice_get (map (key_of x) (link_at (slice_set m.links s (after_head (link_of m s) h.mark)) y).held)
        i) (sym same) ∙ e))))))
        (λ (apart : x ≢ s). known.within x i k (ap (λ (l : Link). slice_get (map (key_of x) l.held) i)
        (sym (link_at-set_other m.links s x (after_head (link_of m s) h.mark) apart)) ∙ e))
        (same_or_not x s)

-- the offered mark is held: its link isn't stalled, and its source is closed
pub order-takes : (routes : List (ℕ × ℕ)) (m : Merger) (p : Play) (present : ℕ → Option Key) (stalled : ℕ → Bool)
    (K : Key) (t : Tag) (mark : Mark) →
    Order routes m p present stalled K → m.offered ≡ None → p.offered ≡ None → t.source < length m.links →
    sign_of mark ≡ t.sign → t.key.link ≡ t.source →
    stalled t.source ≡ false → present t.source ≡ Some t.key → AtMost t.key K → (link_of m t.source).is_open ≡ false →
    is_realtime_sign t.sign ≡ false →
    Order routes (record {
      links = slice_set m.links t.source (taken (link_of m t.source) false t.key.moment mark);
      outs = m.outs;
      offered = None;
      draining = true;
    }) (takes p false t) present stalled K
order-takes routes m p present stalled K t mark known none idle in_range sign key free here not_above closed calm =
    let same : t.key ≡ record { moment = t.key.moment; link = t.source } = λ i. record
    { moment = t.key.moment; link = key i } in
    record {
      plays = plays.plays-takes m p t mark false known.plays in_range sign key;
      turns = plays.in_turn-takes p t false known.turns idle (λ e. absurd (true≢false (sym e))) (λ e. calm);
      late = router_takes (sharing routes) m present stalled K (newest p) t.source t.key.moment mark known.late in_range
          closed free (here ∙ ap (λ (k : Key). Some k) same) false refl;
      within = λ x i k e. within_more x i k e;
      bounded = known.bounded;
      orderly = known.orderly;
    }
  where
    now : Link
    now = taken (link_of m t.source) false t.key.moment mark

    last : (x : ℕ) (hs : List Held) (h : Held) (i : ℕ) (k : Key) →
        ((j : ℕ) (c : Key) → slice_get (map (key_of x) hs) j ≡ Some c → AtMost c K) → AtMost (key_of x h) K →
        slice_get (map (key_of x) (hs ++ h ∷ [])) i ≡ Some k → AtMost k K
    last x [] h zero k old new e = subst (λ c. AtMost c K) (some_same e) new
    last x [] h (suc i) k old new e = absurd (none≢some k e)
    last x (g ∷ gs) h zero k old new e = old 0 k e
    last x (g ∷ gs) h (suc i) k old new e = last x gs h i k (λ j c f. old (suc j) c f) new e

    here_key : AtMost (key_of t.source (record { arrival = t.key.moment; mark = mark })) K
    here_key = subst (λ (c : Key). AtMost c K) (λ i. record { moment = t.key.moment; link = key i }) not_above

    within_more : (x i : ℕ) (k : Key) → slice_get (map (key_of x)
        (link_at (slice_set m.links t.source (taken (link_of m t.source) false t.key.moment mark)) x).held) i ≡ Some k →
        AtMost k K
    within_more x i k e = ⊎_elim
        (λ (own : x ≡ t.source). last t.source (link_of m t.source).held
        (record { arrival = t.key.moment; mark = mark }) i k (known.within t.source) here_key
        (ap (λ (l : Link). slice_get (map (key_of t.source) l.held) i)
        (sym (link_at-set_same m.links t.source (taken (link_of m t.source) false t.key.moment mark) in_range))
        ∙ (ap (λ y. slice_get (map (key_of y) (link_at (slice_set m.links t.source
        (taken (link_of m t.source) false t.key.moment mark)) y).held) i) (sym own) ∙ e)))
        (λ (apart : x ≢ t.source). known.within x i k (ap (λ (l : Link). slice_get (map (key_of x) l.held) i)
        (sym (link_at-set_other m.links t.source x (taken (link_of m t.source) false t.key.moment mark) apart))
        ∙ e))
        (same_or_not x t.source)

-- the offered mark is to pass: nothing else changes yet
pub order-accepts : (routes : List (ℕ × ℕ)) (m : Merger) (p : Play) (present : ℕ → Option Key) (stalled : ℕ → Bool)
    (K : Key) (t : Tag) (mark : Mark) →
    Order routes m p present stalled K → p.offered ≡ None → t.source < length m.links → sign_of mark ≡ t.sign →
    t.key.link ≡ t.source →
    (is_realtime_sign t.sign ≡ false → p.held t.source ≡ []) →
    Order routes (record {
      links = slice_set m.links t.source (taken (link_of m t.source) true t.key.moment mark);
      outs = m.outs;
      offered = Some (record { source = t.source; arrival = t.key.moment; mark = mark });
      draining = true;
    }) (takes p true t) present stalled K
order-accepts routes m p present stalled K t mark known idle in_range sign key free = record {
  plays = plays.plays-takes m p t mark true known.plays in_range sign key;
  turns = plays.in_turn-takes p t true known.turns idle (λ e. free) (λ e. absurd (true≢false e));
  late = subst (Lateness (sharing routes)) (same_run (λ x. (link_of m x).is_open)
      (λ x. (link_at (slice_set m.links t.source (taken (link_of m t.source) true t.key.moment mark)) x).is_open)
      (λ x. map (key_of x) (link_of m x).held) (λ x. map (key_of x)
      (link_at (slice_set m.links t.source (taken (link_of m t.source) true t.key.moment mark)) x).held) present
      stalled K (newest p)
      (λ x. sym (open_kept m.links t.source (taken (link_of m t.source) true t.key.moment mark) x in_range refl))
      (λ x. ap (map (key_of x)) (sym (held_kept m.links t.source (taken (link_of m t.source) true t.key.moment mark) x
      in_range refl)))) known.late;
  within = λ x i k e. known.within x i k (ap (λ hs. slice_get (map (key_of x) hs) i)
      (sym (held_kept m.links t.source (taken (link_of m t.source) true t.key.moment mark) x in_range refl)) ∙ e);
  bounded = known.bounded;
  orderly = known.orderly;
}
  where
    open_kept : (links : List Link) (source : ℕ) (link : Link) (x : ℕ) → source < length links →
        link.is_open ≡ (link_at links source).is_open → (link_at (slice_set links source link) x).is_open ≡
        (link_at links x).is_open
    open_kept links source link x within same = ⊎_elim
        (λ (e : x ≡ source). subst (λ y. (link_at (slice_set links source link) y).is_open ≡ (link_at links y).is_open)
        (sym e) (ap (λ (l : Link). l.is_open) (link_at-set_same links source link within) ∙ same))
        (λ (apart : x ≢ source). ap (λ (l : Link). l.is_open) (link_at-set_other links source x link apart))
        (same_or_not x source)

-- a step begins at the least key of the links that aren't stalled
pub order-begins : (routes : List (ℕ × ℕ)) (m : Merger) (p : Play) (present : ℕ → Option Key) (stalled : ℕ → Bool)
    (K : Key) (i : ℕ) (k : Key) → Order routes m p present stalled K →
    Drained (sharing routes) (run_of m present stalled K (newest p)) →
    ((x : ℕ) (c : Key) → stalled x ≡ false → present x ≡ Some c → AtMost k c) →
    Order routes m p present stalled (if is_below K k then k else K)
order-begins routes m p present stalled K i k known drained least = record {
  plays = known.plays;
  turns = known.turns;
  late = late.begins (sharing routes) (run_of m present stalled K (newest p)) i k known.late drained least;
  within = λ x j c e. at_most_trans c K (if is_below K k then k else K) (known.within x j c e)
      (grows (is_below K k) refl);
  bounded = record {
    keys = λ j z e. at_most_trans z.line.key K (if is_below K k then k else K) (known.bounded.keys j z e)
        (grows (is_below K k) refl);
    moments = λ j z e. let at = known.bounded.moments j z e in let more = arrival_grows (is_below K k) refl in omega
        (arith, at, more);
  };
  orderly = known.orderly;
}
  where
    self : (a : Key) → AtMost a a
    self a = grind (arith, nat_tests)

    below_is : (a b : Key) → is_below a b ≡ true → AtMost a b
    below_is a b e = grind (arith, nat_tests)

    grows : (b : Bool) → is_below K k ≡ b → AtMost K (if b then k else K)
    grows true e = below_is K k e
    grows false e = self K

    arrival_below : (a b : Key) → is_below a b ≡ true → arrival_of a ≤ arrival_of b
    arrival_below a b e = let le : a.moment ≤ b.moment = grind (arith, nat_tests) in omega arith

    arrival_grows : (b : Bool) → is_below K k ≡ b → arrival_of K ≤ arrival_of (if b then k else K)
    arrival_grows true e = arrival_below K k e
    arrival_grows false e = omega arith

-- a step ends: the record is used up, or its link is stalled
pub order-ends : (routes : List (ℕ × ℕ)) (m : Merger) (p : Play) (present present_then : ℕ → Option Key)
    (stalled stalled_then : ℕ → Bool) (K : Key) (i : ℕ) (k : Key) → Order routes m p present stalled K →
    stalled i ≡ false → present i ≡ Some k → ((x : ℕ) → x ≢ i → (present_then x ≡ present x) ×
    (stalled_then x ≡ stalled x)) →
    ((c : Key) → present_then i ≡ Some c → AtMost k c) →
    ((link_of m i).is_open ≡ true → (c : Key) × (present_then i ≡ Some c)) →
    Order routes m p present_then stalled_then K
order-ends routes m p present present_then stalled stalled_then K i k known free here others later goes_on = record {
  plays = known.plays;
  turns = known.turns;
  late = late.ends (sharing routes) (run_of m present stalled K (newest p)) present_then stalled_then i k known.late
      free
      here others later goes_on;
  within = known.within;
  bounded = known.bounded;
  orderly = known.orderly;
}
