-- What a router does is an event of its run.
use Rattle.std.proofs.Common.{◌≡◌, ◌≢◌, ⊎_elim, ℕ, zero, suc, ◌<◌, Bool, true, false, Option, Some, None, List, [], ◌∷◌}
use Rattle.std.proofs.Common.{length, map, drop, refl, ap, sym, subst, ◌∙◌, arith}
use Rattle.std.specs.Prelude.{not, ◌&&◌, ◌==◌, slice_get, slice_set}
use Rattle.std.proofs.lemmas.Bool.Decides.{nat_tests}
use Rattle.std.proofs.lemmas.List.{map-append}
use Rattle.mb_message.specs.Signs.{sign_of, suits_sign}
use Rattle.mb_message.specs.declared.mark.Mark.{Mark}
use Rattle.mb_message.specs.declared.mark.Mark.TheVariants.{Short, Rt, Open, Byte, End, Abort}
use Rattle.mb_merge.specs.declared.source.Held.{Held}
use Rattle.mb_merge.specs.declared.router.Passed.{Passed}
use Rattle.mb_merge.specs.Links.{Link, Merger, link_at, link_of, share, is_owned}
use Rattle.mb_merge.specs.Passing.{may_pass, is_realtime_mark, opens, taken, after_pass, after_head}
use Rattle.mb_merge.specs.Calls.{IsSettled}
use Rattle.mb_merge.proofs.Flows.{link_at-set_same, link_at-set_other}
use Rattle.mb_merge.proofs.LinkLemmas.{is_owned_below-hit, is_owned_below-who, takes_from_is}
use Rattle.mb_rig.specs.Merging.Lines.{Key}
use Rattle.mb_rig.specs.Merging.Report.{Passing}
use Rattle.mb_rig.specs.Merging.Run.{Run, AtMost, Lateness, Drained}
use Rattle.mb_rig.specs.Merging.Routed.{key_of, run_of, Shares}
use Rattle.mb_rig.proofs.Merging.Lateness.{true≢false, same_or_not, true_or_not, with_line, EndsBy, takes}
use Rattle.mb_rig.proofs.Merging.Lateness.{passes_offered, passes_head}

and_left : (a b : Bool) → (a && b) ≡ true → a ≡ true
and_left true b e = refl
and_left false b e = absurd (true≢false (sym e))

and_right : (a b : Bool) → (a && b) ≡ true → b ≡ true
and_right true b e = e
and_right false b e = absurd (true≢false (sym e))

in_range_of : (links : List Link) (x : ℕ) (h : Held) (hs : List Held) → (link_at links x).held ≡ h ∷ hs →
    x < length links
in_range_of [] x h hs e = absurd (no_cons e)
  where
    no_cons : ◌≡◌ {A = List Held} [] (h ∷ hs) → ⊥
    no_cons e = cc
in_range_of (l ∷ ls) zero h hs e = omega arith
in_range_of (l ∷ ls) (suc x) h hs e = let below : x < length ls = in_range_of ls x h hs e in omega arith

-- two runs that tell the same of each source are one
pub same_run : (is_open is_open' : ℕ → Bool) (held held' : ℕ → List Key) (present : ℕ → Option Key) (stalled : ℕ → Bool)
    (greatest : Key) (report : List Passing) → ((x : ℕ) → is_open x ≡ is_open' x) → ((x : ℕ) → held x ≡ held' x)
    → ◌≡◌ {A = Run} (record {
      is_open = is_open;
      held = held;
      present = present;
      stalled = stalled;
      greatest = greatest;
      report = report;
    }) (record {
      is_open = is_open';
      held = held';
      present = present;
      stalled = stalled;
      greatest =
          greatest;
      report = report;
    })
same_run is_open is_open' held held' present stalled greatest report p q = λ i. record {
  is_open = λ x. p x i;
  held = λ x. q x i;
  present = present;
  stalled = stalled;
  greatest = greatest;
  report =
      report;
}

pub open_within : (links : List Link) (o : ℕ) → (link_at links o).is_open ≡ true → o < length links
open_within [] o e = absurd (true≢false (sym e))
open_within (l ∷ ls) zero e = omega arith
open_within (l ∷ ls) (suc o) e = let below : o < length ls = open_within ls o e in omega arith

-- a drained router
pub drained_of : (shares : ℕ → ℕ → Bool) (m : Merger) (present : ℕ → Option Key) (stalled : ℕ → Bool) (greatest : Key)
    (report : List Passing) → IsSettled m → Shares shares m
    → ((o : ℕ) → (link_of m o).is_open ≡ true → (stalled o ≡ false) × ((k : Key) × (present o ≡ Some k))) →
    ((x : ℕ) → stalled x ≡ true → (link_of m x).held ≢ [])
    → Drained shares (run_of m present stalled greatest report)
drained_of shares m present stalled greatest report settled same owners full = record {
  waits = λ x some. by_held x (link_of m x).held refl (λ none. some (ap (map (key_of x)) none));
  owners = λ o e. (ap (map (key_of o)) (settled.owners o (open_within m.links o e) e), (owners o e).0, (owners o e).1);
  stalled = λ x e none. by_none x (link_of m x).held refl (full x e) none;
}
  where
    by_none : (x : ℕ) (hs : List Held) → (link_of m x).held ≡ hs → ((link_of m x).held ≢ []) →
        map (key_of x) (link_of m x).held ≡ [] → ⊥
    by_none x [] e some none = some e
    by_none x (h ∷ hs) e some none = no_cons (sym (ap (map (key_of x)) e) ∙ none)
      where
        no_cons : map (key_of x) (h ∷ hs) ≡ [] → ⊥
        no_cons e = cc

    by_held : (x : ℕ) (hs : List Held) → (link_of m x).held ≡ hs → ((link_of m x).held ≢ []) →
        ((link_of m x).is_open ≡ false) × ((o : ℕ) × ((link_of m o).is_open ≡ true) × (shares o x ≡ true))
    by_held x [] e some = absurd (some e)
    by_held x (h ∷ hs) e some =
        let in_range : x < length m.links = in_range_of m.links x h hs e in
        let owner = is_owned_below-who m.links x (length m.links) (settled.waits_for x h hs in_range e) in
        let apart : owner.at ≢ x = owner.other in
        let differs : not (owner.at == x) ≡ true = grind (arith, nat_tests, apart) in (
          ⊎_elim (λ (now : (link_of m x).is_open ≡ true). absurd (some (settled.owners x in_range now))) (λ now. now)
              (true_or_not (link_of m x).is_open),
          (
            owner.at,
            and_left _ _ owner.owned,
            same owner.at x owner.below in_range
                ∙ (ap (λ b. b && share (link_of m owner.at).outs (link_of m x).outs) differs
                ∙ and_right _ _ owner.owned),
          ),
        )

-- a mark is held
pub router_takes : (shares : ℕ → ℕ → Bool) (m : Merger) (present : ℕ → Option Key) (stalled : ℕ → Bool) (greatest : Key)
    (report : List Passing) (s t : ℕ) (mark : Mark) → Lateness shares (run_of m present stalled greatest report)
    → s < length m.links → (link_of m s).is_open ≡ false → stalled s ≡ false →
    present s ≡ Some (record { moment = t; link = s }) → (b : Bool) → b ≡ false
    → Lateness shares (run_of (record {
      links = slice_set m.links s (taken (link_of m s) b t mark);
      outs = m.outs;
      offered = None;
      draining = true;
    }) present stalled greatest report)
router_takes shares m present stalled greatest report s t mark known in_range closed free here true e = absurd
    (true≢false e)
router_takes shares m present stalled greatest report s t mark known in_range closed free here false e =
    let now : Link = taken (link_of m s) false t mark in
    let held : ℕ → List Key = λ x. map (key_of x) (link_at (slice_set m.links s now) x).held in
    subst (Lateness shares) (same_run (λ x. (link_of m x).is_open) (λ x. (link_at (slice_set m.links s now) x).is_open)
    held held present stalled greatest report
    (λ x. ⊎_elim (λ (same : s ≡ x). subst (λ y. (link_of m y).is_open ≡ (link_at (slice_set m.links s now) y).is_open)
    same (sym (ap (λ (l : Link). l.is_open) (link_at-set_same m.links s now in_range))))
    (λ apart. sym (ap (λ (l : Link). l.is_open) (link_at-set_other m.links s x now (λ e. apart (sym e)))))
    (same_or_not s x)) (λ x. refl))
    (takes shares (run_of m present stalled greatest report) held s (record { moment = t; link = s }) known free here
    closed
    (ap (λ (l : Link). map (key_of s) l.held) (link_at-set_same m.links s now in_range)
    ∙ map-append (key_of s) (link_of m s).held (record { arrival = t; mark = mark } ∷ []))
    (λ x apart. ap (λ (l : Link). map (key_of x) l.held) (link_at-set_other m.links s x now apart)))

-- the mark just offered passes
pub router_passes : (shares : ℕ → ℕ → Bool) (m : Merger) (present : ℕ → Option Key) (stalled : ℕ → Bool)
    (greatest : Key) (report : List Passing) (p : Passed) (q : Option Passing) (offered : Option Passed) →
    Lateness shares (run_of m present stalled greatest report)
    → p.source < length m.links → present p.source ≡ Some (record { moment = p.arrival; link = p.source }) →
    AtMost (record { moment = p.arrival; link = p.source }) greatest
    → (opens (link_of m p.source).is_open p.mark ≡ true → (link_of m p.source).held ≡ [])
    → ((link_of m p.source).is_open ≡ true → opens (link_of m p.source).is_open p.mark ≡ false →
    EndsBy p.source (record { moment = p.arrival; link = p.source }) q)
    → Lateness shares (run_of (record m {
      links = slice_set m.links p.source (after_pass (link_of m p.source) p.mark);
      offered = offered;
    }) present stalled greatest (with_line q report))
router_passes shares m present stalled greatest report p q offered known in_range here not_above opening ending =
    let now : Link = after_pass (link_of m p.source) p.mark in
    let is : link_at (slice_set m.links p.source now) p.source ≡ now = link_at-set_same m.links p.source now in_range in
    let is_open : ℕ → Bool = λ x. (link_at (slice_set m.links p.source now) x).is_open in
    let held : ℕ → List Key = λ x. map (key_of x) (link_of m x).held in
    subst (Lateness shares) (same_run is_open is_open held
    (λ x. map (key_of x) (link_at (slice_set m.links p.source now) x).held) present stalled greatest
    (with_line q report) (λ x. refl)
    (λ x. ⊎_elim (λ (same : p.source ≡ x). subst (λ y. map (key_of y) (link_of m y).held ≡ map (key_of y)
    (link_at (slice_set m.links p.source now) y).held) same
    (sym (ap (λ (l : Link). map (key_of p.source) l.held) is)))
    (λ apart. sym (ap (λ (l : Link). map (key_of x) l.held)
    (link_at-set_other m.links p.source x now (λ e. apart (sym e))))) (same_or_not p.source x)))
    (passes_offered shares (run_of m present stalled greatest report) is_open q p.source
    (record { moment = p.arrival; link = p.source }) known here not_above
    (λ x apart. ap (λ (l : Link). l.is_open) (link_at-set_other m.links p.source x now apart))
    (λ e. ap (map (key_of p.source)) (opening (sym (ap (λ (l : Link). l.is_open) is) ∙ e)))
    (λ was e. ending was (sym (ap (λ (l : Link). l.is_open) is) ∙ e)))

-- where a head of a closed source may pass, no open source shares
pub no_owner : (shares : ℕ → ℕ → Bool) (m : Merger) (s : ℕ) (mark : Mark) → Shares shares m → s < length m.links →
    is_realtime_mark mark ≡ false → may_pass m.links s mark ≡ true → suits_sign (link_of m s).is_open
    (sign_of mark) ≡ true
    → (link_of m s).is_open ≡ false → (o : ℕ) → (link_of m o).is_open ≡ true → shares o s ≡ true → ⊥
no_owner shares m s mark same in_range calm may fit closed o open_o shared = by_mark mark calm may fit
  where
    not_same : (b : Bool) → (not b ≡ true) → b ≡ false
    not_same true e = absurd (true≢false (sym e))
    not_same false e = refl

    apart_of : (a c : Bool) → (not a && c) ≡ true → a ≡ false
    apart_of a c e = not_same a (and_left (not a) c e)

    pair : (not (o == s) && share (link_of m o).outs (link_of m s).outs) ≡ true
    pair = sym (same o s (open_within m.links o open_o) in_range) ∙ shared

    apart : o ≢ s
    apart e = let differs : (o == s) ≡ false = apart_of (o == s) (share (link_of m o).outs (link_of m s).outs) pair in
        grind (arith, nat_tests)

    owned : is_owned m.links s ≡ true
    owned = is_owned_below-hit m.links s o (length m.links) (open_within m.links o open_o)
        (takes_from_is m.links s o apart (ap (λ b. b && share (link_of m o).outs (link_of m s).outs) open_o
        ∙ and_right (not (o == s)) (share (link_of m o).outs (link_of m s).outs) pair))

    shut : (b c : Bool) → b ≡ false → (b && c) ≡ true → ⊥
    shut true c e f = true≢false e
    shut false c e f = true≢false (sym f)

    by_mark : (mark : Mark) → is_realtime_mark mark ≡ false → may_pass m.links s mark ≡ true →
        suits_sign (link_of m s).is_open (sign_of mark) ≡ true → ⊥
    by_mark (Short x) calm may fit = true≢false (sym owned ∙ not_same _ may)
    by_mark (Rt x) calm may fit = true≢false calm
    by_mark Open calm may fit = true≢false (sym owned ∙ not_same _ may)
    by_mark (Byte x) calm may fit = shut _ _ closed fit
    by_mark End calm may fit = true≢false (sym fit ∙ closed)
    by_mark Abort calm may fit = true≢false (sym fit ∙ closed)

-- a first held mark passes
pub router_head : (shares : ℕ → ℕ → Bool) (m : Merger) (present : ℕ → Option Key) (stalled stalled_then : ℕ → Bool)
    (greatest : Key) (report : List Passing) (s : ℕ) (h : Held) (hs : List Held) (q : Option Passing) →
    Lateness shares (run_of m present stalled greatest report)
    → (link_of m s).held ≡ h ∷ hs → ((c : Key) → slice_get (map (key_of s) hs) 0 ≡ Some c → AtMost (key_of s h) c) →
    ((x : ℕ) → x ≢ s → stalled_then x ≡ stalled x)
    → ((link_of m s).is_open ≡ false → (o : ℕ) → (link_of m o).is_open ≡ true → shares o s ≡ true → ⊥)
    → Lateness shares (run_of (record m { links = slice_set m.links s (after_head (link_of m s) h.mark) }) present
    stalled_then greatest (with_line q report))
router_head shares m present stalled stalled_then greatest report s h hs q known e sorted others may =
    let now : Link = after_head (link_of m s) h.mark in
    let is : link_at (slice_set m.links s now) s ≡ now = link_at-set_same m.links s now (in_range_of m.links s h hs e)
    in
    passes_head shares (run_of m present stalled greatest report) (λ x. (link_at (slice_set m.links s now) x).is_open)
    (λ x. map (key_of x) (link_at (slice_set m.links s now) x).held) stalled_then q s (key_of s h)
    (map (key_of s) hs) known
    (ap (map (key_of s)) e) (ap (λ (l : Link). map (key_of s) l.held) is ∙ ap (λ z. map (key_of s) (drop 1 z)) e) sorted
    (λ x apart. let other = link_at-set_other m.links s x now apart in
    (ap (λ (l : Link). map (key_of x) l.held) other, ap (λ (l : Link). l.is_open) other, others x apart))
    may
