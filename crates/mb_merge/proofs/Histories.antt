-- Over any list of calls: what was taken of a source is what has passed, and behind it what waits.
use Rattle.std.proofs.Common.{◌≡◌, ◌≢◌, ℕ, ◌<◌, ◌≤◌, ◌⊎◌, inl, inr, Bool, true, false, not, ◌&&◌, nat_lt, nat_le}
use Rattle.std.proofs.Common.{if◌then◌else◌, List, [], ◌∷◌, ◌++◌, length, map, drop, Option, Some, None, refl, sym, ◌∙◌}
use Rattle.std.proofs.Common.{ap, subst, arith, append-nil, append_assoc}
use Rattle.std.specs.Prelude.{slice_set, slice_get, filter}
use Rattle.std.specs.List.{range_with_len}
use Rattle.std.proofs.lemmas.Bool.Decides.{nat_tests}
use Rattle.std.proofs.lemmas.Option.{none-some}
use Rattle.std.proofs.lemmas.List.{map-append}
use Rattle.std.proofs.lemmas.List.Elements.{filter-append}
use Rattle.std.proofs.lemmas.List.{get_or_past}
use Rattle.std.proofs.lemmas.List.FromFn.{get_or-map-range_with_len, length-map-range_with_len}
use Rattle.mb_message.specs.Bytes.{is_data}
use Rattle.mb_merge.specs.Opening.{opened, outs_of}
use Rattle.mb_message.specs.declared.mark.Mark.{Mark}
use Rattle.mb_message.specs.declared.mark.Mark.TheVariants as mark
use Rattle.mb_message.specs.Signs.{sign_of, suits_sign}
use Rattle.mb_merge.specs.declared.source.Held.{Held}
use Rattle.mb_merge.specs.declared.router.Passed.{Passed}
use Rattle.mb_merge.specs.declared.waiting.Head.{Head}
use Rattle.mb_merge.specs.Links.{Link, Merger, HasSource, closed_link, link_at, link_of, with_link, is_owned}
use Rattle.mb_merge.specs.Passing.{has_room, is_realtime_mark, may_pass, ready_by, ready_head, least, passes_now, taken}
use Rattle.mb_merge.specs.Passing.{offered_mark, after_pass, after_head, drained, head_passes, held_passes}
use Rattle.mb_merge.specs.Passing.{offered_passes}
use Rattle.mb_merge.specs.Calls.{Call, Offer, Next, History, begins, may_offer, one, taken_in, passed_in, after_call}
use Rattle.mb_merge.specs.Calls.{after_calls, in_turn, at_once, waits, waiting, IsClosed, IsFresh, IsSettled, IsOrderly}
use Rattle.mb_merge.specs.Calls.{IsLeast}
use Rattle.mb_merge.proofs.LeastLemmas.{least-IsLeast, least_below-none}
use Rattle.mb_merge.proofs.Flows.{link_at-set_same, link_at-set_other, same_or_not, Suit, NoRealtime}
use Rattle.mb_merge.proofs.Fits.{not_true, same_number, other_number, Passes, passes-why, waits-why, offer_at}
use Rattle.mb_merge.proofs.Fits.{pass_offered, Turn, Fits, held_marks, fits-offer, fits-offered, fits-head}
use Rattle.mb_merge.proofs.Fits.{fits-drained}

-- one passed mark, if a test keeps it
abbrev kept : Bool → Passed → List Passed
kept true p = p ∷ []
kept false p = []

filter-one : (test : Passed → Bool) (p : Passed) (b : Bool) → test p ≡ b → filter test (p ∷ []) ≡ kept b p
filter-one test p true is = ap (λ t. if t then p ∷ [] else []) is
filter-one test p false is = ap (λ t. if t then p ∷ [] else []) is

turn-own : (p : Passed) (source : ℕ) (rt : Bool) → p.source ≡ source → is_realtime_mark p.mark ≡ rt →
    filter (in_turn source) (p ∷ []) ≡ kept (not rt) p
turn-own p source rt here is =
    filter-one (in_turn source) p (not rt) (ap (λ t. t && not (is_realtime_mark p.mark)) (same_number p.source source
    here) ∙ ap not is)

once-own : (p : Passed) (source : ℕ) (rt : Bool) → p.source ≡ source → is_realtime_mark p.mark ≡ rt →
    filter (at_once source) (p ∷ []) ≡ kept rt p
once-own p source rt here is =
    filter-one (at_once source) p rt (ap (λ t. t && is_realtime_mark p.mark) (same_number p.source source here) ∙ is)

turn-other : (p : Passed) (source : ℕ) → p.source ≢ source → filter (in_turn source) (p ∷ []) ≡ []
turn-other p source apart =
    filter-one (in_turn source) p false (ap (λ t. t && not (is_realtime_mark p.mark)) (other_number p.source source
    apart))

once-other : (p : Passed) (source : ℕ) → p.source ≢ source → filter (at_once source) (p ∷ []) ≡ []
once-other p source apart =
    filter-one (at_once source) p false (ap (λ t. t && is_realtime_mark p.mark) (other_number p.source source apart))

pub record Keeps (h : History) : Type 0 where
  pub fits : Fits h.now
  turns : (source : ℕ) → filter (in_turn source) h.taken ≡ filter (in_turn source) h.passed ++ waiting h.now source
  realtimes : (source : ℕ) → filter (at_once source) h.taken ≡ filter (at_once source) h.passed ++
      filter (at_once source) (one h.now.offered)

-- an offer

-- what waits of a source before an offer, and the mark offered, wait after it
abbrev pub taken_mark : (source moment : ℕ) → Mark → Passed
taken_mark source moment mk = record { source = source; arrival = moment; mark = mk }

waiting-own : (source moment : ℕ) (mk : Mark) (links : List Link) (link : Link) (passes : Bool) →
    (passes ≡ true → (is_realtime_mark mk ≡ true) ⊎ Passes links source mk link) →
    (passes ≡ false → is_realtime_mark mk ≡ false) →
    map (waits source) link.held ++ filter (in_turn source) (taken_mark source moment mk ∷ []) ≡
    filter (in_turn source) (one (offered_mark passes source moment mk)) ++
    map (waits source) (taken link passes moment mk).held
waiting-own source moment mk links link true why not_rt = by_case (why refl) where
  by_case : (is_realtime_mark mk ≡ true) ⊎ Passes links source mk link →
      map (waits source) link.held ++ filter (in_turn source) (taken_mark source moment mk ∷ []) ≡
      filter (in_turn source) (taken_mark source moment mk ∷ []) ++ map (waits source) link.held
  by_case (inl rt) =
      let none : filter (in_turn source) (taken_mark source moment mk ∷ []) ≡ [] =
      turn-own (taken_mark source moment mk) source true refl rt in
      ap (λ z. map (waits source) link.held ++ z) none ∙ (append-nil (map (waits source) link.held) ∙
      sym (ap (λ z. z ++ map (waits source) link.held) none))
  by_case (inr passes) =
      let none : map (waits source) link.held ≡ [] = ap (map (waits source)) passes.nothing in
      ap (λ z. z ++ filter (in_turn source) (taken_mark source moment mk ∷ [])) none ∙
      sym (ap (λ z. filter (in_turn source) (taken_mark source moment mk ∷ []) ++ z) none ∙
      append-nil (filter (in_turn source) (taken_mark source moment mk ∷ [])))
waiting-own source moment mk links link false why not_rt =
    ap (λ z. map (waits source) link.held ++ z) (turn-own (taken_mark source moment mk) source false refl (not_rt refl))
    ∙
    sym (map-append (waits source) link.held ((record { arrival = moment; mark = mk }) ∷ []))

offered-other : (source moment : ℕ) (mk : Mark) (passes : Bool) (other : ℕ) → other ≢ source →
    filter (in_turn other) (one (offered_mark passes source moment mk)) ≡ []
offered-other source moment mk true other apart = turn-other (taken_mark source moment mk) other (λ e. apart (sym e))
offered-other source moment mk false other apart = refl

waiting-offer : (m : Merger) (source moment : ℕ) (mk : Mark) (passes : Bool) (other : ℕ) → passes_now m source mk ≡
    passes → source < length m.links →
    map (waits other) (link_of m other).held ++ filter (in_turn other) (taken_mark source moment mk ∷ []) ≡
    waiting (offer_at m source moment mk passes) other
waiting-offer m source moment mk passes other is below = by_place (same_or_not other source) where
  by_place : (other ≡ source) ⊎ (other ≢ source) →
      map (waits other) (link_of m other).held ++ filter (in_turn other) (taken_mark source moment mk ∷ []) ≡
      waiting (offer_at m source moment mk passes) other
  by_place (inl same) =
      subst (λ k. map (waits k) (link_of m k).held ++ filter (in_turn k) (taken_mark source moment mk ∷ []) ≡
      waiting (offer_at m source moment mk passes) k) (sym same)
      (waiting-own source moment mk m.links (link_of m source) passes (λ h. passes-why m source mk (is ∙ h)) (λ h.
      waits-why m source mk (is ∙ h)) ∙
      ap (λ l. filter (in_turn source) (one (offered_mark passes source moment mk)) ++ map (waits source) l.held)
      (sym (link_at-set_same m.links source (taken (link_of m source) passes moment mk) below)))
  by_place (inr apart) =
      ap (λ z. map (waits other) (link_of m other).held ++ z) (turn-other (taken_mark source moment mk) other (λ e.
      apart (sym e))) ∙
      (append-nil (map (waits other) (link_of m other).held) ∙
      (ap (λ l. map (waits other) l.held) (sym (link_at-set_other m.links source other (taken (link_of m source) passes
      moment mk) apart)) ∙
      ap (λ z. z ++ map (waits other) (link_at (slice_set m.links source (taken (link_of m source) passes moment mk))
      other).held) (sym (offered-other source moment mk passes other apart))))

once-offer : (source moment : ℕ) (mk : Mark) (passes : Bool) (other : ℕ) →
    (passes ≡ false → is_realtime_mark mk ≡ false) →
    filter (at_once other) (taken_mark source moment mk ∷ []) ≡ filter (at_once other)
    (one (offered_mark passes source moment mk))
once-offer source moment mk true other not_rt = refl
once-offer source moment mk false other not_rt = by_place (same_or_not other source) where
  by_place : (other ≡ source) ⊎ (other ≢ source) → filter (at_once other) (taken_mark source moment mk ∷ []) ≡ []
  by_place (inl same) = once-own (taken_mark source moment mk) other false (sym same) (not_rt refl)
  by_place (inr apart) = once-other (taken_mark source moment mk) other (λ e. apart (sym e))

keeps-offer : (h : History) (source moment : ℕ) (mk : Mark) (passes : Bool) → passes_now h.now source mk ≡ passes →
    source < length h.now.links →
    suits_sign (link_of h.now source).in_sysex (sign_of mk) ≡ true → h.now.offered ≡ None → Keeps h →
    Keeps (record {
      taken = h.taken ++ taken_mark source moment mk ∷ [];
      passed = h.passed;
      now =
          offer_at h.now source moment mk passes;
    })
keeps-offer h source moment mk passes is below suits nothing k = record {
  fits = fits-offer h.now source moment mk passes is k.fits below suits nothing;
  turns = λ other.
      filter-append (in_turn other) h.taken (taken_mark source moment mk ∷ []) ∙
      (ap (λ z. z ++ filter (in_turn other) (taken_mark source moment mk ∷ [])) (k.turns other) ∙
      (append_assoc (filter (in_turn other) h.passed) (waiting h.now other)
      (filter (in_turn other) (taken_mark source moment mk ∷ [])) ∙
      ap (λ z. filter (in_turn other) h.passed ++ z)
      (ap (λ o. filter (in_turn other) (one o) ++ map (waits other) (link_of h.now other).held ++
      filter (in_turn other) (taken_mark source moment mk ∷ [])) nothing ∙
      waiting-offer h.now source moment mk passes other is below)));
  realtimes = λ other.
      filter-append (at_once other) h.taken (taken_mark source moment mk ∷ []) ∙
      (ap (λ z. z ++ filter (at_once other) (taken_mark source moment mk ∷ [])) (k.realtimes other) ∙
      (append_assoc (filter (at_once other) h.passed) (filter (at_once other) (one h.now.offered))
      (filter (at_once other) (taken_mark source moment mk ∷ [])) ∙
      ap (λ z. filter (at_once other) h.passed ++ z)
      (ap (λ o. filter (at_once other) (one o) ++ filter (at_once other) (taken_mark source moment mk ∷ [])) nothing ∙
      once-offer source moment mk passes other (λ e. waits-why h.now source mk (is ∙ e)))));
}

-- the mark just offered passes

held-pass : (m : Merger) (p : Passed) (other : ℕ) → p.source < length m.links →
    (link_of (pass_offered m p) other).held ≡ (link_of m other).held
held-pass m p other below = by_place (same_or_not other p.source) where
  by_place : (other ≡ p.source) ⊎ (other ≢ p.source) → (link_of (pass_offered m p) other).held ≡ (link_of m other).held
  by_place (inl same) =
      subst (λ k. (link_of (pass_offered m p) k).held ≡ (link_of m k).held) (sym same)
      (ap (λ l. l.held) (link_at-set_same m.links p.source (after_pass (link_of m p.source) p.mark) below))
  by_place (inr apart) = ap (λ l. l.held) (link_at-set_other m.links p.source other (after_pass (link_of m p.source)
      p.mark) apart)

keeps-offered : (h : History) (p : Passed) → h.now.offered ≡ Some p → Keeps h →
    Keeps (record { taken = h.taken; passed = h.passed ++ p ∷ []; now = pass_offered h.now p })
keeps-offered h p is k = record {
  fits = fits-offered h.now p is k.fits;
  turns = λ other.
      k.turns other ∙
      (ap (λ o. filter (in_turn other) h.passed ++ (filter (in_turn other) (one o) ++
      map (waits other) (link_of h.now other).held)) is ∙
      (sym (append_assoc (filter (in_turn other) h.passed) (filter (in_turn other) (p ∷ []))
      (map (waits other) (link_of h.now other).held)) ∙
      (ap (λ z. z ++ map (waits other) (link_of h.now other).held)
      (sym (filter-append (in_turn other) h.passed (p ∷ []))) ∙
      ap (λ z. filter (in_turn other) (h.passed ++ p ∷ []) ++ map (waits other) z)
      (sym (held-pass h.now p other below)))));
  realtimes = λ other.
      k.realtimes other ∙
      (ap (λ o. filter (at_once other) h.passed ++ filter (at_once other) (one o)) is ∙
      (sym (filter-append (at_once other) h.passed (p ∷ [])) ∙
      sym (append-nil (filter (at_once other) (h.passed ++ p ∷ [])))));
} where
  below : p.source < length h.now.links
  below = subst (HasSource h.now.links) is k.fits.source

-- a first held mark passes

waiting-head : (m : Merger) (source : ℕ) (hd : Held) (hs : List Held) (other : ℕ) → source < length m.links →
    (link_of m source).held ≡ hd ∷ hs → is_realtime_mark hd.mark ≡ false →
    map (waits other) (link_of m other).held ≡
    filter (in_turn other) (waits source hd ∷ []) ++ map (waits other)
    (link_of (with_link m source (after_head (link_of m source) hd.mark)) other).held
waiting-head m source hd hs other below is not_rt = by_place (same_or_not other source) where
  by_place : (other ≡ source) ⊎ (other ≢ source) →
      map (waits other) (link_of m other).held ≡
      filter (in_turn other) (waits source hd ∷ []) ++ map (waits other)
      (link_of (with_link m source (after_head (link_of m source) hd.mark)) other).held
  by_place (inl same) =
      subst (λ k. map (waits k) (link_of m k).held ≡ filter (in_turn k) (waits source hd ∷ []) ++
      map (waits k) (link_of (with_link m source (after_head (link_of m source) hd.mark)) k).held) (sym same)
      (ap (map (waits source)) is ∙
      sym (ap (λ z. z ++ map (waits source) (link_of (with_link m source (after_head (link_of m source) hd.mark))
      source).held) (turn-own (waits source hd) source false refl not_rt) ∙
      (ap (λ l. waits source hd ∷ map (waits source) l.held) (link_at-set_same m.links source
      (after_head (link_of m source) hd.mark) below) ∙
      ap (λ z. waits source hd ∷ map (waits source) (drop 1 z)) is)))
  by_place (inr apart) =
      ap (λ l. map (waits other) l.held) (sym (link_at-set_other m.links source other (after_head (link_of m source)
      hd.mark) apart)) ∙
      ap (λ z. z ++ map (waits other) (link_of (with_link m source (after_head (link_of m source) hd.mark)) other).held)
      (sym (turn-other (waits source hd) other (λ e. apart (sym e))))

once-head : (source : ℕ) (hd : Held) (other : ℕ) → is_realtime_mark hd.mark ≡ false →
    filter (at_once other) (waits source hd ∷ []) ≡ []
once-head source hd other not_rt = by_place (same_or_not other source) where
  by_place : (other ≡ source) ⊎ (other ≢ source) → filter (at_once other) (waits source hd ∷ []) ≡ []
  by_place (inl same) = once-own (waits source hd) other false (sym same) not_rt
  by_place (inr apart) = once-other (waits source hd) other (λ e. apart (sym e))

keeps-head : (h : History) (source : ℕ) (hd : Held) (hs : List Held) → h.now.offered ≡ None →
    source < length h.now.links → (link_of h.now source).held ≡ hd ∷ hs →
    may_pass h.now.links source hd.mark ≡ true → (h.now.draining ≡ false → ⊥) → Keeps h →
    Keeps (record {
      taken = h.taken;
      passed = h.passed ++ waits source hd ∷ [];
      now =
          with_link h.now source (after_head (link_of h.now source) hd.mark);
    })
keeps-head h source hd hs nothing below is may busy k = record {
  fits = fits-head h.now source hd hs nothing below is may busy k.fits;
  turns = λ other.
      k.turns other ∙
      (ap (λ z. filter (in_turn other) h.passed ++ (filter (in_turn other) (one h.now.offered) ++ z))
      (waiting-head h.now source hd hs other below is not_rt) ∙
      (ap (λ o. filter (in_turn other) h.passed ++ (filter (in_turn other) (one o) ++
      (filter (in_turn other) (waits source hd ∷ []) ++ rest other))) nothing ∙
      (sym (append_assoc (filter (in_turn other) h.passed) (filter (in_turn other) (waits source hd ∷ [])) (rest other))
      ∙
      (ap (λ z. z ++ rest other) (sym (filter-append (in_turn other) h.passed (waits source hd ∷ []))) ∙
      ap (λ o. filter (in_turn other) (h.passed ++ waits source hd ∷ []) ++ (filter (in_turn other) (one o) ++
      rest other)) (sym nothing)))));
  realtimes = λ other.
      k.realtimes other ∙
      ap (λ z. z ++ filter (at_once other) (one h.now.offered))
      (sym (filter-append (at_once other) h.passed (waits source hd ∷ []) ∙
      (ap (λ z. filter (at_once other) h.passed ++ z) (once-head source hd other not_rt) ∙
      append-nil (filter (at_once other) h.passed))));
} where
  not_rt : is_realtime_mark hd.mark ≡ false
  not_rt =
      let all : NoRealtime (hd ∷ hs) = subst NoRealtime is (k.fits.turn source).no_rt in
      all.0

  rest : ℕ → List Passed
  rest other = map (waits other) (link_of (with_link h.now source (after_head (link_of h.now source) hd.mark))
      other).held

-- nothing passes

keeps-none : (h : History) → h.now.offered ≡ None → least h.now.links ≡ None → Keeps h →
    Keeps (record { taken = h.taken; passed = h.passed ++ []; now = drained h.now })
keeps-none h nothing none k = record {
  fits = fits-drained h.now nothing none k.fits;
  turns = λ other. k.turns other ∙ ap (λ z. filter (in_turn other) z ++ waiting h.now other)
      (sym (append-nil h.passed));
  realtimes = λ other. k.realtimes other ∙ ap (λ z. filter (at_once other) z ++
      filter (at_once other) (one h.now.offered)) (sym (append-nil h.passed));
}

-- a call for the next mark

same_held : (a b : Held) → Some a ≡ Some b → a ≡ b
same_held a b h = cc

pub head_list : (xs : List Held) (x : Held) → slice_get xs 0 ≡ Some x → (rest : List Held) × (xs ≡ x ∷ rest)
head_list [] x is = absurd (none-some x is)
head_list (y ∷ ys) x is =
    let same : y ≡ x = same_held y x is in
    (ys, ap (λ z. z ∷ ys) same)

pub ready-may : (links : List Link) (source : ℕ) (hd : Held) (best : Head) → ready_by links source (Some hd) ≡
    Some best → may_pass links source hd.mark ≡ true
ready-may links source hd best is = by_test (may_pass links source hd.mark) is where
  by_test : (may : Bool) → (if may then Some (record { arrival = hd.arrival; source = source }) else None) ≡ Some best →
      may ≡ true
  by_test true h = refl
  by_test false h = absurd (none-some best h)

keeps-best : (h : History) (best : Head) → h.now.offered ≡ None → least h.now.links ≡ Some best → Keeps h →
    Keeps (passed_in h (held_passes h.now (Some best)))
keeps-best h best nothing is k =
    by_head (slice_get (link_of h.now best.source).held 0) refl (subst (IsLeast h.now.links) is
    (least-IsLeast h.now.links)) where
      by_head : (o : Option Held) → slice_get (link_of h.now best.source).held 0 ≡ o → IsLeast h.now.links (Some best) →
          Keeps (passed_in h (head_passes h.now best.source o))
      by_head None head_is first =
          absurd (none-some best (sym (ap (ready_by h.now.links best.source) head_is) ∙ first.0))
      by_head (Some hd) head_is first =
          let split = head_list (link_of h.now best.source).held hd head_is in
          keeps-head h best.source hd split.0 nothing first.1 split.1
          (ready-may h.now.links best.source hd best (sym (ap (ready_by h.now.links best.source) head_is) ∙ first.0))
          (λ quiet. none-some best (sym (k.fits.quiet quiet).1 ∙ is)) k

keeps-held : (h : History) (best : Option Head) → h.now.offered ≡ None → least h.now.links ≡ best → Keeps h →
    Keeps (passed_in h (held_passes h.now best))
keeps-held h None nothing is k = keeps-none h nothing is k
keeps-held h (Some best) nothing is k = keeps-best h best nothing is k

keeps-next : (h : History) (offered : Option Passed) → h.now.offered ≡ offered → Keeps h →
    Keeps (passed_in h (offered_passes h.now offered))
keeps-next h None is k = keeps-held h (least h.now.links) is refl k
keeps-next h (Some p) is k = keeps-offered h p is k

-- any calls

both : (a b : Bool) → (a && b) ≡ true → (a ≡ true) × (b ≡ true)
both true b h = (refl, h)
both false b h = absurd (not_true (sym h))

below-true : (a b : ℕ) → nat_lt a b ≡ true → a < b
below-true a b h = grind (arith, nat_tests)

not-true : (b : Bool) → not b ≡ true → b ≡ false
not-true true h = sym h
not-true false h = refl

-- a mark that may be offered is of a source that there is
pub offer_source : (m : Merger) (source moment : ℕ) (mk : Mark) → may_offer m source moment mk ≡ true →
    source < length m.links
offer_source m source moment mk may =
    below-true source (length m.links)
    (both (nat_lt source (length m.links)) (suits_sign (link_of m source).in_sysex (sign_of mk) &&
    (nat_le (link_of m source).last moment && (not m.draining && has_room m source mk))) may).0

pub keeps-call : (h : History) (call : Call) → Keeps h → Keeps (after_call h call)
keeps-call h Next k = keeps-next h h.now.offered refl k
keeps-call h (Offer source moment mk) k = by_test (may_offer h.now source moment mk) refl where
  offered : may_offer h.now source moment mk ≡ true → Keeps (taken_in h source moment mk)
  offered may =
      let first = both (nat_lt source (length h.now.links)) (suits_sign (link_of h.now source).in_sysex (sign_of mk) &&
      (nat_le (link_of h.now source).last moment && (not h.now.draining && has_room h.now source mk))) may in
      let second = both (suits_sign (link_of h.now source).in_sysex (sign_of mk)) (nat_le (link_of h.now source).last
      moment && (not h.now.draining && has_room h.now source mk)) first.1 in
      let third = both (nat_le (link_of h.now source).last moment) (not h.now.draining && has_room h.now source mk)
      second.1 in
      let fourth = both (not h.now.draining) (has_room h.now source mk) third.1 in
      keeps-offer h source moment mk (passes_now h.now source mk) refl (below-true source (length h.now.links) first.0)
      second.0
      (k.fits.quiet (not-true h.now.draining fourth.0)).0 k

  by_test : (may : Bool) → may_offer h.now source moment mk ≡ may → Keeps (if may then taken_in h source moment mk else
      h)
  by_test true may = offered may
  by_test false may = k

keeps-calls : (h : History) (calls : List Call) → Keeps h → Keeps (after_calls h calls)
keeps-calls h [] k = k
keeps-calls h (call ∷ calls) k = keeps-calls (after_call h call) calls (keeps-call h call k)

pub keeps-begins : (m : Merger) → IsFresh m → Keeps (begins m)
keeps-begins m fresh = record {
  fits = record {
    turn = λ source. subst (λ o. Turn o source (link_of m source)) (sym fresh.nothing) (record {
      suit = subst (λ z. Suit (link_of m source).is_open (held_marks z) (link_of m source).in_sysex)
          (sym (fresh.closed source).nothing)
          ((fresh.closed source).not_open ∙ sym (fresh.closed source).outside);
      no_rt = subst NoRealtime (sym (fresh.closed source).nothing) tt;
    });
    source = subst (HasSource m.links) (sym fresh.nothing) tt;
    free = λ p offered not_rt. absurd (none-some p (sym fresh.nothing ∙ offered));
    exclusive = record {
      apart = λ i j i_below j_below different i_open j_open.
          absurd (not_true (sym i_open ∙ (fresh.closed i).not_open));
    };
    quiet = λ h. (
      fresh.nothing,
      least_below-none m.links (length m.links) (λ source below.
          (fresh.closed source).nothing),
    );
  };
  turns = λ source. sym
      (ap (λ o. filter (in_turn source) (one o) ++ map (waits source) (link_of m source).held) fresh.nothing ∙
      ap (map (waits source)) (fresh.closed source).nothing);
  realtimes = λ source. sym (ap (λ o. filter (at_once source) (one o)) fresh.nothing);
}

-- what a drained router holds

not-false : (b : Bool) → not b ≡ false → b ≡ true
not-false true h = refl
not-false false h = sym h

-- a first held mark that may not pass is a short message or a start, whose source isn't open, and waits for another
waits-other : (links : List Link) (source : ℕ) (mk : Mark) → is_realtime_mark mk ≡ false →
    suits_sign (link_at links source).is_open (sign_of mk) ≡ true → may_pass links source mk ≡ false →
    (is_owned links source ≡ true) × ((link_at links source).is_open ≡ false)
waits-other links source (mark.Rt r) not_rt suits may = absurd (not_true not_rt)
waits-other links source (mark.Short s) not_rt suits may = (
  not-false (is_owned links source) may,
  not-true (link_at links source).is_open suits,
)
waits-other links source mark.Open not_rt suits may = (
  not-false (is_owned links source) may,
  not-true (link_at links source).is_open suits,
)
waits-other links source (mark.Byte b) not_rt suits may = absurd
    (not_true (sym (both (link_at links source).is_open (is_data b) suits).0 ∙ may))
waits-other links source mark.End not_rt suits may = absurd (not_true (sym suits ∙ may))
waits-other links source mark.Abort not_rt suits may = absurd (not_true (sym suits ∙ may))

not-ready : (links : List Link) (source : ℕ) (hd : Held) → ready_by links source (Some hd) ≡ None →
    may_pass links source hd.mark ≡ false
not-ready links source hd is = by_test (may_pass links source hd.mark) (record {
  arrival = hd.arrival;
  source =
      source;
}) is where
  by_test : (may : Bool) (head : Head) → (if may then Some head else None) ≡ None → may ≡ false
  by_test true head h = absurd (none-some head (sym h))
  by_test false head h = refl

pub head-suits : (m : Merger) (source : ℕ) (hd : Held) (hs : List Held) → Fits m → m.offered ≡ None →
    (link_of m source).held ≡ hd ∷ hs →
    suits_sign (link_of m source).is_open (sign_of hd.mark) ≡ true
head-suits m source hd hs f nothing is =
    let t : Turn None source (link_of m source) = subst (λ o. Turn o source (link_of m source)) nothing
    (f.turn source) in
    let all : Suit (link_of m source).is_open (hd.mark ∷ held_marks hs) (link_of m source).in_sysex =
    subst (λ z. Suit (link_of m source).is_open (held_marks z) (link_of m source).in_sysex) is t.suit in
    all.0

head-waits : (m : Merger) (source : ℕ) (hd : Held) (hs : List Held) → Fits m → m.draining ≡ false →
    source < length m.links → (link_of m source).held ≡ hd ∷ hs →
    (is_owned m.links source ≡ true) × ((link_of m source).is_open ≡ false)
head-waits m source hd hs f quiet below is =
    let nothing : m.offered ≡ None = (f.quiet quiet).0 in
    let none : ready_head m.links source ≡ None = (subst (IsLeast m.links) (f.quiet quiet).1 (least-IsLeast m.links))
    source below in
    let not_rt : NoRealtime (hd ∷ hs) = subst NoRealtime is (f.turn source).no_rt in
    waits-other m.links source hd.mark not_rt.0 (head-suits m source hd hs f nothing is)
    (not-ready m.links source hd (sym (ap (λ z. ready_by m.links source (slice_get z 0)) is) ∙ none))

owner-holds : (m : Merger) (source : ℕ) (held : List Held) → Fits m → m.draining ≡ false → source < length m.links →
    (link_of m source).held ≡ held → (link_of m source).is_open ≡ true → held ≡ []
owner-holds m source [] f quiet below is opened = refl
owner-holds m source (hd ∷ hs) f quiet below is opened = absurd (not_true (sym opened ∙
    (head-waits m source hd hs f quiet below is).1))

settled : (m : Merger) → Fits m → m.draining ≡ false → IsSettled m
settled m f quiet = record {
  owners = λ source below opened. owner-holds m source (link_of m source).held f quiet below refl opened;
  waits_for = λ source hd hs below is. (head-waits m source hd hs f quiet below is).0;
}

pub orderly : (m : Merger) (calls : List Call) → IsFresh m → IsOrderly (after_calls (begins m) calls)
orderly m calls fresh =
    let k : Keeps (after_calls (begins m) calls) = keeps-calls (begins m) calls (keeps-begins m fresh) in
    record {
      turns = k.turns;
      realtimes = k.realtimes;
      exclusive = k.fits.exclusive;
      idle = λ quiet. (k.fits.quiet quiet).0;
      settled = settled (after_calls (begins m) calls).now k.fits;
      heads_suit = λ nothing source hd hs below is. head-suits (after_calls (begins m) calls).now source hd hs k.fits
          nothing is;
    }

-- a router as it is opened

closed-at : (f : ℕ → List Bool) (n source : ℕ) → IsClosed (link_at (map (λ s. closed_link (f s)) (range_with_len 0 n))
    source)
closed-at f n source = by_place (below_or_not source n) where
  below_or_not : (a b : ℕ) → (a < b) ⊎ (b ≤ a)
  below_or_not a b = grind arith

  by_place : (source < n) ⊎ (n ≤ source) → IsClosed (link_at (map (λ s. closed_link (f s)) (range_with_len 0 n)) source)
  by_place (inl below) =
      subst IsClosed (sym (get_or-map-range_with_len (λ s. closed_link (f s)) 0 n source source (closed_link []) below
      (omega arith)))
      (record { not_open = refl; outside = refl; nothing = refl })
  by_place (inr past) =
      subst IsClosed (sym (get_or_past (map (λ s. closed_link (f s)) (range_with_len 0 n)) source (closed_link [])
      (omega (arith, length-map-range_with_len (λ s. closed_link (f s)) 0 n))))
      (record { not_open = refl; outside = refl; nothing = refl })

pub opened-IsFresh : (sources outs : ℕ) (routes : List (ℕ × ℕ)) → IsFresh (opened sources outs routes)
opened-IsFresh sources outs routes = record {
  drained = refl;
  nothing = refl;
  closed = λ source. closed-at (λ s. outs_of s routes) sources source;
}
