-- A run starts, a step begins, and it ends: the course goes on.
use Rattle.std.proofs.Common.{◌≡◌, ◌≢◌, ◌⊎◌, inl, inr, ⊎_elim, ℕ, ◌<◌, ◌≤◌, Bool, true, false, List, []}
use Rattle.std.proofs.Common.{length, map, Option, Some, None, refl, ap, sym, subst, ◌∙◌, arith}
use Rattle.std.specs.Prelude.{◌&&◌, ◌||◌, ◌==◌, nat_lt, if◌then◌else◌, slice_get}
use Rattle.std.specs.List.{range_with_len}
use Rattle.std.proofs.lemmas.Bool.Decides.{nat_tests}
use Rattle.std.proofs.lemmas.List.{get_or_past}
use Rattle.std.proofs.lemmas.List.FromFn.{get_or-map-range_with_len, length-map-range_with_len}
use Rattle.mb_stream.specs.Puts.{signs_in}
use Rattle.mb_stream.specs.Standing.{is_open}
use Rattle.mb_merge.specs.Links.{Link, Merger, closed_link, link_at, link_of}
use Rattle.mb_merge.specs.Opening.{opened, outs_of}
use Rattle.mb_merge.specs.Calls.{IsClosed}
use Rattle.mb_merge.proofs.Fits.{Fits}
use Rattle.mb_merge.proofs.Histories.{opened-IsFresh}
use Rattle.mb_rig.specs.RigText.{Setup}
use Rattle.mb_rig.specs.Merging.Lines.{Key, arrival_of, is_below, no_key}
use Rattle.mb_rig.specs.Merging.Run.{AtMost, IsLate}
use Rattle.mb_rig.specs.Merging.Routed.{key_of, open_of, run_of}
use Rattle.mb_rig.specs.Merging.Playing.{AreHeld, Play, begins_play}
use Rattle.mb_rig.specs.Merging.Course.{Links, Course, IsNextKey, IsLeastKey, at_link, greater, renews, stalls}
use Rattle.mb_rig.specs.Merging.Course.{AreOfLinks, AreSorted, first_links, goes_out, start_of}
use Rattle.mb_rig.proofs.Merging.Lateness.{true≢false, none≢some, some_same, same_or_not}
use Rattle.mb_rig.proofs.Merging.OrderSteps.{order-begins, order-ends}
use Rattle.mb_rig.proofs.Merging.Reached.{reached-fits, reached-settled}
use Rattle.mb_rig.proofs.Merging.PlaySteps.{in_turn-begins}
use Rattle.mb_rig.proofs.Merging.OwnerLemmas.{outs-begin}
use Rattle.mb_rig.proofs.Merging.Given.{here-same, elsewhere, rises-later}
use Rattle.mb_rig.proofs.Merging.CourseMarks.{no-offer, nothing-held}
use Rattle.mb_rig.proofs.Merging.Offers.{course-drained, open-within}

idle_of : (s : Setup) (m : Merger) (links : Links) (K : Key) (play : Play) → Course s m links K play →
    m.draining ≡ false → play.offered ≡ None
idle_of s m links K play course quiet = no-offer m.offered play.offered course.order.plays.offered
    ((reached-fits s m course.reached).quiet quiet).0

-- a step begins at the least key of the links that aren't stalled
pub course-begins : (s : Setup) (m : Merger) (links : Links) (K : Key) (play : Play) (k : Key) →
    Course s m links K play →
    m.draining ≡ false → IsLeastKey links k → Course s m links (greater K k) play
course-begins s m links K play k course quiet least = record {
  reached = course.reached;
  order = order-begins s.routes m play links.present links.stalled K 0 k course.order
      (course-drained s m links K play course quiet) least;
  realtimes = course.realtimes;
  places = course.places;
  outs = course.outs;
  rises = rises-later 0 (arrival_of K) (arrival_of (greater K k)) play.passed course.rises (grows (is_below K k) refl);
  held_tags = course.held_tags;
  passed_tags = course.passed_tags;
  sources = course.sources;
  taken = course.taken;
  sorted = course.sorted;
  full = course.full;
  sysex = course.sysex;
  over = course.over;
  in_time = course.in_time;
  offering = λ u e. absurd (none≢some u (sym (idle_of s m links K play course quiet) ∙ e));
}
  where
    later : (a b : Key) → is_below a b ≡ true → arrival_of a ≤ arrival_of b
    later a b e = let le : a.moment ≤ b.moment = grind (arith, nat_tests) in omega arith

    grows : (c : Bool) → is_below K k ≡ c → arrival_of K ≤ arrival_of (if c then k else K)
    grows true e = later K k e
    grows false e = omega arith

-- a link's record is used up
pub course-renews : (s : Setup) (m : Merger) (links : Links) (K : Key) (play : Play) (x : ℕ) (k : Key)
    (next : Option Key) →
    Course s m links K play → m.draining ≡ false → links.stalled x ≡ false → links.present x ≡ Some k →
    IsNextKey links x k next → Course s m (renews links x next) K play
course-renews s m links K play x k next course quiet free here is = record {
  reached = course.reached;
  order = order-ends s.routes m play links.present (at_link links.present x next) links.stalled links.stalled K x k
      course.order free here (λ y apart. (elsewhere links.present x next y apart, refl))
      (λ c e. (is.later c (sym (here-same links.present x next) ∙ e)).0) (λ e. goes_on next refl e);
  realtimes = course.realtimes;
  places = course.places;
  outs = course.outs;
  rises = course.rises;
  held_tags = course.held_tags;
  passed_tags = course.passed_tags;
  sources = course.sources;
  taken = course.taken;
  sorted = course.sorted;
  full = course.full;
  sysex = course.sysex;
  over = λ y none. ⊎_elim
      (λ (e : y ≡ x). subst (λ z. is_open (signs_in (links.given z)) ≡ false) (sym e)
      (is.closed (sym (here-same links.present x next) ∙ (ap (at_link links.present x next) (sym e) ∙ none))))
      (λ (apart : y ≢ x). course.over y (sym (elsewhere links.present x next y apart) ∙ none))
      (same_or_not y x);
  in_time = λ y c e. ⊎_elim
      (λ (same : y ≡ x). subst (λ z. ((link_of m z).last ≤ c.moment) × (c.link ≡ z)) (sym same)
      (new_time c (sym (here-same links.present x next) ∙ (ap (at_link links.present x next) (sym same) ∙ e))))
      (λ (apart : y ≢ x). course.in_time y c (sym (elsewhere links.present x next y apart) ∙ e))
      (same_or_not y x);
  offering = λ u e. absurd (none≢some u (sym (idle_of s m links K play course quiet) ∙ e));
}
  where
    fits : Fits m
    fits = reached-fits s m course.reached

    goes_on : (o : Option Key) → next ≡ o → (link_of m x).is_open ≡ true →
        (c : Key) × (at_link links.present x next x ≡ Some c)
    goes_on (Some c) e opened = (c, here-same links.present x next ∙ e)
    goes_on None e opened =
        let none : (link_of m x).held ≡ [] =
        (reached-settled s m course.reached quiet).owners x (open-within m.links x opened) opened in
        absurd (true≢false (sym opened ∙ (nothing-held m x fits (fits.quiet quiet).0 none
        ∙ (course.sysex x ∙ is.closed e))))

    later : (a b c d l : ℕ) → l ≤ a → c ≡ d → (nat_lt b a || ((b == a) && nat_lt d c)) ≡ false → l ≤ b
    later a b c d l at same not_below = let le : a ≤ b = grind (arith, nat_tests) in omega (arith, le, at)

    new_time : (c : Key) → next ≡ Some c → ((link_of m x).last ≤ c.moment) × (c.link ≡ x)
    new_time c e =
        let old = course.in_time x k here in
        let new = is.later c e in
        (later k.moment c.moment k.link c.link (link_of m x).last old.0 (old.1 ∙ sym new.1) new.0, new.1)

-- a link is stalled: its ring is full
pub course-stalls : (s : Setup) (m : Merger) (links : Links) (K : Key) (play : Play) (x : ℕ) (k : Key) →
    Course s m links K play → m.draining ≡ false → links.stalled x ≡ false → links.present x ≡ Some k →
    1024 ≤ length (link_of m x).held → Course s m (stalls links x) K play
course-stalls s m links K play x k course quiet free here many = record {
  reached = course.reached;
  order = order-ends s.routes m play links.present links.present links.stalled (at_link links.stalled x true) K x k
      course.order free here (λ y apart. (refl, elsewhere links.stalled x true y apart))
      (λ c e. subst (AtMost k) (some_same (sym here ∙ e)) (self k)) (λ e. (k, here));
  realtimes = course.realtimes;
  places = course.places;
  outs = course.outs;
  rises = course.rises;
  held_tags = course.held_tags;
  passed_tags = course.passed_tags;
  sources = course.sources;
  taken = course.taken;
  sorted = course.sorted;
  full = λ y e. ⊎_elim
      (λ (same : y ≡ x). subst (λ z. 1024 ≤ length (link_of m z).held) (sym same) many)
      (λ (apart : y ≢ x). course.full y (sym (elsewhere links.stalled x true y apart) ∙ e))
      (same_or_not y x);
  sysex = course.sysex;
  over = course.over;
  in_time = course.in_time;
  offering = λ u e. absurd (none≢some u (sym (idle_of s m links K play course quiet) ∙ e));
}
  where
    self : (a : Key) → AtMost a a
    self a = grind (arith, nat_tests)

-- The run starts: nothing was read but the links' first headers.

empty-link : (f : ℕ → List Bool) (n source : ℕ) →
    (link_at (map (λ x. closed_link (f x)) (range_with_len 0 n)) source).last ≡ 0
empty-link f n source = by_place (below_or_not source n) where
  below_or_not : (a b : ℕ) → (a < b) ⊎ (b ≤ a)
  below_or_not a b = grind arith

  by_place : (source < n) ⊎ (n ≤ source) → (link_at (map (λ x. closed_link (f x)) (range_with_len 0 n)) source).last ≡ 0
  by_place (inl below) = ap (λ (l : Link). l.last)
      (get_or-map-range_with_len (λ x. closed_link (f x)) 0 n source source (closed_link []) below (omega arith))
  by_place (inr past) = ap (λ (l : Link). l.last)
      (get_or_past (map (λ x. closed_link (f x)) (range_with_len 0 n)) source (closed_link [])
      (omega (arith, length-map-range_with_len (λ x. closed_link (f x)) 0 n)))

pub course-starts : (s : Setup) (present : ℕ → Option Key) → AreOfLinks present →
    Course s (start_of s) (first_links present) (no_key 0) begins_play
course-starts s present own = record {
  reached = record { calls = []; now = refl };
  order = record {
    plays = record { held = λ x. no-held x; offered = tt };
    turns = in_turn-begins;
    late = record {
      late = λ x late. absurd (not-late x late);
      on_time = λ x free p. absurd (not-below p.0 p.2);
    };
    within = λ x i k e. absurd (none≢some k (sym (ap (λ hs. slice_get (map (key_of x) hs) i) (closed x).nothing) ∙ e));
    bounded = record {
      keys = λ i z e. absurd (none≢some z e);
      moments = λ i z e. absurd (none≢some z e);
    };
    orderly = refl;
  };
  realtimes = record {
    overtaken = λ x j n i p e at. absurd (none≢some n e);
    merged = refl;
  };
  places = record {
    below = λ k z e. absurd (none≢some z e);
    held = λ x j n e. absurd (none≢some n e);
    rising = λ x. tt;
    apart = λ x j n k z e. absurd (none≢some n e);
  };
  outs = outs-begin (goes_out s) (open_of (start_of s)) (λ x. (closed x).not_open);
  rises = omega arith;
  held_tags = λ x. tt;
  passed_tags = tt;
  sources = tt;
  taken = λ x. refl;
  sorted = λ x. subst (λ hs. AreSorted hs (link_of (start_of s) x).last) (sym (closed x).nothing) tt;
  full = λ x e. absurd (true≢false (sym e));
  sysex = λ x. (closed x).outside;
  over = λ x e. refl;
  in_time = λ x k e. (
    subst (λ n. n ≤ k.moment) (sym (empty-link (λ y. outs_of y s.routes) (length s.ins) x)) (omega arith),
    own x k e,
  );
  offering = λ t e. absurd (none≢some t e);
}
  where
    closed : (x : ℕ) → IsClosed (link_of (start_of s) x)
    closed x = (opened-IsFresh (length s.ins) (length s.outs) s.routes).closed x

    no-held : (x : ℕ) → AreHeld x (link_of (start_of s) x).held []
    no-held x = subst (λ hs. AreHeld x hs []) (sym (closed x).nothing) tt

    not-below : (k : Key) → is_below k (no_key 0) ≡ true → ⊥
    not-below k e = true≢false (sym e ∙ above k.moment k.link)
      where
        above : (a b : ℕ) → (nat_lt a 0 || ((a == 0) && nat_lt b 0)) ≡ false
        above a b = grind (arith, nat_tests)

    not-late : (x : ℕ) → IsLate (run_of (start_of s) present (λ y. false) (no_key 0) []) x → ⊥
    not-late x (inl h) = not-below h.0 h.2
    not-late x (inr p) = not-below p.0 p.2
