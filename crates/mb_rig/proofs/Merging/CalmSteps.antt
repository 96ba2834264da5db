-- Each event of a run in which no link was ever stalled keeps it calm.
use Rattle.std.proofs.Common.{◌≡◌, ◌≢◌, ◌⊎◌, inl, inr, ⊎_elim, ℕ, ◌<◌, Bool, true, false, List, [], ◌∷◌, length}
use Rattle.std.proofs.Common.{map}
use Rattle.std.proofs.Common.{Option, Some, None, refl, ap, sym, subst, ◌∙◌, arith}
use Rattle.std.specs.Prelude.{not, ◌&&◌, ◌||◌, ◌==◌, nat_lt, if◌then◌else◌, slice_get, slice_set}
use Rattle.std.proofs.lemmas.Bool.Decides.{nat_tests}
use Rattle.mb_message.specs.declared.mark.Mark.{Mark}
use Rattle.mb_message.specs.declared.mark.Mark.TheVariants.{Short, Rt, Open, Byte, End, Abort}
use Rattle.mb_message.specs.Signs.{sign_of, suits_sign, EndSign}
use Rattle.mb_merge.specs.declared.source.Held.{Held}
use Rattle.mb_merge.specs.declared.router.Passed.{Passed}
use Rattle.mb_merge.specs.Links.{Merger, HasSource, link_of, is_owned, share}
use Rattle.mb_merge.specs.Passing.{is_realtime_mark, may_pass, opens, passes_now, offered_in, after_pass, after_head}
use Rattle.mb_merge.specs.Passing.{taken}
use Rattle.mb_merge.specs.Calls.{IsClosed}
use Rattle.mb_merge.proofs.Fits.{Fits, waits-why}
use Rattle.mb_merge.proofs.Flows.{NoRealtime}
use Rattle.mb_merge.proofs.Histories.{head-suits, opened-IsFresh}
use Rattle.mb_merge.proofs.LinkLemmas.{is_owned_below-who}
use Rattle.mb_rig.specs.RigText.{Setup}
use Rattle.mb_rig.specs.Merging.Lines.{Key, Line, arrival_of, is_below, is_sysex, key_at, no_key}
use Rattle.mb_rig.specs.Merging.Run.{AtMost}
use Rattle.mb_rig.specs.Merging.Routed.{key_of, open_of, keys_of}
use Rattle.mb_rig.specs.Merging.Tags.{Tag, IsTag}
use Rattle.mb_rig.specs.Merging.Playing.{Play, begin_at, begin_of}
use Rattle.mb_rig.specs.Merging.Tags.{is_realtime_sign}
use Rattle.mb_rig.specs.Merging.Playing.{begins_play, head_goes, offered_goes}
use Rattle.mb_rig.specs.Merging.Playing.{takes}
use Rattle.mb_rig.specs.Merging.Order.{sharing}
use Rattle.mb_rig.specs.Merging.Heard.{opens_sign}
use Rattle.mb_rig.specs.Merging.Unstalled.{UnstalledOrder}
use Rattle.mb_rig.specs.Merging.Course.{Course, IsLeastKey, IsNextKey, IsReached, Links, MayOffer, Offering}
use Rattle.mb_rig.specs.Merging.Course.{at_link, first_links, freed, gives, greater, next_tag, renews, start_of}
use Rattle.mb_rig.specs.Merging.Calm.{Calm}
use Rattle.mb_rig.proofs.Merging.Lateness.{true≢false, none≢some, same_key, same_or_not, at_most_trans}
use Rattle.mb_rig.proofs.Merging.RouterEvents.{no_owner}
use Rattle.mb_rig.proofs.Merging.UnstalledSteps.{unstalled-begins}
use Rattle.mb_rig.proofs.Merging.RoutedSteps.{unstalled_routed-accepts, unstalled_routed-takes}
use Rattle.mb_rig.proofs.Merging.RoutedSteps.{unstalled_routed-offered}
use Rattle.mb_rig.proofs.Merging.RoutedSteps.{unstalled_routed-head, with_link}
use Rattle.mb_rig.proofs.Merging.Reached.{reached-fits, reached-settled, reached-shares, reached-sources}
use Rattle.mb_rig.proofs.Merging.Given.{elsewhere, here-same, tag-ends, tag-line, tag-place}
use Rattle.mb_rig.proofs.Merging.CourseMarks.{held-closed, mark-realtime, mark-opens, nothing-held}
use Rattle.mb_rig.proofs.Merging.Offers.{course-drained}
use Rattle.mb_rig.proofs.Merging.CoursePasses.{closes}
use Rattle.mb_rig.proofs.Merging.OpenBegins.{begin-other, begin-own, begins-or-stays, stays-open, tag-own}

-- what `begins` needs: the step's key isn't below the greatest
pub calm-begins : (s : Setup) (m : Merger) (links : Links) (K : Key) (play : Play) (x : ℕ) (k : Key) →
    Course s m links K play →
    Calm s m links K play → m.draining ≡ false → links.present x ≡ Some k → IsLeastKey links k →
    Calm s m links (greater K k) play
calm-begins s m links K play x k course calm quiet here least = by_test (is_below K k) refl
  where
    later : AtMost K k
    later = calm.ahead x k here

    by_test : (c : Bool) → is_below K k ≡ c → Calm s m links (if c then k else K) play
    by_test false e = calm
    by_test true e = record {
      free = calm.free;
      ahead = λ y c f. least y c (calm.free y) f;
      order = unstalled-begins s.routes play (open_of m) (keys_of m) links.present links.stalled (begin_of play) K k
          calm.order
          (course-drained s m links K play course quiet) (calm.ahead x k here);
    }

first : (a c : Bool) → (a && c) ≡ true → a ≡ true
first true c e = refl
first false c e = absurd (true≢false (sym e))

second : (a c : Bool) → (a && c) ≡ true → c ≡ true
second true c e = e
second false c e = absurd (true≢false (sym e))

-- a source that is owned: by one that shares, is open and holds nothing
owner-of : (s : Setup) (m : Merger) (x : ℕ) → IsReached (start_of s) m → m.draining ≡ false → x < length m.links →
    is_owned m.links x ≡ true →
    (o : ℕ) × ((link_of m o).is_open ≡ true) × (keys_of m o ≡ []) × (sharing s.routes o x ≡ true)
owner-of s m x reached quiet below owned =
    let owner = is_owned_below-who m.links x (length m.links) owned in
    let opened : (link_of m owner.at).is_open ≡ true = first _ _ owner.owned in (
      owner.at,
      opened,
      ap (map (key_of owner.at)) ((reached-settled s m reached quiet).owners owner.at owner.below opened),
      reached-shares s m reached owner.at x owner.below below
          ∙ (ap (λ b. not b && share (link_of m owner.at).outs (link_of m x).outs) (differ owner.at x owner.other)
          ∙ second _ _ owner.owned),
    )
  where
    differ : (a b : ℕ) → a ≢ b → (a == b) ≡ false
    differ a b e = grind (arith, nat_tests, e)

-- a mark that is held is of a source that is owned
held-owned : (s : Setup) (m : Merger) (x : ℕ) (mark : Mark) → IsReached (start_of s) m → m.draining ≡ false →
    x < length m.links → suits_sign (link_of m x).in_sysex (sign_of mark) ≡ true → passes_now m x mark ≡ false →
    is_owned m.links x ≡ true
held-owned s m x mark reached quiet below fit waits = by_held (link_of m x).held refl
  where
    fits : Fits m
    fits = reached-fits s m reached

    none_offered : m.offered ≡ None
    none_offered = ((reached-fits s m reached).quiet quiet).0

    closed : (link_of m x).is_open ≡ false
    closed = held-closed m x mark (reached-fits s m reached) (reached-settled s m reached quiet)
        ((reached-fits s m reached).quiet quiet).0 below fit waits

    not_false : (b : Bool) → not b ≡ false → b ≡ true
    not_false true e = refl
    not_false false e = absurd (true≢false e)

    no_pass : (link_of m x).held ≡ [] → may_pass m.links x mark ≡ false
    no_pass none = sym (ap (λ hs. (length hs == 0) && may_pass m.links x mark) none)
        ∙ (ap (λ b. b || ((length (link_of m x).held == 0) && may_pass m.links x mark)) (sym (waits-why m x mark waits))
        ∙ waits)

    by_mark : (mk : Mark) → suits_sign false (sign_of mk) ≡ true → is_realtime_mark mk ≡ false →
        may_pass m.links x mk ≡ false →
        is_owned m.links x ≡ true
    by_mark (Short y) fit calm e = not_false (is_owned m.links x) e
    by_mark (Rt y) fit calm e = absurd (true≢false calm)
    by_mark Open fit calm e = not_false (is_owned m.links x) e
    by_mark (Byte y) fit calm e = absurd (true≢false (sym fit))
    by_mark End fit calm e = absurd (true≢false (sym fit))
    by_mark Abort fit calm e = absurd (true≢false (sym fit))

    by_held : (hs : List Held) → (link_of m x).held ≡ hs → is_owned m.links x ≡ true
    by_held [] e =
        let outside : (link_of m x).in_sysex ≡ false = sym (nothing-held m x fits none_offered e) ∙ closed in
        by_mark mark (ap (λ b. suits_sign b (sign_of mark)) (sym outside) ∙ fit) (waits-why m x mark waits) (no_pass e)
    by_held (h ∷ hs) e = (reached-settled s m reached quiet).waits_for x h hs below e

pub calm-takes : (s : Setup) (m : Merger) (links : Links) (K : Key) (play : Play) (x moment : ℕ) (mark : Mark) →
    Course s m links K play → Calm s m links K play → MayOffer s m links K x moment mark →
    Calm s (offered_in m x moment mark) (gives links x moment (sign_of mark)) K
    (takes play (passes_now m x mark) (next_tag links x moment (sign_of mark)))
calm-takes s m links K play x moment mark course calm may = record {
  free = calm.free;
  ahead = calm.ahead;
  order = by_test (passes_now m x mark) refl;
}
  where
    t : Tag
    t = next_tag links x moment (sign_of mark)

    below : x < length m.links
    below = subst (λ n. x < n) (sym (reached-sources s m course.reached)) may.source

    fit : suits_sign (link_of m x).in_sysex (sign_of mark) ≡ true
    fit = ap (λ b. suits_sign b (sign_of mark)) (course.sysex x) ∙ may.suits

    at : key_at moment x ≡ K
    at = same_key (key_at moment x) K may.within (calm.ahead x (key_at moment x) may.here)

    by_test : (passes : Bool) → passes_now m x mark ≡ passes →
        UnstalledOrder s.routes (takes play passes (next_tag links x moment (sign_of mark)))
        (open_of (with_link m x (taken (link_of m x) passes moment mark)))
        (keys_of (with_link m x (taken (link_of m x) passes moment mark))) (begin_of play) K
    by_test true e = unstalled_routed-accepts s.routes m play t mark (begin_of play) K calm.order below
    by_test false e = unstalled_routed-takes s.routes m play t mark (begin_of play) K calm.order below
        (held-closed m x mark (reached-fits s m course.reached) (reached-settled s m course.reached may.drained)
        ((reached-fits s m course.reached).quiet may.drained).0 below fit e)
        (owner-of s m x course.reached may.drained below (held-owned s m x mark course.reached may.drained below fit e))
        at refl

freed-calm : (links : Links) (x : ℕ) → ((y : ℕ) → links.stalled y ≡ false) → (y : ℕ) → (freed links x).stalled y ≡ false
freed-calm links x free y = ⊎_elim
    (λ (e : y ≡ x). ap (at_link links.stalled x false) e ∙ here-same links.stalled x false)
    (λ (apart : y ≢ x). elsewhere links.stalled x false y apart ∙ free y)
    (same_or_not y x)

pub calm-offered : (s : Setup) (m : Merger) (links : Links) (K : Key) (play : Play) (q : Passed) (t : Tag) →
    Course s m links K play → Calm s m links K play → m.offered ≡ Some q → play.offered ≡ Some t → q.source ≡ t.source →
    sign_of q.mark ≡ t.sign →
    Calm s (record m { links = slice_set m.links q.source (after_pass (link_of m q.source) q.mark); offered = None })
    links K (offered_goes play t (arrival_of K))
calm-offered s m links K play q t course calm is_q is_t own sign = record {
  free = calm.free;
  ahead = calm.ahead;
  order = subst (λ y. UnstalledOrder s.routes (offered_goes play t (arrival_of K))
      (open_of (with_link m y (after_pass (link_of m y) q.mark)))
      (keys_of (with_link m y (after_pass (link_of m y) q.mark)))
      (begin_of (offered_goes play t (arrival_of K))) K) (sym own)
      (unstalled_routed-offered s.routes m play t q.mark (begin_of play) (begin_of (offered_goes play t (arrival_of K)))
      K
      calm.order below at (tag-line t tag) (tag-own t tag) (λ y apart. begin-other play t (arrival_of K) y apart)
      opening ending staying);
}
  where
    offer : Offering s m links K play t
    offer = course.offering t is_t

    tag : IsTag t
    tag = (course.offering t is_t).is_tag

    below : t.source < length m.links
    below = subst (λ y. y < length m.links) own (subst (HasSource m.links) is_q
        (reached-fits s m course.reached).source)

    at : t.key ≡ K
    at = same_key t.key K (course.offering t is_t).within (calm.ahead t.source t.key (course.offering t is_t).here)

    opening : opens (link_of m t.source).is_open q.mark ≡ true → (keys_of m t.source ≡ []) ×
        ((((link_of m t.source).is_open ≡ true) × (begin_of (offered_goes play t (arrival_of K)) t.source ≡ begin_of
        play t.source))
        ⊎ (begin_of (offered_goes play t (arrival_of K)) t.source ≡ K))
    opening e = (
      ap (map (key_of t.source)) (offer.opening (ap (opens_sign (open_of m t.source)) (sym sign)
          ∙ (mark-opens (link_of m t.source).is_open q.mark ∙ e))),
      ⊎_elim
          (λ (w : ((link_of m t.source).is_open ≡ true) ×
          (begin_at (begin_of play t.source) t.key t.sign ≡ begin_of play t.source)).
          inl (w.0, begin-own play t (arrival_of K) ∙ w.1))
          (λ w. inr (begin-own play t (arrival_of K) ∙ (w ∙ at)))
          (begins-or-stays (link_of m t.source).is_open q.mark t.sign (begin_of play t.source) t.key sign e),
    )

    ending : (link_of m t.source).is_open ≡ true → opens (link_of m t.source).is_open q.mark ≡ false →
        (l : Line) × (t.line ≡ Some l) × (is_sysex l.event ≡ true) × (l.begin ≡ begin_of play t.source)
    ending was now =
        let l = tag-ends t (course.offering t is_t).is_tag (⊎_elim
        (λ (e : sign_of q.mark ≡ EndSign). inl (sym sign ∙ e)) (λ e. inr (sym sign ∙ e))
        (closes (link_of m t.source).is_open q.mark was now)) in
        (l.0, l.1, l.2, (course.offering t is_t).begun l.0 l.1 l.2)

    staying : (link_of m t.source).is_open ≡ true → opens (link_of m t.source).is_open q.mark ≡ true →
        begin_of (offered_goes play t (arrival_of K)) t.source ≡ begin_of play t.source
    staying was now = begin-own play t (arrival_of K) ∙ by_test (suits_sign true (sign_of q.mark)) refl
      where
        by_test : (c : Bool) → suits_sign true (sign_of q.mark) ≡ c →
            begin_at (begin_of play t.source) t.key t.sign ≡ begin_of play t.source
        by_test true e = stays-open (link_of m t.source).is_open q.mark t.sign (begin_of play t.source) t.key sign was
            (ap (λ b. suits_sign b (sign_of q.mark)) was ∙ e)
        by_test false e = absurd (true≢false (sym was ∙ ((course.offering t is_t).may_go.outside
            (ap (suits_sign true) (sym sign) ∙ e)).0))

pub calm-head : (s : Setup) (m : Merger) (links : Links) (K : Key) (play : Play) (t : Tag) (h : Held) (hs : List Held) →
    Course s m links K play → Calm s m links K play → m.offered ≡ None → t.source < length m.links →
    (link_of m t.source).held ≡ h ∷ hs → IsTag t → h.arrival ≡ t.key.moment → sign_of h.mark ≡ t.sign →
    may_pass m.links t.source h.mark ≡ true →
    Calm s (record m { links = slice_set m.links t.source (after_head (link_of m t.source) h.mark) })
    (freed links t.source) K (head_goes play t (arrival_of K))
calm-head s m links K play t h hs course calm none_offered below is tag came sign may = record {
  free = freed-calm links t.source calm.free;
  ahead = calm.ahead;
  order = unstalled_routed-head s.routes m play t h hs (begin_of play) (begin_of (head_goes play t (arrival_of K))) K
      calm.order
      below is came tag.link (λ y apart. begin-other play t (arrival_of K) y apart) opening still (tag-line t tag)
      (tag-place t tag) (tag-own t tag) owner;
}
  where
    fits : Fits m
    fits = reached-fits s m course.reached

    not_rt : is_realtime_mark h.mark ≡ false
    not_rt = (subst NoRealtime is (fits.turn t.source).no_rt).0

    still : is_realtime_sign t.sign ≡ false
    still = ap is_realtime_sign (sym sign) ∙ (mark-realtime h.mark ∙ (subst NoRealtime is (fits.turn t.source).no_rt).0)

    opening : opens (link_of m t.source).is_open h.mark ≡ true →
        (((link_of m t.source).is_open ≡ true) × (begin_of (head_goes play t (arrival_of K)) t.source ≡ begin_of play
        t.source))
        ⊎ (begin_of (head_goes play t (arrival_of K)) t.source ≡ t.key)
    opening e = ⊎_elim
        (λ (w : ((link_of m t.source).is_open ≡ true) × (begin_at (begin_of play t.source) t.key t.sign ≡ begin_of play
        t.source)).
        inl (w.0, begin-own play t (arrival_of K) ∙ w.1))
        (λ w. inr (begin-own play t (arrival_of K) ∙ w))
        (begins-or-stays (link_of m t.source).is_open h.mark t.sign (begin_of play t.source) t.key sign e)

    owner : (link_of m t.source).is_open ≡ false → (o : ℕ) → (link_of m o).is_open ≡ true →
        sharing s.routes o t.source ≡ true → ⊥
    owner = no_owner (sharing s.routes) m t.source h.mark (reached-shares s m course.reached) below
        (subst NoRealtime is (fits.turn t.source).no_rt).0 may (head-suits m t.source h hs fits none_offered is)

pub calm-renews : (s : Setup) (m : Merger) (links : Links) (K : Key) (play : Play) (x : ℕ) (k : Key) (next : Option Key)
    →
    Calm s m links K play → links.present x ≡ Some k → IsNextKey links x k next → Calm s m (renews links x next) K play
calm-renews s m links K play x k next calm here is = record {
  free = calm.free;
  ahead = λ y c e. ⊎_elim
      (λ (same : y ≡ x). at_most_trans K k c (calm.ahead x k here)
      (is.later c (sym (here-same links.present x next) ∙ (ap (at_link links.present x next) (sym same) ∙ e))).0)
      (λ (apart : y ≢ x). calm.ahead y c (sym (elsewhere links.present x next y apart) ∙ e))
      (same_or_not y x);
  order = calm.order;
}

pub calm-starts : (s : Setup) (present : ℕ → Option Key) → Calm s (start_of s) (first_links present) (no_key 0)
    begins_play
calm-starts s present = record {
  free = λ x. refl;
  ahead = λ x c e. above c.moment c.link;
  order = record {
    unbroken = record {
      held = λ x h is. absurd (no-held x h is.0 is.1);
      begun = λ o e. absurd (true≢false (sym e ∙ (closed o).not_open));
      within = λ x h is. absurd (no-held x h is.0 is.1);
    };
    bounded = record {
      keys = λ i z e. absurd (none≢some z e);
      moments = λ i z e. absurd (none≢some z e);
    };
    own = λ i z e. absurd (none≢some z e);
    exact = refl;
  };
}
  where
    closed : (x : ℕ) → IsClosed (link_of (start_of s) x)
    closed x = (opened-IsFresh (length s.ins) (length s.outs) s.routes).closed x

    no-held : (x : ℕ) (h : Key) (i : ℕ) → slice_get (keys_of (start_of s) x) i ≡ Some h → ⊥
    no-held x h i e = none≢some h (sym (ap (λ hs. slice_get (map (key_of x) hs) i) (closed x).nothing) ∙ e)

    above : (a b : ℕ) → (nat_lt a 0 || ((a == 0) && nat_lt b 0)) ≡ false
    above a b = grind (arith, nat_tests)
