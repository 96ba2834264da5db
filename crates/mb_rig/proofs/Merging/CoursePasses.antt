-- A mark passes, the one just offered or a first held one: the course goes on.
use Rattle.std.proofs.Common.{◌≡◌, ◌≢◌, ◌⊎◌, inl, inr, ⊎_elim, ℕ, ◌<◌, ◌≤◌, Bool, true, false, List, []}
use Rattle.std.proofs.Common.{◌∷◌, ◌++◌, length, map, drop, Some, None, refl, ap, sym, subst, ◌∙◌, arith}
use Rattle.std.specs.Prelude.{◌&&◌, ◌||◌, ◌==◌, nat_lt, if◌then◌else◌, slice_set, slice_get}
use Rattle.std.proofs.lemmas.Bool.Decides.{nat_tests}
use Rattle.mb_message.specs.declared.mark.Mark.{Mark}
use Rattle.mb_message.specs.declared.mark.Mark.TheVariants.{Short, Rt, Open, Byte, End, Abort}
use Rattle.mb_message.specs.Signs.{sign_of, suits_sign, EndSign, AbortSign}
use Rattle.mb_stream.specs.Puts.{signs_in}
use Rattle.mb_stream.specs.Standing.{is_open}
use Rattle.mb_merge.specs.declared.source.Held.{Held}
use Rattle.mb_merge.specs.declared.router.Passed.{Passed}
use Rattle.mb_merge.specs.Links.{Link, Merger, HasSource, link_of}
use Rattle.mb_merge.specs.Passing.{is_realtime_mark, may_pass, opens, after_pass, after_head}
use Rattle.mb_merge.proofs.Flows.{NoRealtime}
use Rattle.mb_merge.proofs.Fits.{Fits}
use Rattle.mb_merge.proofs.Histories.{head-suits}
use Rattle.mb_rig.specs.RigText.{Setup}
use Rattle.mb_rig.specs.Merging.Lines.{Key, Line, arrival_of, is_sysex}
use Rattle.mb_rig.specs.Merging.Run.{AtMost}
use Rattle.mb_rig.specs.Merging.Routed.{key_of, open_of, keys_of}
use Rattle.mb_rig.specs.Merging.Tags.{Tag, IsTag, AreTags, is_realtime_sign}
use Rattle.mb_rig.specs.Merging.Playing.{Play, PassedTag, offered_goes, head_goes}
use Rattle.mb_rig.specs.Merging.Tags.{under_of}
use Rattle.mb_rig.specs.Merging.Playing.{tags_passed, with_held}
use Rattle.mb_rig.specs.Merging.Order.{sharing}
use Rattle.mb_rig.specs.Merging.Realtimes.{RealtimesFit}
use Rattle.mb_rig.specs.Merging.Heard.{MayGo, OutsKnown, open_after, opens_sign}
use Rattle.mb_rig.specs.Merging.Course.{Links, Course, Offering, IsReached, AreSorted, IsNotAfter, at_link, freed}
use Rattle.mb_rig.specs.Merging.Course.{goes_out}
use Rattle.mb_rig.specs.Merging.Course.{AreWithin, start_of}
use Rattle.mb_rig.proofs.Merging.Lateness.{true≢false, none≢some, some_same, same_or_not, EndsBy}
use Rattle.mb_rig.proofs.Merging.RouterEvents.{no_owner}
use Rattle.mb_rig.proofs.Merging.PlaySteps.{passed-push, with_held-same, with_held-other}
use Rattle.mb_rig.proofs.Merging.OrderSteps.{order-offered, order-head, passing_of}
use Rattle.mb_rig.proofs.Merging.PlaceSteps.{places-offered, places-head, apart-head}
use Rattle.mb_rig.proofs.Merging.RoutedSteps.{open_other, open_same, realtimes_routed-offered, realtimes_routed-head}
use Rattle.mb_rig.proofs.Merging.RoutedSteps.{with_link}
use Rattle.mb_rig.proofs.Merging.MayGo.{may-go, one_open}
use Rattle.mb_rig.proofs.Merging.OwnerLemmas.{outs-pass}
use Rattle.mb_rig.proofs.Merging.Reached.{reached-fits, reached-goes, reached-shares, reached-sources}
use Rattle.mb_rig.proofs.Merging.Given.{rises-push, here-same, elsewhere, tag-line, tag-place, tag-ends, AreTags-push}
use Rattle.mb_rig.proofs.Merging.Given.{AreTags-drop}
use Rattle.mb_rig.proofs.Merging.CourseMarks.{mark-realtime, mark-opens, no-tags}
use Rattle.mb_rig.proofs.Merging.Offers.{at_place}

-- a mark behind which no SysEx is open any more ends it
pub closes : (b : Bool) (mark : Mark) → b ≡ true → opens b mark ≡ false →
    (sign_of mark ≡ EndSign) ⊎ (sign_of mark ≡ AbortSign)
closes b (Short x) was now = absurd (true≢false (sym was ∙ now))
closes b (Rt x) was now = absurd (true≢false (sym was ∙ now))
closes b Open was now = absurd (true≢false now)
closes b (Byte x) was now = absurd (true≢false (sym was ∙ now))
closes b End was now = inl refl
closes b Abort was now = inr refl

-- what passes of a link, whatever else changes of it
abbrev pub passing_link : Merger → (x : ℕ) → Link → Merger
passing_link m x now = record m { links = slice_set m.links x now }

open-behind : (m : Merger) (t : Tag) (now : Link) (mark : Mark) → t.source < length m.links → sign_of mark ≡ t.sign →
    now.is_open ≡ opens (link_of m t.source).is_open mark →
    open_after (open_of m) t ≡ open_of (with_link m t.source now)
open-behind m t now mark below sign is = λ i x. each x i
  where
    same : (a b : ℕ) → a ≡ b → (a == b) ≡ true
    same a b e = grind (arith, nat_tests)

    differ : (a b : ℕ) → a ≢ b → (a == b) ≡ false
    differ a b e = grind (arith, nat_tests, e)

    each : (x : ℕ) → open_after (open_of m) t x ≡ open_of (with_link m t.source now) x
    each x = ⊎_elim
        (λ (e : x ≡ t.source). ap (λ (c : Bool). if c then opens_sign (open_of m x) t.sign else open_of m x)
        (same x t.source e)
        ∙ (ap (λ y. opens_sign (open_of m y) t.sign) e ∙ (ap (opens_sign (open_of m t.source)) (sym sign)
        ∙ (mark-opens (link_of m t.source).is_open mark ∙ (sym is ∙ (sym (open_same m t.source now below)
        ∙ ap (open_of (with_link m t.source now)) (sym e)))))))
        (λ (apart : x ≢ t.source). ap (λ (c : Bool). if c then opens_sign (open_of m x) t.sign else open_of m x)
        (differ x t.source apart) ∙ sym (open_other m t.source x now apart))
        (same_or_not x t.source)

outs-behind : (s : Setup) (m : Merger) (play : Play) (t : Tag) (moment : ℕ) (now : Link) (mark : Mark) →
    IsReached (start_of s) m → t.source < length m.links → sign_of mark ≡ t.sign →
    now.is_open ≡ opens (link_of m t.source).is_open mark → OutsKnown (goes_out s) (open_of m) (tags_passed play) →
    MayGo (goes_out s) (open_of m) t →
    OutsKnown (goes_out s) (open_of (with_link m t.source now))
    (map (λ (x : PassedTag). x.tag) (play.passed ++ (record { tag = t; moment = moment }) ∷ []))
outs-behind s m play t moment now mark reached below sign is known may =
    subst (λ (f : ℕ → Bool). OutsKnown (goes_out s) f
    (map (λ (x : PassedTag). x.tag) (play.passed ++ (record { tag = t; moment = moment }) ∷ [])))
    (open-behind m t now mark below sign is)
    (subst (OutsKnown (goes_out s) (open_after (open_of m) t)) (sym (passed-push play t moment))
    (outs-pass (goes_out s) (open_of m) (tags_passed play) t known may one))
  where
    one : (o x y : ℕ) → open_of m x ≡ true → open_of m y ≡ true → goes_out s o x ≡ true → goes_out s o y ≡ true → x ≡ y
    one o x y open_x open_y goes_x goes_y = one_open m (reached-fits s m reached).exclusive o x y open_x open_y
        (reached-goes s m reached o x ∙ goes_x) (reached-goes s m reached o y ∙ goes_y)

tags-behind : (play : Play) (t : Tag) (moment : ℕ) → AreTags (tags_passed play) → IsTag t →
    AreTags (map (λ (x : PassedTag). x.tag) (play.passed ++ (record { tag = t; moment = moment }) ∷ []))
tags-behind play t moment are is = subst AreTags (sym (passed-push play t moment))
    (AreTags-push (tags_passed play) t are is)

within-push : (count : ℕ) (ts : List Tag) (t : Tag) → AreWithin count ts → t.source < count →
    AreWithin count (ts ++ t ∷ [])
within-push count [] t are is = (is, tt)
within-push count (u ∷ us) t are is = (are.0, within-push count us t are.1 is)

within-behind : (s : Setup) (m : Merger) (play : Play) (t : Tag) (moment : ℕ) → IsReached (start_of s) m →
    AreWithin (length s.ins) (tags_passed play) → t.source < length m.links →
    AreWithin (length s.ins) (map (λ (x : PassedTag). x.tag)
    (play.passed ++ (record { tag = t; moment = moment }) ∷ []))
within-behind s m play t moment reached are below = subst (AreWithin (length s.ins)) (sym (passed-push play t moment))
    (within-push (length s.ins) (tags_passed play) t are
    (subst (λ n. t.source < n) (reached-sources s m reached) below))

-- the mark just offered, of the tag's source
pub course-offered : (s : Setup) (m : Merger) (links : Links) (K : Key) (play : Play) (q : Passed) (t : Tag) →
    Course s m links K play → m.offered ≡ Some q → play.offered ≡ Some t → q.source ≡ t.source →
    q.arrival ≡ t.key.moment → sign_of q.mark ≡ t.sign →
    IsReached (start_of s) (record m {
      links = slice_set m.links q.source (after_pass (link_of m q.source) q.mark);
      offered = None;
    }) →
    Course s (record m { links = slice_set m.links q.source (after_pass (link_of m q.source) q.mark); offered = None })
    links K (offered_goes play t (arrival_of K))
course-offered s m links K play q t course is_q is_t own came sign reached = record {
  reached = reached;
  order = order-offered s.routes m play links.present links.stalled K q t course.order is_q is_t own came tag.link
      q_below offer.free offer.here offer.within (tag-line t tag) q_opening q_ending;
  realtimes = subst (λ y. RealtimesFit s.routes (offered_goes play t (arrival_of K))
      (open_of (with_link m y (after_pass (link_of m y) q.mark)))
      (keys_of (with_link m y (after_pass (link_of m y) q.mark)))) (sym own)
      (realtimes_routed-offered s.routes m play t q.mark (arrival_of K) course.realtimes below sign
      (λ e. no-tags t.source (link_of m t.source).held (play.held t.source) (course.order.plays.held t.source)
      (opening e))
      ending (tag-line t tag) (tag-place t tag) offer.latest offer.waits);
  places = places-offered play (λ y. (under_of y (links.given y)).place) t (arrival_of K) course.places offer.place
      offer.fresh (tag-line t tag) (tag-place t tag);
  outs = subst (λ y. OutsKnown (goes_out s) (open_of (with_link m y (after_pass (link_of m y) q.mark)))
      (tags_passed (offered_goes play t (arrival_of K)))) (sym own)
      (outs-behind s m play t (arrival_of K) (after_pass (link_of m t.source) q.mark) q.mark course.reached below sign
      refl
      course.outs offer.may_go);
  rises = rises-push 0 (arrival_of K) play.passed t course.rises;
  held_tags = course.held_tags;
  passed_tags = tags-behind play t (arrival_of K) course.passed_tags tag;
  sources = within-behind s m play t (arrival_of K) course.reached course.sources below;
  taken = course.taken;
  sorted = at_place (λ y (l : Link). AreSorted l.held l.last) m.links q.source (after_pass (link_of m q.source) q.mark)
      q_below (course.sorted q.source) (λ y apart. course.sorted y);
  full = at_place (λ y (l : Link). links.stalled y ≡ true → 1024 ≤ length l.held) m.links q.source
      (after_pass (link_of m q.source) q.mark) q_below (course.full q.source) (λ y apart. course.full y);
  sysex = at_place (λ y (l : Link). l.in_sysex ≡ is_open (signs_in (links.given y))) m.links q.source
      (after_pass (link_of m q.source) q.mark) q_below (course.sysex q.source) (λ y apart. course.sysex y);
  over = course.over;
  in_time = at_place (λ y (l : Link). (k : Key) → links.present y ≡ Some k → (l.last ≤ k.moment) × (k.link ≡ y))
      m.links q.source (after_pass (link_of m q.source) q.mark) q_below (course.in_time q.source)
      (λ y apart. course.in_time y);
  offering = λ u e. absurd (none≢some u e);
}
  where
    offer : Offering s m links K play t
    offer = course.offering t is_t

    tag : IsTag t
    tag = (course.offering t is_t).is_tag

    q_below : q.source < length m.links
    q_below = subst (HasSource m.links) is_q (reached-fits s m course.reached).source

    below : t.source < length m.links
    below = subst (λ y. y < length m.links) own (subst (HasSource m.links) is_q
        (reached-fits s m course.reached).source)

    opening : opens (link_of m t.source).is_open q.mark ≡ true → (link_of m t.source).held ≡ []
    opening e = (course.offering t is_t).opening (ap (opens_sign (open_of m t.source)) (sym sign)
        ∙ (mark-opens (link_of m t.source).is_open q.mark ∙ e))

    q_opening : opens (link_of m q.source).is_open q.mark ≡ true → (link_of m q.source).held ≡ []
    q_opening = subst (λ y. opens (link_of m y).is_open q.mark ≡ true → (link_of m y).held ≡ []) (sym own) opening

    ending : (link_of m t.source).is_open ≡ true → opens (link_of m t.source).is_open q.mark ≡ false →
        (l : Line) × (t.line ≡ Some l) × (is_sysex l.event ≡ true)
    ending was now = tag-ends t (course.offering t is_t).is_tag (⊎_elim
        (λ (e : sign_of q.mark ≡ EndSign). inl (sym sign ∙ e)) (λ e. inr (sym sign ∙ e))
        (closes (link_of m t.source).is_open q.mark was now))

    by_line : (link_of m t.source).is_open ≡ true → opens (link_of m t.source).is_open q.mark ≡ false →
        EndsBy t.source t.key (passing_of (arrival_of K) t.line)
    by_line was now =
        let l = ending was now in
        let fits = tag-line t (course.offering t is_t).is_tag l.0 l.1 in
        subst (EndsBy t.source t.key) (sym (ap (passing_of (arrival_of K)) l.1)) (fits.0, l.2, fits.1)

    q_ending : (link_of m q.source).is_open ≡ true → opens (link_of m q.source).is_open q.mark ≡ false →
        EndsBy q.source t.key (passing_of (arrival_of K) t.line)
    q_ending = subst (λ y. (link_of m y).is_open ≡ true → opens (link_of m y).is_open q.mark ≡ false →
        EndsBy y t.key (passing_of (arrival_of K) t.line)) (sym own) by_line

-- the first held mark, of the tag's source
pub course-head : (s : Setup) (m : Merger) (links : Links) (K : Key) (play : Play) (t : Tag) (rest : List Tag)
    (h : Held) (hs : List Held) →
    Course s m links K play → m.offered ≡ None → play.offered ≡ None → t.source < length m.links →
    (link_of m t.source).held ≡ h ∷ hs → play.held t.source ≡ t ∷ rest → h.arrival ≡ t.key.moment →
    sign_of h.mark ≡ t.sign → may_pass m.links t.source h.mark ≡ true →
    IsReached (start_of s) (record m { links = slice_set m.links t.source (after_head (link_of m t.source) h.mark) }) →
    Course s (record m { links = slice_set m.links t.source (after_head (link_of m t.source) h.mark) })
    (freed links t.source) K (head_goes play t (arrival_of K))
course-head s m links K play t rest h hs course none_offered idle below is first came sign may reached = record {
  reached = reached;
  order = order-head s.routes m play links.present links.stalled (at_link links.stalled t.source false) K t.source h hs
      t rest
      course.order idle is refl first came tag.link calm (tag-line t tag) next
      (λ x apart. elsewhere links.stalled t.source false x apart) owner;
  realtimes = realtimes_routed-head s.routes m play t rest h hs (arrival_of K) course.realtimes first is calm
      (tag-line t tag) (tag-place t tag)
      (apart-head play (λ y. (under_of y (links.given y)).place) t rest course.places first) owner;
  places = places-head play (λ y. (under_of y (links.given y)).place) t rest (arrival_of K) course.places first
      (tag-line t tag) (tag-place t tag);
  outs = outs-behind s m play t (arrival_of K) (after_head (link_of m t.source) h.mark) h.mark course.reached below sign
      refl course.outs may_go;
  rises = rises-push 0 (arrival_of K) play.passed t course.rises;
  held_tags = λ y. tags_at y;
  passed_tags = tags-behind play t (arrival_of K) course.passed_tags tag;
  sources = within-behind s m play t (arrival_of K) course.reached course.sources below;
  taken = course.taken;
  sorted = at_place (λ y (l : Link). AreSorted l.held l.last) m.links t.source (after_head (link_of m t.source) h.mark)
      below (subst (λ gs. AreSorted (drop 1 gs) (link_of m t.source).last) (sym is) sorted.2)
      (λ y apart. course.sorted y);
  full = at_place (λ y (l : Link). (freed links t.source).stalled y ≡ true → 1024 ≤ length l.held) m.links t.source
      (after_head (link_of m t.source) h.mark) below
      (λ e. absurd (true≢false (sym e ∙ here-same links.stalled t.source false)))
      (λ y apart e. course.full y (sym (elsewhere links.stalled t.source false y apart) ∙ e));
  sysex = at_place (λ y (l : Link). l.in_sysex ≡ is_open (signs_in (links.given y))) m.links t.source
      (after_head (link_of m t.source) h.mark) below (course.sysex t.source) (λ y apart. course.sysex y);
  over = course.over;
  in_time = at_place (λ y (l : Link). (k : Key) → links.present y ≡ Some k → (l.last ≤ k.moment) × (k.link ≡ y))
      m.links t.source (after_head (link_of m t.source) h.mark) below (course.in_time t.source)
      (λ y apart. course.in_time y);
  offering = λ u e. absurd (none≢some u (sym idle ∙ e));
}
  where
    fits : Fits m
    fits = reached-fits s m course.reached

    tag : IsTag t
    tag = (subst AreTags first (course.held_tags t.source)).0

    not_rt : is_realtime_mark h.mark ≡ false
    not_rt = (subst NoRealtime is (fits.turn t.source).no_rt).0

    calm : is_realtime_sign t.sign ≡ false
    calm = ap is_realtime_sign (sym sign) ∙ (mark-realtime h.mark ∙ not_rt)

    suits : suits_sign (link_of m t.source).is_open (sign_of h.mark) ≡ true
    suits = head-suits m t.source h hs fits none_offered is

    sorted : AreSorted (h ∷ hs) (link_of m t.source).last
    sorted = subst (λ gs. AreSorted gs (link_of m t.source).last) is (course.sorted t.source)

    not_before : (gs : List Held) → IsNotAfter h.arrival gs → (c : Key) →
        slice_get (map (key_of t.source) gs) 0 ≡ Some c →
        AtMost (key_of t.source h) c
    not_before [] after c e = absurd (none≢some c e)
    not_before (g ∷ gs) after c e = subst (AtMost (key_of t.source h)) (some_same e)
        (later h.arrival g.arrival t.source after)
      where
        later : (a b x : ℕ) → a ≤ b → (nat_lt b a || ((b == a) && nat_lt x x)) ≡ false
        later a b x e = grind (arith, nat_tests)

    next : (c : Key) → slice_get (map (key_of t.source) hs) 0 ≡ Some c → AtMost (key_of t.source h) c
    next = not_before hs (subst (λ gs. AreSorted gs (link_of m t.source).last) is (course.sorted t.source)).0

    owner : (link_of m t.source).is_open ≡ false → (o : ℕ) → (link_of m o).is_open ≡ true →
        sharing s.routes o t.source ≡ true → ⊥
    owner = no_owner (sharing s.routes) m t.source h.mark (reached-shares s m course.reached) below not_rt may suits

    may_go : MayGo (goes_out s) (open_of m) t
    may_go = subst (λ (g : ℕ → ℕ → Bool). MayGo g (open_of m) t) (λ i o y. reached-goes s m course.reached o y i)
        (may-go m t h.mark sign may suits)

    tags_at : (y : ℕ) → AreTags (with_held play.held t.source (drop 1 (play.held t.source)) y)
    tags_at y = ⊎_elim
        (λ (e : y ≡ t.source). subst (λ z. AreTags (with_held play.held t.source (drop 1 (play.held t.source)) z))
        (sym e)
        (subst AreTags (sym (with_held-same play.held t.source (drop 1 (play.held t.source))))
        (AreTags-drop (play.held t.source) (course.held_tags t.source))))
        (λ (apart : y ≢ t.source). subst AreTags (sym (with_held-other play.held t.source y
        (drop 1 (play.held t.source)) apart))
        (course.held_tags y))
        (same_or_not y t.source)
