-- A mark of a link is offered, and is to pass or is held: the course goes on.
use Rattle.std.proofs.Common.{◌≡◌, ◌≢◌, ◌⊎◌, ⊎_elim, ℕ, ◌<◌, ◌≤◌, Bool, true, false, List, []}
use Rattle.std.proofs.Common.{◌∷◌, ◌++◌, length, map, filter, Option, Some, None, refl, ap, sym, subst, ◌∙◌, arith}
use Rattle.std.proofs.Common.{append-nil}
use Rattle.mb_message.specs.declared.mark.Mark.{Mark}
use Rattle.mb_message.specs.declared.mark.Mark.TheVariants.{Short, Rt, Open, Byte, End, Abort}
use Rattle.mb_message.specs.Signs.{Sign, sign_of, suits_sign, ShortSign, RtSign, OpenSign, ByteSign, EndSign, AbortSign}
use Rattle.mb_stream.specs.Puts.{signs_in}
use Rattle.mb_stream.specs.Standing.{is_open}
use Rattle.mb_merge.specs.declared.source.Held.{Held}
use Rattle.mb_merge.specs.Links.{Link, Merger, link_of}
use Rattle.mb_merge.specs.Passing.{is_realtime_mark, opens, passes_now, taken, offered_in}
use Rattle.mb_merge.specs.Calls.{IsSettled, one}
use Rattle.mb_merge.proofs.Flows.{link_at-set_same}
use Rattle.mb_merge.proofs.Fits.{Fits, Passes, passes-why, waits-why}
use Rattle.mb_rig.specs.RigText.{Setup}
use Rattle.mb_rig.specs.Merging.Lines.{Key, Line, is_sysex, key_at, no_key}
use Rattle.mb_rig.specs.Merging.Unbroken.{HasOwner}
use Rattle.mb_rig.specs.Merging.Routed.{key_of, open_of, keys_of, run_of}
use Rattle.mb_rig.specs.Merging.Tags.{line_at}
use Rattle.mb_rig.specs.Merging.Playing.{begin_behind, tag_in_turn}
use Rattle.mb_rig.specs.Merging.Tags.{Tag, AreTags, is_realtime_sign}
use Rattle.mb_rig.specs.Merging.Playing.{Play, tags_passed, takes}
use Rattle.mb_rig.specs.Merging.Tags.{under_of}
use Rattle.mb_rig.specs.Merging.Playing.{with_held}
use Rattle.mb_rig.specs.Merging.Order.{newest, sharing}
use Rattle.mb_rig.specs.Merging.Realtimes.{stands}
use Rattle.mb_rig.specs.Merging.Heard.{MayGo, OutsKnown, opens_sign}
use Rattle.mb_rig.specs.Merging.Course.{Links, Course, MayOffer, Offering, IsReached, AreSorted}
use Rattle.mb_rig.specs.Merging.Course.{gives, goes_out, next_tag, start_of}
use Rattle.mb_rig.proofs.Merging.Lateness.{true≢false, none≢some, some_same, same_or_not}
use Rattle.mb_rig.proofs.Merging.Overtaken.{Anyone}
use Rattle.mb_rig.proofs.Merging.PlaySteps.{with_held-same, with_held-other}
use Rattle.mb_rig.proofs.Merging.OrderSteps.{order-accepts, order-takes}
use Rattle.mb_rig.proofs.Merging.RealtimeSteps.{owner-drained}
use Rattle.mb_rig.proofs.Merging.PlaceSteps.{places-accepts, places-takes, latest-of}
use Rattle.mb_rig.proofs.Merging.RoutedSteps.{open_kept, keys_kept, realtimes_routed-accepts, realtimes_routed-takes}
use Rattle.mb_rig.proofs.Merging.MayGo.{may-go}
use Rattle.mb_rig.proofs.Merging.Reached.{reached-offer, reached-fits, reached-settled, reached-sources}
use Rattle.mb_rig.proofs.Merging.Reached.{reached-goes}
use Rattle.mb_rig.proofs.Merging.Given.{given-begin, given-link, tag-begin}
use Rattle.mb_rig.proofs.Merging.Given.{AreTags-push}
use Rattle.mb_rig.proofs.Merging.CourseMarks.{mark-realtime, mark-opens, offer-may, nothing-held}
use Rattle.mb_rig.proofs.Merging.CourseMarks.{held-closed}
use Rattle.mb_rig.proofs.Merging.CourseMarks.{mark-sound, no-tags, no-offer}
use Rattle.mb_rig.proofs.Merging.Offers.{at_place, course-drained, given-open, given-over, given-tags, next-place}
use Rattle.mb_rig.proofs.Merging.Offers.{offer-full, offer-in-time, offer_by, other-place, sorted-later, sorted-push}

-- The mark is to pass.
course-accepts : (s : Setup) (m : Merger) (links : Links) (K : Key) (play : Play) (x moment : ℕ) (mark : Mark) →
    Course s m links K play → MayOffer s m links K x moment mark → passes_now m x mark ≡ true →
    IsReached (start_of s) (offer_by m x moment mark true) →
    Course s (offer_by m x moment mark true) (gives links x moment (sign_of mark)) K
    (takes play true (next_tag links x moment (sign_of mark)))
course-accepts s m links K play x moment mark course may passes reached = record {
  reached = reached;
  order = order-accepts s.routes m play links.present links.stalled K t mark course.order idle below refl refl free;
  realtimes = realtimes_routed-accepts s.routes m play t mark course.realtimes below;
  places = places-accepts play (λ y. (under_of y (links.given y)).place)
      (λ y. (under_of y ((gives links x moment (sign_of mark)).given y)).place) t course.places
      (next-place links x moment (sign_of mark)) (other-place links x moment (sign_of mark));
  outs = subst (λ (f : ℕ → Bool). OutsKnown (goes_out s) f (tags_passed play)) (sym opens_same) course.outs;
  rises = course.rises;
  held_tags = course.held_tags;
  passed_tags = course.passed_tags;
  sources = course.sources;
  taken = given-tags play links x moment (sign_of mark) course.taken;
  sorted = at_place (λ y (l : Link). AreSorted l.held l.last) m.links x (taken (link_of m x) true moment mark) below
      (sorted-later (link_of m x).held (link_of m x).last moment (course.sorted x) later) (λ y apart. course.sorted y);
  full = offer-full m links x moment mark true below may.free course.full;
  sysex = given-open m links x moment mark true below fit course.sysex;
  over = given-over links x moment (sign_of mark) (key_at moment x) may.here course.over;
  in_time = offer-in-time m links x moment mark true below may.here course.in_time;
  offering = λ u e. subst (Offering s (offer_by m x moment mark true) (gives links x moment (sign_of mark)) K
      (takes play true (next_tag links x moment (sign_of mark)))) (some_same e) offering;
}
  where
    t : Tag
    t = next_tag links x moment (sign_of mark)

    fits : Fits m
    fits = reached-fits s m course.reached

    settled : IsSettled m
    settled = reached-settled s m course.reached may.drained

    below : x < length m.links
    below = subst (λ n. x < n) (sym (reached-sources s m course.reached)) may.source

    fit : suits_sign (link_of m x).in_sysex (sign_of mark) ≡ true
    fit = ap (λ b. suits_sign b (sign_of mark)) (course.sysex x) ∙ may.suits

    later : (link_of m x).last ≤ moment
    later = (course.in_time x (key_at moment x) may.here).0

    none_offered : m.offered ≡ None
    none_offered = (fits.quiet may.drained).0

    idle : play.offered ≡ None
    idle = no-offer m.offered play.offered course.order.plays.offered none_offered

    why : (is_realtime_mark mark ≡ true) ⊎ Passes m.links x mark (link_of m x)
    why = passes-why m x mark passes

    calm_empty : is_realtime_mark mark ≡ false → (link_of m x).held ≡ []
    calm_empty calm = ⊎_elim (λ (rt : is_realtime_mark mark ≡ true). absurd (true≢false (sym rt ∙ calm)))
        (λ (p : Passes m.links x mark (link_of m x)). p.nothing) (passes-why m x mark passes)

    free : is_realtime_sign (sign_of mark) ≡ false → play.held x ≡ []
    free calm = no-tags x (link_of m x).held (play.held x) (course.order.plays.held x)
        (calm_empty (sym (mark-realtime mark) ∙ calm))

    opens_same : open_of (offer_by m x moment mark true) ≡ open_of m
    opens_same = open_kept m x (taken (link_of m x) true moment mark) below refl

    keys_same : keys_of (offer_by m x moment mark true) ≡ keys_of m
    keys_same = keys_kept m x (taken (link_of m x) true moment mark) below refl

    held_same : (link_of (offer_by m x moment mark true) x).held ≡ (link_of m x).held
    held_same = ap (λ (l : Link). l.held) (link_at-set_same m.links x (taken (link_of m x) true moment mark) below)

    opening : (mk : Mark) → (is_realtime_mark mk ≡ false → (link_of m x).held ≡ []) →
        opens (link_of m x).is_open mk ≡ true → (link_of m x).held ≡ []
    opening (Short z) empty e = settled.owners x below e
    opening (Rt z) empty e = settled.owners x below e
    opening Open empty e = empty refl
    opening (Byte z) empty e = settled.owners x below e
    opening End empty e = absurd (true≢false (sym e))
    opening Abort empty e = absurd (true≢false (sym e))

    inside : (link_of m x).held ≡ [] → suits_sign (link_of m x).is_open (sign_of mark) ≡ true
    inside none = ap (λ b. suits_sign b (sign_of mark)) (nothing-held m x fits none_offered none) ∙ fit

    realtime_goes : (sign : Sign) (b : ℕ → Bool) (u : Tag) → u.sign ≡ sign → is_realtime_sign sign ≡ true →
        MayGo (goes_out s) b u
    realtime_goes (ShortSign y z w) b u is e = absurd (true≢false (sym e))
    realtime_goes (RtSign y) b u is e = record {
      outside = λ f. absurd (true≢false (sym (ap (suits_sign true) is) ∙ f));
      inside = λ f. absurd (true≢false (sym (ap (suits_sign false) is) ∙ f));
    }
    realtime_goes OpenSign b u is e = absurd (true≢false (sym e))
    realtime_goes (ByteSign y) b u is e = absurd (true≢false (sym e))
    realtime_goes EndSign b u is e = absurd (true≢false (sym e))
    realtime_goes AbortSign b u is e = absurd (true≢false (sym e))

    may_go : MayGo (goes_out s) (open_of m) t
    may_go = ⊎_elim
        (λ (rt : is_realtime_mark mark ≡ true). realtime_goes (sign_of mark) (open_of m) t refl
        (mark-realtime mark ∙ rt))
        (λ (p : Passes m.links x mark (link_of m x)).
        subst (λ (g : ℕ → ℕ → Bool). MayGo g (open_of m) t) (λ i o y. reached-goes s m course.reached o y i)
        (may-go m t mark refl p.may (inside p.nothing)))
        (passes-why m x mark passes)

    waits : is_realtime_sign (sign_of mark) ≡ true → play.held x ≢ [] →
        HasOwner (sharing s.routes) (stands play (open_of m) (keys_of m)) x Anyone
    waits rt some =
        let w = owner-drained (sharing s.routes) (run_of m links.present links.stalled K (newest play)) x
        (course-drained s m links K play course may.drained)
        (λ none. some (no-tags x (link_of m x).held (play.held x) (course.order.plays.held x)
        (no-keys x (link_of m x).held none))) in
        (w.0, (w.1.0, w.1.1, w.1.2, w.1.3, tt))
      where
        no-keys : (y : ℕ) (hs : List Held) → map (key_of y) hs ≡ [] → hs ≡ []
        no-keys y [] e = refl
        no-keys y (h ∷ hs) e = absurd (no_cons e)
          where
            no_cons : map (key_of y) (h ∷ hs) ≡ [] → ⊥
            no_cons e = cc

    sysex-calm : (m : Sign) (l : Line) → line_at x (under_of x (links.given x)) (key_at moment x) m ≡ Some l →
        is_sysex l.event ≡ true → is_realtime_sign m ≡ false
    sysex-calm (ShortSign y z w) l e sysex = refl
    sysex-calm (RtSign y) l e sysex = absurd (true≢false
        (sym sysex ∙ ap (λ (k : Line). is_sysex k.event) (sym (some_same e))))
    sysex-calm OpenSign l e sysex = refl
    sysex-calm (ByteSign y) l e sysex = refl
    sysex-calm EndSign l e sysex = refl
    sysex-calm AbortSign l e sysex = refl

    offering : Offering s (offer_by m x moment mark true) (gives links x moment (sign_of mark)) K
        (takes play true (next_tag links x moment (sign_of mark))) (next_tag links x moment (sign_of mark))
    offering = record {
      is_tag = record {
        under = under_of x (links.given x);
        is = refl;
        link = refl;
        sound = mark-sound
            (is_open (signs_in (links.given x))) mark may.suits;
        begun = given-link x (links.given x);
      };
      free = may.free;
      here = may.here;
      within = may.within;
      place = let more = next-place links x moment (sign_of mark) in omega (arith, more);
      fresh = course.places.held x;
      latest = latest-of play (λ y. (under_of y (links.given y)).place) (next_tag links x moment (sign_of mark))
          course.places refl;
      opening = λ e. held_same ∙ opening mark calm_empty
          (sym (mark-opens (link_of m x).is_open mark) ∙
          (ap (λ (f : ℕ → Bool). opens_sign (f x) (sign_of mark)) (sym opens_same) ∙ e));
      alone = λ calm. held_same ∙ calm_empty (sym (mark-realtime mark) ∙ calm);
      begun = λ l e sysex. tag-begin x (under_of x (links.given x)) (key_at moment x) (sign_of mark) l e sysex
          ∙ (given-begin x (links.given x) play.taken (course.taken x)
          ∙ ap (begin_behind (no_key x)) (course.order.turns.turns x
          ∙ (ap (λ (o : Option Tag). filter (tag_in_turn x) (tags_passed play) ++
          (filter (tag_in_turn x) (one o) ++ play.held x)) idle
          ∙ (ap (λ ts. filter (tag_in_turn x) (tags_passed play) ++ ts) (free (sysex-calm (sign_of mark) l e sysex))
          ∙ append-nil (filter (tag_in_turn x) (tags_passed play))))));
      may_go = subst (λ (f : ℕ → Bool). MayGo (goes_out s) f t) (sym opens_same) may_go;
      waits = λ rt some. subst (λ (f : ℕ → Bool). HasOwner (sharing s.routes)
          (stands play f (keys_of (offer_by m x moment mark true))) x Anyone) (sym opens_same)
          (subst (λ (f : ℕ → List Key). HasOwner (sharing s.routes) (stands play (open_of m) f) x Anyone)
          (sym keys_same) (waits rt some));
    }

-- The mark is held.
course-holds : (s : Setup) (m : Merger) (links : Links) (K : Key) (play : Play) (x moment : ℕ) (mark : Mark) →
    Course s m links K play → MayOffer s m links K x moment mark → passes_now m x mark ≡ false →
    IsReached (start_of s) (offer_by m x moment mark false) →
    Course s (offer_by m x moment mark false) (gives links x moment (sign_of mark)) K
    (takes play false (next_tag links x moment (sign_of mark)))
course-holds s m links K play x moment mark course may waits reached = record {
  reached = reached;
  order = order-takes s.routes m play links.present links.stalled K t mark course.order none_offered idle below refl
      refl
      may.free may.here may.within closed calm;
  realtimes = realtimes_routed-takes s.routes m play t mark course.realtimes below closed
      (latest-of play (λ y. (under_of y (links.given y)).place) t course.places refl);
  places = places-takes play (λ y. (under_of y (links.given y)).place)
      (λ y. (under_of y ((gives links x moment (sign_of mark)).given y)).place) t course.places refl
      (next-place links x moment (sign_of mark)) (other-place links x moment (sign_of mark));
  outs = subst (λ (f : ℕ → Bool). OutsKnown (goes_out s) f (tags_passed play))
      (sym (open_kept m x (taken (link_of m x) false moment mark) below refl)) course.outs;
  rises = course.rises;
  held_tags = λ y. tags_at y;
  passed_tags = course.passed_tags;
  sources = course.sources;
  taken = given-tags play links x moment (sign_of mark) course.taken;
  sorted = at_place (λ y (l : Link). AreSorted l.held l.last) m.links x (taken (link_of m x) false moment mark) below
      (sorted-push (link_of m x).held (link_of m x).last (record { arrival = moment; mark = mark }) (course.sorted x)
      later)
      (λ y apart. course.sorted y);
  full = offer-full m links x moment mark false below may.free course.full;
  sysex = given-open m links x moment mark false below fit course.sysex;
  over = given-over links x moment (sign_of mark) (key_at moment x) may.here course.over;
  in_time = offer-in-time m links x moment mark false below may.here course.in_time;
  offering = λ u e. absurd (none≢some u e);
}
  where
    t : Tag
    t = next_tag links x moment (sign_of mark)

    fits : Fits m
    fits = reached-fits s m course.reached

    below : x < length m.links
    below = subst (λ n. x < n) (sym (reached-sources s m course.reached)) may.source

    fit : suits_sign (link_of m x).in_sysex (sign_of mark) ≡ true
    fit = ap (λ b. suits_sign b (sign_of mark)) (course.sysex x) ∙ may.suits

    later : (link_of m x).last ≤ moment
    later = (course.in_time x (key_at moment x) may.here).0

    none_offered : m.offered ≡ None
    none_offered = (fits.quiet may.drained).0

    idle : play.offered ≡ None
    idle = no-offer m.offered play.offered course.order.plays.offered none_offered

    calm : is_realtime_sign (sign_of mark) ≡ false
    calm = mark-realtime mark ∙ waits-why m x mark waits

    closed : (link_of m x).is_open ≡ false
    closed = held-closed m x mark fits (reached-settled s m course.reached may.drained) none_offered below fit waits

    tags_at : (y : ℕ) → AreTags (with_held play.held x (play.held x ++ t ∷ []) y)
    tags_at y = ⊎_elim
        (λ (e : y ≡ x). subst (λ z. AreTags (with_held play.held x (play.held x ++ t ∷ []) z)) (sym e)
        (subst AreTags (sym (with_held-same play.held x (play.held x ++ t ∷ [])))
        (AreTags-push (play.held x) t (course.held_tags x)
        (record {
          under = under_of x (links.given x);
          is = refl;
          link = refl;
          sound = mark-sound
              (is_open (signs_in (links.given x))) mark may.suits;
          begun = given-link x (links.given x);
        }))))
        (λ (apart : y ≢ x). subst AreTags (sym (with_held-other play.held x y (play.held x ++ t ∷ []) apart))
        (course.held_tags y))
        (same_or_not y x)

-- A mark of a link was taken.
pub course-takes : (s : Setup) (m : Merger) (links : Links) (K : Key) (play : Play) (x moment : ℕ) (mark : Mark) →
    Course s m links K play → MayOffer s m links K x moment mark →
    Course s (offered_in m x moment mark) (gives links x moment (sign_of mark)) K
    (takes play (passes_now m x mark) (next_tag links x moment (sign_of mark)))
course-takes s m links K play x moment mark course may = by_test (passes_now m x mark) refl reached
  where
    below : x < length m.links
    below = subst (λ n. x < n) (sym (reached-sources s m course.reached)) may.source

    reached : IsReached (start_of s) (offer_by m x moment mark (passes_now m x mark))
    reached = reached-offer (start_of s) m x moment mark course.reached (offer-may m x moment mark below
        (ap (λ b. suits_sign b (sign_of mark)) (course.sysex x) ∙ may.suits)
        (course.in_time x (key_at moment x) may.here).0 may.drained may.room)

    by_test : (passes : Bool) → passes_now m x mark ≡ passes → IsReached (start_of s) (offer_by m x moment mark passes)
        →
        Course s (offer_by m x moment mark passes) (gives links x moment (sign_of mark)) K
        (takes play passes (next_tag links x moment (sign_of mark)))
    by_test true e got = course-accepts s m links K play x moment mark course may e got
    by_test false e got = course-holds s m links K play x moment mark course may e got
