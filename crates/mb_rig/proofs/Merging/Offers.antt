-- What the course knows as a mark is offered, and what an offer keeps whether the mark passes at once or not.
use Rattle.std.proofs.Common.{◌≡◌, ◌≢◌, ⊎_elim, ℕ, zero, suc, ◌+◌, ◌<◌, ◌≤◌, Bool, true, false, List, []}
use Rattle.std.proofs.Common.{◌∷◌, ◌++◌, length, filter, Option, Some, None, refl, ap, sym, subst, ◌∙◌, arith}
use Rattle.std.proofs.Common.{append-nil}
use Rattle.std.specs.Prelude.{◌==◌, if◌then◌else◌, slice_set}
use Rattle.std.proofs.lemmas.Bool.Decides.{nat_tests}
use Rattle.std.proofs.lemmas.List.Elements.{filter-append}
use Rattle.mb_message.specs.declared.mark.Mark.{Mark}
use Rattle.mb_message.specs.Signs.{Sign, sign_of, suits_sign}
use Rattle.mb_stream.specs.Puts.{Put, At, signs_in}
use Rattle.mb_stream.specs.Standing.{is_open}
use Rattle.mb_stream.proofs.StandingLemmas.{open_after, is_open-push}
use Rattle.mb_merge.specs.declared.source.Held.{Held}
use Rattle.mb_merge.specs.Links.{Link, Merger, link_at, link_of}
use Rattle.mb_merge.specs.Passing.{opens, taken, offered_mark}
use Rattle.mb_merge.specs.Calls.{IsSettled}
use Rattle.mb_merge.proofs.Flows.{link_at-set_same, link_at-set_other}
use Rattle.mb_merge.proofs.Fits.{Fits}
use Rattle.mb_rig.specs.RigText.{Setup}
use Rattle.mb_rig.specs.Merging.Lines.{Key, key_at}
use Rattle.mb_rig.specs.Merging.Run.{Drained}
use Rattle.mb_rig.specs.Merging.Routed.{run_of}
use Rattle.mb_rig.specs.Merging.Tags.{Tag, is_tag_of, tags_of}
use Rattle.mb_rig.specs.Merging.Playing.{Play}
use Rattle.mb_rig.specs.Merging.Tags.{under_of}
use Rattle.mb_rig.specs.Merging.Order.{newest, sharing}
use Rattle.mb_rig.specs.Merging.Course.{Links, Course, AreSorted}
use Rattle.mb_rig.specs.Merging.Course.{gives, next_tag}
use Rattle.mb_rig.proofs.Merging.Lateness.{true≢false, none≢some, some_same, same_or_not}
use Rattle.mb_rig.proofs.Merging.RouterEvents.{drained_of}
use Rattle.mb_rig.proofs.Merging.Reached.{reached-fits, reached-settled, reached-shares}
use Rattle.mb_rig.proofs.Merging.Given.{tags_of-push, place-push, signs-push}
use Rattle.mb_rig.proofs.Merging.Given.{here-same, elsewhere}
use Rattle.mb_rig.proofs.Merging.CourseMarks.{suits-opens, nothing-held}

-- the router behind an offer that passes at once, or doesn't
abbrev pub offer_by : Merger → (x moment : ℕ) → Mark → (passes : Bool) → Merger
offer_by m x moment mark passes = record {
  links = slice_set m.links x (taken (link_of m x) passes moment mark);
  outs = m.outs;
  offered = offered_mark passes x moment mark;
  draining = true;
}

-- held marks stay sorted

pub sorted-later : (hs : List Held) (last later : ℕ) → AreSorted hs last → last ≤ later → AreSorted hs later
sorted-later [] last later sorted le = tt
sorted-later (h ∷ hs) last later sorted le = (
  sorted.0,
  omega (arith, sorted.1, le),
  sorted-later hs last later sorted.2
      le,
)

pub sorted-push : (hs : List Held) (last : ℕ) (h : Held) → AreSorted hs last → last ≤ h.arrival →
    AreSorted (hs ++ h ∷ []) h.arrival
sorted-push [] last h sorted le = (tt, omega arith, tt)
sorted-push (g ∷ []) last h sorted le =
    let at : g.arrival ≤ last = sorted.1 in (omega (arith, at, le), omega (arith, at, le), (tt, omega arith, tt))
sorted-push (g ∷ k ∷ hs) last h sorted le =
    let at : g.arrival ≤ last = sorted.1 in (sorted.0, omega (arith, at, le), sorted-push (k ∷ hs) last h sorted.2 le)

-- a link by its place, one being changed
pub at_place : (P : ℕ → Link → Type 0) (links : List Link) (x : ℕ) (link : Link) → x < length links → P x link →
    ((y : ℕ) → y ≢ x → P y (link_at links y)) → (y : ℕ) → P y (link_at (slice_set links x link) y)
at_place P links x link below here there y = ⊎_elim
    (λ (e : y ≡ x). subst (λ z. P z (link_at (slice_set links x link) z)) (sym e)
    (subst (P x) (sym (link_at-set_same links x link below)) here))
    (λ (apart : y ≢ x). subst (P y) (sym (link_at-set_other links x y link apart)) (there y apart))
    (same_or_not y x)

pub filter-one-push : (x : ℕ) (ts : List Tag) (t : Tag) (c : Bool) → is_tag_of x t ≡ c →
    filter (is_tag_of x) (ts ++ t ∷ []) ≡ filter (is_tag_of x) ts ++ (if c then t ∷ [] else [])
filter-one-push x ts t c e = filter-append (is_tag_of x) ts (t ∷ [])
    ∙ ap (λ (b : Bool). filter (is_tag_of x) ts ++ (if b then t ∷ [] else [])) e

pub open-within : (ls : List Link) (y : ℕ) → (link_at ls y).is_open ≡ true → y < length ls
open-within [] y e = absurd (true≢false (sym e))
open-within (l ∷ ls) zero e = omega arith
open-within (l ∷ ls) (suc y) e = let below : y < length ls = open-within ls y e in omega arith

pub owners-present : (s : Setup) (m : Merger) (links : Links) (K : Key) (play : Play) → Course s m links K play →
    m.draining ≡ false → (o : ℕ) → (link_of m o).is_open ≡ true → (k : Key) × (links.present o ≡ Some k)
owners-present s m links K play course quiet o opened = by_present (links.present o) refl
  where
    fits : Fits m
    fits = reached-fits s m course.reached

    by_present : (p : Option Key) → links.present o ≡ p → (k : Key) × (links.present o ≡ Some k)
    by_present (Some k) e = (k, e)
    by_present None e =
        let none : (link_of m o).held ≡ [] =
        (reached-settled s m course.reached quiet).owners o (open-within m.links o opened) opened in
        absurd (true≢false (sym opened ∙ (nothing-held m o fits (fits.quiet quiet).0 none
        ∙ (course.sysex o ∙ course.over o e))))

pub course-drained : (s : Setup) (m : Merger) (links : Links) (K : Key) (play : Play) → Course s m links K play →
    m.draining ≡ false → Drained (sharing s.routes) (run_of m links.present links.stalled K (newest play))
course-drained s m links K play course quiet =
    drained_of (sharing s.routes) m links.present links.stalled K (newest play) settled
    (reached-shares s m course.reached)
    (λ o e. (free o e, owners-present s m links K play course quiet o e)) (λ x e none. some x (course.full x e) none)
  where
    settled : IsSettled m
    settled = reached-settled s m course.reached quiet

    some : (x : ℕ) → 1024 ≤ length (link_of m x).held → (link_of m x).held ≡ [] → ⊥
    some x many none = let few : length (link_of m x).held ≡ 0 = ap length none in omega (arith, many, few)

    free : (o : ℕ) → (link_of m o).is_open ≡ true → links.stalled o ≡ false
    free o e = by_test (links.stalled o) refl
      where
        by_test : (b : Bool) → links.stalled o ≡ b → b ≡ false
        by_test false f = refl
        by_test true f = absurd (some o (course.full o f) (settled.owners o (open-within m.links o e) e))

-- the marks given, one more of this link

pub given-tags : (play : Play) (links : Links) (x moment : ℕ) (sign : Sign) →
    ((y : ℕ) → filter (is_tag_of y) play.taken ≡ tags_of y (links.given y)) → (y : ℕ) →
    filter (is_tag_of y) (play.taken ++ next_tag links x moment sign ∷ []) ≡ tags_of y
    ((gives links x moment sign).given y)
given-tags play links x moment sign known y = ⊎_elim own other (same_or_not y x)
  where
    t : Tag
    t = next_tag links x moment sign

    same : (a b : ℕ) → a ≡ b → (b == a) ≡ true
    same a b e = grind (arith, nat_tests)

    differ : (a b : ℕ) → a ≢ b → (b == a) ≡ false
    differ a b e = grind (arith, nat_tests, e)

    own : y ≡ x → filter (is_tag_of y) (play.taken ++ next_tag links x moment sign ∷ []) ≡ tags_of y
        ((gives links x moment sign).given y)
    own e = subst (λ z. filter (is_tag_of z) (play.taken ++ next_tag links x moment sign ∷ []) ≡ tags_of z
        ((gives links x moment sign).given z)) (sym e)
        (filter-one-push x play.taken (next_tag links x moment sign) true (same x x refl)
        ∙ (ap (λ ts. ts ++ next_tag links x moment sign ∷ []) (known x)
        ∙ (sym (tags_of-push x (links.given x) moment sign)
        ∙ ap (tags_of x) (sym (here-same links.given x (links.given x ++ At moment sign ∷ []))))))

    other : y ≢ x → filter (is_tag_of y) (play.taken ++ next_tag links x moment sign ∷ []) ≡ tags_of y
        ((gives links x moment sign).given y)
    other apart = filter-one-push y play.taken (next_tag links x moment sign) false (differ y x apart)
        ∙ (append-nil (filter (is_tag_of y) play.taken) ∙ (known y
        ∙ ap (tags_of y) (sym (elsewhere links.given x (links.given x ++ At moment sign ∷ []) y apart))))

pub next-place : (links : Links) (x moment : ℕ) (sign : Sign) →
    (under_of x ((gives links x moment sign).given x)).place ≡ (under_of x (links.given x)).place + 1
next-place links x moment sign = ap (λ (puts : List Put). (under_of x puts).place)
    (here-same links.given x (links.given x ++ At moment sign ∷ [])) ∙ place-push x (links.given x) moment sign

pub other-place : (links : Links) (x moment : ℕ) (sign : Sign) (y : ℕ) → y ≢ x →
    (under_of y ((gives links x moment sign).given y)).place ≡ (under_of y (links.given y)).place
other-place links x moment sign y apart = ap (λ (puts : List Put). (under_of y puts).place)
    (elsewhere links.given x (links.given x ++ At moment sign ∷ []) y apart)

pub given-open : (m : Merger) (links : Links) (x moment : ℕ) (mark : Mark) (passes : Bool) → x < length m.links →
    suits_sign (link_of m x).in_sysex (sign_of mark) ≡ true →
    ((y : ℕ) → (link_of m y).in_sysex ≡ is_open (signs_in (links.given y))) →
    (y : ℕ) → (link_at (slice_set m.links x (taken (link_of m x) passes moment mark)) y).in_sysex
    ≡ is_open (signs_in ((gives links x moment (sign_of mark)).given y))
given-open m links x moment mark passes below fit known =
    at_place (λ y (l : Link). l.in_sysex ≡ is_open (signs_in ((gives links x moment (sign_of mark)).given y)))
    m.links x (taken (link_of m x) passes moment mark) below here there
  where
    here : opens (link_of m x).in_sysex mark ≡ is_open (signs_in ((gives links x moment (sign_of mark)).given x))
    here = suits-opens (link_of m x).in_sysex mark fit
        ∙ (ap (λ b. open_after b (sign_of mark)) (known x)
        ∙ (sym (is_open-push (signs_in (links.given x)) (sign_of mark))
        ∙ ap is_open (sym (ap signs_in (here-same links.given x (links.given x ++ At moment (sign_of mark) ∷ []))
        ∙ signs-push (links.given x) moment (sign_of mark)))))

    there : (y : ℕ) → y ≢ x → (link_of m y).in_sysex ≡ is_open
        (signs_in ((gives links x moment (sign_of mark)).given y))
    there y apart = known y ∙ ap (λ puts. is_open (signs_in puts))
        (sym (elsewhere links.given x (links.given x ++ At moment (sign_of mark) ∷ []) y apart))

pub given-over : (links : Links) (x moment : ℕ) (sign : Sign) (k : Key) → links.present x ≡ Some k →
    ((y : ℕ) → links.present y ≡ None → is_open (signs_in (links.given y)) ≡ false) →
    (y : ℕ) → links.present y ≡ None → is_open (signs_in ((gives links x moment sign).given y)) ≡ false
given-over links x moment sign k here known y none = ⊎_elim
    (λ (e : y ≡ x). absurd (none≢some k (sym none ∙ (ap links.present e ∙ here))))
    (λ (apart : y ≢ x). ap (λ puts. is_open (signs_in puts))
    (elsewhere links.given x (links.given x ++ At moment sign ∷ []) y apart) ∙ known y none)
    (same_or_not y x)

pub offer-in-time : (m : Merger) (links : Links) (x moment : ℕ) (mark : Mark) (passes : Bool) → x < length m.links →
    links.present x ≡ Some (key_at moment x) →
    ((y : ℕ) (k : Key) → links.present y ≡ Some k → ((link_of m y).last ≤ k.moment) × (k.link ≡ y)) →
    (y : ℕ) (k : Key) → links.present y ≡ Some k →
    ((link_at (slice_set m.links x (taken (link_of m x) passes moment mark)) y).last ≤ k.moment) × (k.link ≡ y)
offer-in-time m links x moment mark passes below here known =
    at_place (λ y (l : Link). (k : Key) → links.present y ≡ Some k → (l.last ≤ k.moment) × (k.link ≡ y))
    m.links x (taken (link_of m x) passes moment mark) below
    (λ k e. let same : moment ≡ k.moment = ap (λ (c : Key). c.moment) (some_same (sym here ∙ e)) in
    (omega (arith, same), (known x k e).1))
    (λ y apart. known y)

pub offer-full : (m : Merger) (links : Links) (x moment : ℕ) (mark : Mark) (passes : Bool) → x < length m.links →
    links.stalled x ≡ false → ((y : ℕ) → links.stalled y ≡ true → 1024 ≤ length (link_of m y).held) →
    (y : ℕ) → links.stalled y ≡ true →
    1024 ≤ length (link_at (slice_set m.links x (taken (link_of m x) passes moment mark)) y).held
offer-full m links x moment mark passes below free known =
    at_place (λ y (l : Link). links.stalled y ≡ true → 1024 ≤ length l.held)
    m.links x (taken (link_of m x) passes moment mark) below
    (λ e. absurd (true≢false (sym e ∙ free))) (λ y apart. known y)
