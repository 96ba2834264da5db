-- A call for the next mark: the course goes on.
use Rattle.std.proofs.Common.{◌≡◌, ◌≢◌, ⊎_elim, ℕ, ◌<◌, true, false, List, ◌∷◌, length, drop}
use Rattle.std.proofs.Common.{Option, Some, None, refl, ap, sym, subst, ◌∙◌}
use Rattle.std.specs.Prelude.{slice_get}
use Rattle.std.proofs.lemmas.Option.{none-some}
use Rattle.mb_merge.specs.declared.source.Held.{Held}
use Rattle.mb_merge.specs.declared.router.Passed.{Passed}
use Rattle.mb_merge.specs.declared.waiting.Head.{Head}
use Rattle.mb_merge.specs.Links.{Merger, link_of}
use Rattle.mb_merge.specs.Passing.{may_pass, least, ready_by, drained, head_passes, held_passes, offered_passes}
use Rattle.mb_merge.specs.Passing.{next_of}
use Rattle.mb_merge.specs.Calls.{IsLeast}
use Rattle.mb_merge.proofs.LeastLemmas.{least-IsLeast}
use Rattle.mb_merge.proofs.Histories.{head_list, ready-may}
use Rattle.mb_rig.specs.RigText.{Setup}
use Rattle.mb_rig.specs.Merging.Lines.{Key, arrival_of}
use Rattle.mb_rig.specs.Merging.Tags.{Tag, AreTags}
use Rattle.mb_rig.specs.Merging.Playing.{Play, IsHeldMark, IsOffered, offered_goes, head_goes}
use Rattle.mb_rig.specs.Merging.Course.{Links, Course, IsReached, at_link, freed, start_of}
use Rattle.mb_rig.specs.Merging.Calm.{Calm}
use Rattle.mb_rig.specs.Merging.Passes.{Passes, PassesOn}
use Rattle.mb_rig.proofs.Merging.CalmSteps.{calm-offered, calm-head}
use Rattle.mb_rig.proofs.Merging.Lateness.{same_or_not, none≢some}
use Rattle.mb_rig.proofs.Merging.PlaySteps.{first_tag}
use Rattle.mb_rig.proofs.Merging.Reached.{reached-next}
use Rattle.mb_rig.proofs.Merging.Given.{here-same, elsewhere}
use Rattle.mb_rig.proofs.Merging.CourseMarks.{no-offer}
use Rattle.mb_rig.proofs.Merging.CoursePasses.{course-offered, course-head}

-- nothing passes: the router is drained
course-quiet : (s : Setup) (m : Merger) (links : Links) (K : Key) (play : Play) → Course s m links K play →
    play.offered ≡ None → IsReached (start_of s) (drained m) → Course s (drained m) links K play
course-quiet s m links K play course idle reached = record {
  reached = reached;
  order = record {
    plays = record { held = course.order.plays.held; offered = course.order.plays.offered };
    turns = course.order.turns;
    late = course.order.late;
    within = course.order.within;
    bounded = course.order.bounded;
    orderly = course.order.orderly;
  };
  realtimes = course.realtimes;
  places = course.places;
  outs = course.outs;
  rises = course.rises;
  held_tags = course.held_tags;
  passed_tags = course.passed_tags;
  sources = course.sources;
  taken = course.taken;
  sorted = course.sorted;
  full = course.full;
  sysex = course.sysex;
  over = course.over;
  in_time = course.in_time;
  offering = λ u e. absurd (none≢some u (sym idle ∙ e));
}

freed-free : (links : Links) (x : ℕ) → links.stalled x ≡ false → links ≡ freed links x
freed-free links x free = λ i. record {
  present = links.present;
  stalled = λ y. each y i;
  given = links.given;
}
  where
    each : (y : ℕ) → links.stalled y ≡ at_link links.stalled x false y
    each y = ⊎_elim
        (λ (e : y ≡ x). ap links.stalled e ∙ (free ∙ (sym (here-same links.stalled x false)
        ∙ ap (at_link links.stalled x false) (sym e))))
        (λ (apart : y ≢ x). sym (elsewhere links.stalled x false y apart))
        (same_or_not y x)

by_offered : (s : Setup) (m : Merger) (links : Links) (K : Key) (play : Play) (q : Passed) (o : Option Tag) →
    Course s m links K play → m.offered ≡ Some q → play.offered ≡ o → IsOffered (Some q) o →
    IsReached (start_of s) (offered_passes m (Some q)).1 → Passes s m (offered_passes m (Some q)).1 links K play q
by_offered s m links K play q None course is_q is_t is reached = absurd is
by_offered s m links K play q (Some t) course is_q is_t is reached = record {
  tag = t;
  is_tag = (course.offering t is_t).is_tag;
  is = is;
  after = offered_goes play t (arrival_of K);
  taken = refl;
  passed = refl;
  course = subst (λ (l : Links). Course s (offered_passes m (Some q)).1 l K (offered_goes play t (arrival_of K)))
      (freed-free links q.source (ap links.stalled is.0 ∙ (course.offering t is_t).free))
      (course-offered s m links K play q t course is_q is_t is.0 is.1 is.2 reached);
  calm = λ calm. subst (λ (l : Links). Calm s (offered_passes m (Some q)).1 l K (offered_goes play t (arrival_of K)))
      (freed-free links q.source (ap links.stalled is.0 ∙ (course.offering t is_t).free))
      (calm-offered s m links K play q t course calm is_q is_t is.0 is.2);
}

by_head : (s : Setup) (m : Merger) (links : Links) (K : Key) (play : Play) (x : ℕ) (h : Held) (hs : List Held) →
    Course s m links K play → m.offered ≡ None → play.offered ≡ None → x < length m.links →
    (link_of m x).held ≡ h ∷ hs →
    may_pass m.links x h.mark ≡ true → IsReached (start_of s) (head_passes m x (Some h)).1 →
    Passes s m (head_passes m x (Some h)).1 links K play (record { source = x; arrival = h.arrival; mark = h.mark })
by_head s m links K play x h hs course none idle below is may reached =
    let t = first_tag m play x h hs course.order.plays is in
    by_tag t.0 t.1 t.2 t.3 t.4
  where
    by_source : (t : Tag) (rest : List Tag) → play.held t.source ≡ t ∷ rest → IsHeldMark h t → t.key.link ≡ t.source →
        t.source < length m.links → (link_of m t.source).held ≡ h ∷ hs → may_pass m.links t.source h.mark ≡ true →
        IsReached (start_of s) (head_passes m t.source (Some h)).1 →
        Passes s m (head_passes m t.source (Some h)).1 links K play
        (record { source = t.source; arrival = h.arrival; mark = h.mark })
    by_source t rest first mark link below is may reached = record {
      tag = t;
      is_tag = (subst AreTags first (course.held_tags t.source)).0;
      is = (refl, mark.0, mark.1, link);
      after = head_goes play t (arrival_of K);
      taken = refl;
      passed = refl;
      course = course-head s m links K play t rest h hs course none idle below is first mark.0 mark.1 may reached;
      calm = λ calm. calm-head s m links K play t h hs course calm none below is
          (subst AreTags first (course.held_tags t.source)).0 mark.0 mark.1 may;
    }

    by_tag : (t : Tag) → play.held x ≡ t ∷ drop 1 (play.held x) → IsHeldMark h t → t.source ≡ x → t.key.link ≡ x →
        Passes s m (head_passes m x (Some h)).1 links K play (record { source = x; arrival = h.arrival; mark = h.mark })
    by_tag t first mark own link =
        subst (λ y. Passes s m (head_passes m y (Some h)).1 links K play
        (record { source = y; arrival = h.arrival; mark = h.mark })) own
        (by_source t (drop 1 (play.held x)) (ap play.held own ∙ first) mark (link ∙ sym own)
        (subst (λ y. y < length m.links) (sym own) below) (subst (λ y. (link_of m y).held ≡ h ∷ hs) (sym own) is)
        (subst (λ y. may_pass m.links y h.mark ≡ true) (sym own) may)
        (subst (λ y. IsReached (start_of s) (head_passes m y (Some h)).1) (sym own) reached))

by_best : (s : Setup) (m : Merger) (links : Links) (K : Key) (play : Play) (best : Head) → Course s m links K play →
    m.offered ≡ None → play.offered ≡ None → least m.links ≡ Some best →
    IsReached (start_of s) (held_passes m (Some best)).1 →
    PassesOn s m links K play (held_passes m (Some best)).0 (held_passes m (Some best)).1
by_best s m links K play best course none idle is reached =
    by_held (slice_get (link_of m best.source).held 0) refl (subst (IsLeast m.links) is (least-IsLeast m.links)) reached
  where
    by_held : (o : Option Held) → slice_get (link_of m best.source).held 0 ≡ o → IsLeast m.links (Some best) →
        IsReached (start_of s) (head_passes m best.source o).1 →
        PassesOn s m links K play (head_passes m best.source o).0 (head_passes m best.source o).1
    by_held None at first reached = absurd (none-some best (sym (ap (ready_by m.links best.source) at) ∙ first.0))
    by_held (Some h) at first reached =
        let split = head_list (link_of m best.source).held h at in
        by_head s m links K play best.source h split.0 course none idle first.1 split.1
        (ready-may m.links best.source h best (sym (ap (ready_by m.links best.source) at) ∙ first.0)) reached

by_least : (s : Setup) (m : Merger) (links : Links) (K : Key) (play : Play) (best : Option Head) →
    Course s m links K play →
    m.offered ≡ None → play.offered ≡ None → least m.links ≡ best → IsReached (start_of s) (held_passes m best).1 →
    PassesOn s m links K play (held_passes m best).0 (held_passes m best).1
by_least s m links K play None course none idle is reached = (
  course-quiet s m links K play course idle reached,
  λ calm. record
      { free = calm.free; ahead = calm.ahead; order = calm.order },
)
by_least s m links K play (Some best) course none idle is reached = by_best s m links K play best course none idle is
    reached

by_next : (s : Setup) (m : Merger) (links : Links) (K : Key) (play : Play) (o : Option Passed) →
    Course s m links K play →
    m.offered ≡ o → IsReached (start_of s) (offered_passes m o).1 →
    PassesOn s m links K play (offered_passes m o).0 (offered_passes m o).1
by_next s m links K play None course is reached =
    by_least s m links K play (least m.links) course is (no-offer m.offered play.offered course.order.plays.offered is)
    refl reached
by_next s m links K play (Some q) course is reached =
    by_offered s m links K play q play.offered course is refl
    (subst (λ (o : Option Passed). IsOffered o play.offered) is course.order.plays.offered) reached

pub course-next : (s : Setup) (m : Merger) (links : Links) (K : Key) (play : Play) → Course s m links K play →
    PassesOn s m links K play (next_of m).0 (next_of m).1
course-next s m links K play course =
    by_next s m links K play m.offered course refl (reached-next (start_of s) m course.reached)
