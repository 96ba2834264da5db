-- What the course of a run gives at its end, and where it stops.
use Rattle.std.proofs.Common.{◌≡◌, ℕ, zero, suc, ◌+◌, ◌<◌, Bool, true, false, List, []}
use Rattle.std.proofs.Common.{◌∷◌, length, None, refl, sym, subst, ◌∙◌, arith}
use Rattle.std.specs.Prelude.{◌&&◌}
use Rattle.mb_stream.specs.Puts.{Put}
use Rattle.mb_merge.specs.declared.source.Held.{Held}
use Rattle.mb_merge.specs.Links.{Link, Merger, link_at, link_of}
use Rattle.mb_merge.specs.Calls.{IsSettled}
use Rattle.mb_merge.proofs.LinkLemmas.{is_owned_below-who}
use Rattle.mb_rig.specs.RigText.{Setup}
use Rattle.mb_rig.specs.Merging.Lines.{Key, Source, marks_of}
use Rattle.mb_rig.specs.Merging.Merged.{AreOfSources, AreFrontsOfSources, IsOfSource}
use Rattle.mb_rig.specs.Merging.Tags.{Tag, AreTags}
use Rattle.mb_rig.specs.Merging.Playing.{Play, tags_passed, report_of}
use Rattle.mb_rig.specs.Merging.Course.{Links, Course}
use Rattle.mb_rig.specs.Merging.Ended.{AreGiven, AreGivenFronts, IsMerged, IsMergedFront}
use Rattle.mb_rig.proofs.Merging.Lateness.{true≢false, none≢some}
use Rattle.mb_rig.proofs.Merging.Reached.{reached-fits, reached-settled}
use Rattle.mb_rig.proofs.Merging.SourceLines.{AreOwnLines, of-source, front-of-source}
use Rattle.mb_rig.proofs.Merging.Given.{tag-line, tag-place}
use Rattle.mb_rig.proofs.Merging.CourseMarks.{no-offer, no-tags}
use Rattle.mb_rig.proofs.Merging.Offers.{owners-present}

pub own-lines : (ts : List Tag) → AreTags ts → AreOwnLines ts
own-lines [] are = tt
own-lines (t ∷ ts) are = (λ l e. ((tag-line t are.0 l e).0, (tag-place t are.0 l e).1), own-lines ts are.1)

-- Where no link has a record, no SysEx is open, and nothing is held.
pub all-closed : (s : Setup) (m : Merger) (links : Links) (K : Key) (play : Play) → Course s m links K play →
    m.draining ≡ false → ((x : ℕ) → links.present x ≡ None) → (o : ℕ) → (link_of m o).is_open ≡ false
all-closed s m links K play course quiet over o = by_test (link_of m o).is_open refl
  where
    by_test : (b : Bool) → (link_of m o).is_open ≡ b → b ≡ false
    by_test false e = refl
    by_test true e = let k = owners-present s m links K play course quiet o e in
        absurd (none≢some k.0 (sym (over o) ∙ k.1))

all-passed : (s : Setup) (m : Merger) (links : Links) (K : Key) (play : Play) → Course s m links K play →
    m.draining ≡ false → ((x : ℕ) → links.present x ≡ None) → (x : ℕ) → (link_of m x).held ≡ []
all-passed s m links K play course quiet over x = by_held (link_of m x).held refl
  where
    settled : IsSettled m
    settled = reached-settled s m course.reached quiet

    within : (ls : List Link) (y : ℕ) (h : Held) (hs : List Held) → (link_at ls y).held ≡ h ∷ hs → y < length ls
    within [] y h hs e = absurd (no_cons e)
      where
        no_cons : ◌≡◌ {A = List Held} [] (h ∷ hs) → ⊥
        no_cons e = cc
    within (l ∷ ls) zero h hs e = omega arith
    within (l ∷ ls) (suc y) h hs e = let below : y < length ls = within ls y h hs e in omega arith

    opened : (b c : Bool) → (b && c) ≡ true → b ≡ true
    opened true c e = refl
    opened false c e = absurd (true≢false (sym e))

    by_held : (hs : List Held) → (link_of m x).held ≡ hs → hs ≡ []
    by_held [] e = refl
    by_held (h ∷ hs) e =
        let owner = is_owned_below-who m.links x (length m.links) (settled.waits_for x h hs (within m.links x h hs e) e)
        in
        absurd (true≢false (sym (opened _ _ owner.owned) ∙ all-closed s m links K play course quiet over owner.at))

pub course-merged : (s : Setup) (m : Merger) (links : Links) (K : Key) (play : Play) (sources : List Source) →
    Course s m links K play → m.draining ≡ false → ((x : ℕ) → links.present x ≡ None) → AreGiven links 0 sources →
    IsMerged s sources (report_of play.passed)
course-merged s m links K play sources course quiet over given = record {
  lines = each 0 sources given;
  realtimes = course.realtimes.merged;
  orderly = course.order.orderly;
}
  where
    idle : play.offered ≡ None
    idle = no-offer m.offered play.offered course.order.plays.offered ((reached-fits s m course.reached).quiet quiet).0

    nothing : (x : ℕ) → play.held x ≡ []
    nothing x = no-tags x (link_of m x).held (play.held x) (course.order.plays.held x)
        (all-passed s m links K play course quiet over x)

    each : (at : ℕ) (rest : List Source) → AreGiven links at rest → AreOfSources at rest (report_of play.passed)
    each at [] given = tt
    each at (source ∷ rest) given = (
      subst (λ (puts : List Put). IsOfSource puts at (report_of play.passed)) given.0
          (of-source play at (links.given at) course.order.turns idle (nothing at) (course.taken at)
          (own-lines (tags_passed play) course.passed_tags)),
      each (at + 1) rest given.1,
    )

pub course-stopped : (s : Setup) (m : Merger) (links : Links) (K : Key) (play : Play) (sources : List Source) →
    Course s m links K play → play.offered ≡ None → AreGivenFronts links 0 sources →
    IsMergedFront s sources (report_of play.passed)
course-stopped s m links K play sources course idle given = record {
  lines = each 0 sources given;
  realtimes = course.realtimes.merged;
  orderly = course.order.orderly;
}
  where
    each : (at : ℕ) (rest : List Source) → AreGivenFronts links at rest →
        AreFrontsOfSources at rest (report_of play.passed)
    each at [] given = tt
    each at (source ∷ rest) given = (
      front-of-source play at (links.given at) (marks_of source) course.order.turns idle given.0 (course.taken at)
          (own-lines (tags_passed play) course.passed_tags),
      each (at + 1) rest given.1,
    )
