-- The tags to an out: which of them there are, and that their lines are what their marks say.
use Rattle.std.proofs.Common.{◌≡◌, ℕ, ◌<◌, Bool, true, false, List, [], ◌∷◌, ◌++◌, length}
use Rattle.std.proofs.Common.{filter, None, refl, ap, sym, subst, ◌∙◌, arith}
use Rattle.std.specs.Prelude.{not, ◌&&◌, ◌==◌, if◌then◌else◌}
use Rattle.std.proofs.lemmas.Bool.Decides.{nat_tests}
use Rattle.mb_message.specs.Signs.{Sign}
use Rattle.mb_merge.specs.Calls.{one}
use Rattle.mb_merge.specs.Links.{Merger}
use Rattle.mb_merge.proofs.Tracks.{routed}
use Rattle.mb_rig.specs.RigText.{Setup}
use Rattle.mb_rig.specs.Merging.Lines.{Key, keyed_marks}
use Rattle.mb_rig.specs.Merging.Report.{goes}
use Rattle.mb_rig.specs.Merging.Tags.{Tag, AreTags, is_realtime_sign}
use Rattle.mb_rig.specs.Merging.Playing.{Play}
use Rattle.mb_rig.specs.Merging.Tags.{nothing_under}
use Rattle.mb_rig.specs.Merging.Playing.{tag_in_turn, tags_passed}
use Rattle.mb_rig.specs.Merging.Heard.{Follows, LinesFit}
use Rattle.mb_rig.specs.Merging.Course.{AreWithin, Course, Links, goes_out}
use Rattle.mb_rig.proofs.Merging.Lateness.{true≢false}
use Rattle.mb_rig.proofs.Merging.SourceLines.{filter-cons, filter-two}
use Rattle.mb_rig.proofs.Merging.FitLemmas.{FitsTurns, FitAnywhere, lines-fit, reading-fits, tags-fit, turns-front}

-- the tags to an out, by the routes
abbrev pub tags_to : List (ℕ × ℕ) → (out : ℕ) → List Tag → List Tag
tags_to routes out ts = filter (λ (t : Tag). goes routes t.source out) ts

pub both-filters : (f g : Tag → Bool) (ts : List Tag) (n : ℕ) → ((t : Tag) → t.source < n → f t ≡ g t) →
    AreWithin n ts →
    filter f ts ≡ filter g ts
both-filters f g [] n same are = refl
both-filters f g (t ∷ ts) n same are = by_test (g t) refl (both-filters f g ts n same are.1)
  where
    by_test : (c : Bool) → g t ≡ c → filter f ts ≡ filter g ts → filter f (t ∷ ts) ≡ filter g (t ∷ ts)
    by_test true e rest = filter-cons f t ts true (same t are.0 ∙ e)
        ∙ (ap (λ us. t ∷ us) rest ∙ sym (filter-cons g t ts true e))
    by_test false e rest = filter-cons f t ts false (same t are.0 ∙ e) ∙ (rest ∙ sym (filter-cons g t ts false e))

-- the turns of a source among the tags to an out
pub turns-to : (routes : List (ℕ × ℕ)) (out x : ℕ) (ts : List Tag) (c : Bool) → goes routes x out ≡ c →
    filter (tag_in_turn x) (tags_to routes out ts) ≡ (if c then filter (tag_in_turn x) ts else [])
turns-to routes out x [] true e = refl
turns-to routes out x [] false e = refl
turns-to routes out x (t ∷ ts) c e = by_tests (goes routes t.source out) refl (tag_in_turn x t) refl c e
    (turns-to routes out x ts c e)
  where
    own : (t : Tag) → tag_in_turn x t ≡ true → t.source ≡ x
    own t e = same t.source x (first (t.source == x) (not (is_realtime_sign t.sign)) e)
      where
        first : (a b : Bool) → (a && b) ≡ true → a ≡ true
        first true b e = refl
        first false b e = absurd (true≢false (sym e))

        same : (a b : ℕ) → (a == b) ≡ true → a ≡ b
        same a b e = grind (arith, nat_tests)

    by_tests : (g : Bool) → goes routes t.source out ≡ g → (h : Bool) → tag_in_turn x t ≡ h → (c : Bool) →
        goes routes x out ≡ c →
        filter (tag_in_turn x) (tags_to routes out ts) ≡ (if c then filter (tag_in_turn x) ts else []) →
        filter (tag_in_turn x) (tags_to routes out (t ∷ ts)) ≡ (if c then filter (tag_in_turn x) (t ∷ ts) else [])
    by_tests true g true h true k rest =
        ap (filter (tag_in_turn x)) (filter-cons (λ (u : Tag). goes routes u.source out) t ts true g)
        ∙ (filter-cons (tag_in_turn x) t (tags_to routes out ts) true h
        ∙ (ap (λ us. t ∷ us) rest ∙ sym (filter-cons (tag_in_turn x) t ts true h)))
    by_tests true g true h false k rest =
        absurd (true≢false (sym g ∙ (ap (λ y. goes routes y out) (own t h) ∙ k)))
    by_tests true g false h true k rest =
        ap (filter (tag_in_turn x)) (filter-cons (λ (u : Tag). goes routes u.source out) t ts true g)
        ∙ (filter-cons (tag_in_turn x) t (tags_to routes out ts) false h
        ∙ (rest ∙ sym (filter-cons (tag_in_turn x) t ts false h)))
    by_tests true g false h false k rest =
        ap (filter (tag_in_turn x)) (filter-cons (λ (u : Tag). goes routes u.source out) t ts true g)
        ∙ (filter-cons (tag_in_turn x) t (tags_to routes out ts) false h ∙ rest)
    by_tests false g true h true k rest =
        absurd (true≢false (sym k ∙ (ap (λ y. goes routes y out) (sym (own t h)) ∙ g)))
    by_tests false g false h true k rest =
        ap (filter (tag_in_turn x)) (filter-cons (λ (u : Tag). goes routes u.source out) t ts false g)
        ∙ (rest ∙ sym (filter-cons (tag_in_turn x) t ts false h))
    by_tests false g h k false e rest =
        ap (filter (tag_in_turn x)) (filter-cons (λ (u : Tag). goes routes u.source out) t ts false g) ∙ rest

pub anywhere-filter : (f : Tag → Bool) (ts : List Tag) → FitAnywhere ts → FitAnywhere (filter f ts)
anywhere-filter f [] fit = tt
anywhere-filter f (t ∷ ts) fit = by_test (f t) refl (anywhere-filter f ts fit.1)
  where
    by_test : (c : Bool) → f t ≡ c → FitAnywhere (filter f ts) → FitAnywhere (filter f (t ∷ ts))
    by_test true e rest = subst FitAnywhere (sym (filter-cons f t ts true e)) (fit.0, rest)
    by_test false e rest = subst FitAnywhere (sym (filter-cons f t ts false e)) rest

pub tags-filter : (f : Tag → Bool) (ts : List Tag) → AreTags ts → AreTags (filter f ts)
tags-filter f [] are = tt
tags-filter f (t ∷ ts) are = by_test (f t) refl (tags-filter f ts are.1)
  where
    by_test : (c : Bool) → f t ≡ c → AreTags (filter f ts) → AreTags (filter f (t ∷ ts))
    by_test true e rest = subst AreTags (sym (filter-cons f t ts true e)) (are.0, rest)
    by_test false e rest = subst AreTags (sym (filter-cons f t ts false e)) rest

-- what has passed of a source fits: it is a front of its reading's turns
pub turns-fit : (s : Setup) (m : Merger) (links : Links) (K : Key) (play : Play) → Course s m links K play → (x : ℕ) →
    FitsTurns (nothing_under x) (filter (tag_in_turn x) (tags_passed play))
turns-fit s m links K play course x = turns-front (nothing_under x) (filter (tag_in_turn x) (tags_passed play))
    (filter (tag_in_turn x) (one play.offered) ++ play.held x)
    (subst (FitsTurns (nothing_under x))
    (sym (filter-two x (λ (m : Sign). not (is_realtime_sign m)) play.taken
    ∙ ap (filter (λ (t : Tag). not (is_realtime_sign t.sign))) (course.taken x)) ∙ course.order.turns.turns x)
    (reading-fits x (nothing_under x) (nothing_under x) (keyed_marks x (links.given x)) refl))

pub out-fits : (s : Setup) (m : Merger) (links : Links) (K : Key) (play : Play) → Course s m links K play → (out : ℕ) →
    LinesFit nothing_under (tags_to s.routes out (tags_passed play))
out-fits s m links K play course out =
    lines-fit nothing_under (tags_to s.routes out (tags_passed play)) (λ x. by_goes x (goes s.routes x out) refl)
    (anywhere-filter (λ (t : Tag). goes s.routes t.source out) (tags_passed play)
    (tags-fit (tags_passed play) course.passed_tags))
  where
    by_goes : (x : ℕ) (c : Bool) → goes s.routes x out ≡ c →
        FitsTurns (nothing_under x) (filter (tag_in_turn x) (tags_to s.routes out (tags_passed play)))
    by_goes x true e = subst (FitsTurns (nothing_under x)) (sym (turns-to s.routes out x (tags_passed play) true e))
        (turns-fit s m links K play course x)
    by_goes x false e = subst (FitsTurns (nothing_under x)) (sym (turns-to s.routes out x (tags_passed play) false e))
        tt

pub same-tags : (s : Setup) (out : ℕ) (ts : List Tag) → out < 16 → AreWithin (length s.ins) ts →
    filter (λ (t : Tag). goes_out s out t.source) ts ≡ tags_to s.routes out ts
same-tags s out ts below are = both-filters (λ (t : Tag). goes_out s out t.source)
    (λ (t : Tag). goes s.routes t.source out) ts
    (length s.ins) (λ t within. routed (length s.ins) (length s.outs) t.source out s.routes within below) are

pub out-follows : (s : Setup) (m : Merger) (links : Links) (K : Key) (play : Play) → Course s m links K play →
    (out : ℕ) →
    out < 16 → Follows None (tags_to s.routes out (tags_passed play))
out-follows s m links K play course out below =
    subst (Follows None) (same-tags s out (tags_passed play) below course.sources) (course.outs.follows out)
