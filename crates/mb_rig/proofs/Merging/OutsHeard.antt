-- What passed to an out means what the report's lines to it mean, and may stand there.
use Rattle.std.proofs.Common.{◌≡◌, ℕ, ◌<◌, Bool, true, false, List, [], ◌∷◌, ◌++◌, map}
use Rattle.std.proofs.Common.{filter, Option, Some, None, refl, ap, sym, subst, ◌∙◌, append-nil}
use Rattle.std.specs.Prelude.{not, ◌&&◌, if◌then◌else◌}
use Rattle.std.specs.List.{list_all}
use Rattle.mb_message.specs.Bytes.{is_data}
use Rattle.mb_message.specs.Signs.{Sign, ShortSign, RtSign, OpenSign, ByteSign, EndSign, AbortSign}
use Rattle.mb_stream.specs.Denotation.{denotation, left_open}
use Rattle.mb_stream.specs.Puts.{Put, signs_in}
use Rattle.mb_stream.specs.Standing.{AreValid, is_valid, suited}
use Rattle.mb_stream.proofs.StandingLemmas.{Suited, suited-from_Suited}
use Rattle.mb_carrier.specs.Carrier.{den, written}
use Rattle.mb_carrier.specs.Word.{IsSpec}
use Rattle.mb_carrier.specs.declared.spec.Spec.{Spec}
use Rattle.mb_carrier.proofs.ConversionLemmas.{laws}
use Rattle.mb_merge.specs.Links.{Merger}
use Rattle.mb_rig.specs.RigText.{Setup}
use Rattle.mb_rig.specs.Merging.Lines.{Key, Line}
use Rattle.mb_rig.specs.Merging.Report.{Passing, goes, lines_to}
use Rattle.mb_rig.specs.Merging.Merged.{items_of, realtimes_of, meant_by}
use Rattle.mb_rig.specs.Merging.Tags.{Tag, AreTags, is_sound}
use Rattle.mb_rig.specs.Merging.Playing.{PassedTag, Play}
use Rattle.mb_rig.specs.Merging.Tags.{nothing_under}
use Rattle.mb_rig.specs.Merging.Playing.{line_of, report_of, tags_passed}
use Rattle.mb_rig.specs.Merging.Heard.{Follows, MayFollow, end_owner, end_unders, open_data}
use Rattle.mb_rig.specs.Merging.Heard.{owner_behind}
use Rattle.mb_rig.specs.Merging.Course.{Course, Links, goes_out}
use Rattle.mb_rig.specs.Merging.Ended.{MeansSoFar, puts_to, put_of}
use Rattle.mb_rig.proofs.Merging.Lateness.{true≢false}
use Rattle.mb_rig.proofs.Merging.HeardLemmas.{is_taken, items-heard, lines_heard, realtimes-heard, signs_heard}
use Rattle.mb_rig.proofs.Merging.SourceLines.{filter-cons}
use Rattle.mb_rig.proofs.Merging.Given.{tag-line}
use Rattle.mb_rig.proofs.Merging.CourseEnds.{all-closed}
use Rattle.mb_rig.proofs.Merging.OutTags.{tags_to, tags-filter, out-fits, same-tags, out-follows}

-- lines and marks to an out, by the tags

lines-to : (routes : List (ℕ × ℕ)) (out : ℕ) (ps : List PassedTag) → AreTags (map (λ (x : PassedTag). x.tag) ps) →
    lines_heard (tags_to routes out (map (λ (x : PassedTag). x.tag) ps)) ≡ lines_to routes out (report_of ps)
lines-to routes out [] are = refl
lines-to routes out (p ∷ ps) are =
    by_line p.tag.line refl (goes routes p.tag.source out) refl (lines-to routes out ps are.1)
  where
    rest_tags : List Tag
    rest_tags = map (λ (x : PassedTag). x.tag) ps

    by_line : (line : Option Line) → p.tag.line ≡ line → (c : Bool) → goes routes p.tag.source out ≡ c →
        lines_heard (tags_to routes out (map (λ (x : PassedTag). x.tag) ps)) ≡ lines_to routes out (report_of ps) →
        lines_heard (tags_to routes out (p.tag ∷ map (λ (x : PassedTag). x.tag) ps)) ≡ lines_to routes out
        (report_of (p ∷ ps))
    by_line None e true g rest =
        ap lines_heard (filter-cons (λ (t : Tag). goes routes t.source out) p.tag (map (λ (x : PassedTag). x.tag) ps)
        true g)
        ∙ (ap (λ (o : Option Line). (elim o [ None ↦ [] | Some l ↦ l ∷ [] ]) ++ lines_heard
        (tags_to routes out (map (λ (x : PassedTag). x.tag) ps))) e
        ∙ (rest ∙ ap (λ (o : Option Line). lines_to routes out (line_of p.moment o ++ report_of ps)) (sym e)))
    by_line None e false g rest =
        ap lines_heard (filter-cons (λ (t : Tag). goes routes t.source out) p.tag (map (λ (x : PassedTag). x.tag) ps)
        false g)
        ∙ (rest ∙ ap (λ (o : Option Line). lines_to routes out (line_of p.moment o ++ report_of ps)) (sym e))
    by_line (Some l) e true g rest =
        let own : goes routes l.source out ≡ true = ap (λ y. goes routes y out) (tag-line p.tag are.0 l e).0 ∙ g in
        ap lines_heard (filter-cons (λ (t : Tag). goes routes t.source out) p.tag (map (λ (x : PassedTag). x.tag) ps)
        true g)
        ∙ (ap (λ (o : Option Line). (elim o [ None ↦ [] | Some l ↦ l ∷ [] ]) ++ lines_heard
        (tags_to routes out (map (λ (x : PassedTag). x.tag) ps))) e
        ∙ (ap (λ ls. l ∷ ls) rest
        ∙ (sym (ap (map (λ (q : Passing). q.line)) (filter-cons (λ (q : Passing). goes routes q.line.source out)
        (record { line = l; moment = p.moment }) (report_of ps) true own))
        ∙ ap (λ (o : Option Line). lines_to routes out (line_of p.moment o ++ report_of ps)) (sym e))))
    by_line (Some l) e false g rest =
        let own : goes routes l.source out ≡ false = ap (λ y. goes routes y out) (tag-line p.tag are.0 l e).0 ∙ g in
        ap lines_heard (filter-cons (λ (t : Tag). goes routes t.source out) p.tag (map (λ (x : PassedTag). x.tag) ps)
        false g)
        ∙ (rest
        ∙ (sym (ap (map (λ (q : Passing). q.line)) (filter-cons (λ (q : Passing). goes routes q.line.source out)
        (record { line = l; moment = p.moment }) (report_of ps) false own))
        ∙ ap (λ (o : Option Line). lines_to routes out (line_of p.moment o ++ report_of ps)) (sym e)))

pub signs-to : (routes : List (ℕ × ℕ)) (out : ℕ) (ps : List PassedTag) →
    signs_in (puts_to routes out ps) ≡ signs_heard (tags_to routes out (map (λ (x : PassedTag). x.tag) ps))
signs-to routes out [] = refl
signs-to routes out (p ∷ ps) = by_test (goes routes p.tag.source out) refl (signs-to routes out ps)
  where
    by_test : (c : Bool) → goes routes p.tag.source out ≡ c →
        signs_in (puts_to routes out ps) ≡ signs_heard (tags_to routes out (map (λ (x : PassedTag). x.tag) ps)) →
        signs_in (puts_to routes out (p ∷ ps)) ≡ signs_heard
        (tags_to routes out (p.tag ∷ map (λ (x : PassedTag). x.tag) ps))
    by_test true e rest =
        ap (λ qs. signs_in (map put_of qs)) (passed-cons (λ (x : PassedTag). goes routes x.tag.source out) p ps true e)
        ∙ (ap (λ (ms : List Sign). p.tag.sign ∷ ms) rest
        ∙ ap signs_heard (sym (filter-cons (λ (t : Tag). goes routes t.source out) p.tag
        (map (λ (x : PassedTag). x.tag) ps) true e)))
      where
        passed-cons : (f : PassedTag → Bool) (x : PassedTag) (xs : List PassedTag) (c : Bool) → f x ≡ c →
            filter f (x ∷ xs) ≡ (if c then x ∷ filter f xs else filter f xs)
        passed-cons f x xs c e = filter-cons f x xs c e
    by_test false e rest =
        ap (λ qs. signs_in (map put_of qs)) (filter-cons (λ (x : PassedTag). goes routes x.tag.source out) p ps false e)
        ∙ (rest ∙ ap signs_heard (sym (filter-cons (λ (t : Tag). goes routes t.source out) p.tag
        (map (λ (x : PassedTag). x.tag) ps) false e)))

-- What passed to an out means so far what the report's lines to it mean.
pub course-heard : (s : Setup) (m : Merger) (links : Links) (K : Key) (play : Play) (out : ℕ) →
    Course s m links K play →
    out < 16 → MeansSoFar (signs_in (puts_to s.routes out play.passed)) (lines_to s.routes out (report_of play.passed))
course-heard s m links K play out course below =
    subst (λ (ms : List Sign). MeansSoFar ms (lines_to s.routes out (report_of play.passed)))
    (sym (signs-to s.routes out play.passed))
    (subst (MeansSoFar (signs_heard (tags_to s.routes out (tags_passed play))))
    (lines-to s.routes out play.passed course.passed_tags)
    (record {
      open_data = open_data (end_unders nothing_under (tags_to s.routes out (tags_passed play)))
          (end_owner None (tags_to s.routes out (tags_passed play)));
      items = items-heard nothing_under None (tags_to s.routes out (tags_passed play))
          (out-fits s m links K play course out)
          (out-follows s m links K play course out below);
      realtimes = realtimes-heard nothing_under None 0 (tags_to s.routes out (tags_passed play))
          (out-fits s m links K play course out) (out-follows s m links K play course out below);
    }))

-- At the end it means just that.
pub course-means : (s : Setup) (m : Merger) (links : Links) (K : Key) (play : Play) (out : ℕ) →
    Course s m links K play →
    m.draining ≡ false → ((x : ℕ) → links.present x ≡ None) → out < 16 →
    denotation (signs_in (puts_to s.routes out play.passed)) ≡ meant_by (lines_to s.routes out (report_of play.passed))
course-means s m links K play out course quiet over below =
    ap denotation (signs-to s.routes out play.passed)
    ∙ (same_meaning ∙ ap meant_by (lines-to s.routes out play.passed course.passed_tags))
  where
    ts : List Tag
    ts = tags_to s.routes out (tags_passed play)

    no_owner : end_owner None (tags_to s.routes out (tags_passed play)) ≡ None
    no_owner = by_owner (end_owner None (filter (λ (t : Tag). goes_out s out t.source) (tags_passed play))) refl
        (ap (end_owner None) (same-tags s out (tags_passed play) below course.sources))
      where
        by_owner : (o : Option ℕ) → end_owner None (filter (λ (t : Tag). goes_out s out t.source) (tags_passed play)) ≡
            o →
            end_owner None (filter (λ (t : Tag). goes_out s out t.source) (tags_passed play)) ≡ end_owner None
            (tags_to s.routes out (tags_passed play)) →
            end_owner None (tags_to s.routes out (tags_passed play)) ≡ None
        by_owner None e same = sym same ∙ e
        by_owner (Some x) e same = absurd (true≢false (sym (course.outs.owner out x e).0
            ∙ all-closed s m links K play course quiet over x))

    items : (denotation (signs_heard (tags_to s.routes out (tags_passed play)))).items ≡ items_of
        (lines_heard (tags_to s.routes out (tags_passed play)))
    items = items-heard nothing_under None (tags_to s.routes out (tags_passed play))
        (out-fits s m links K play course out)
        (out-follows s m links K play course out below)
        ∙ (ap (λ o. items_of (lines_heard (tags_to s.routes out (tags_passed play))) ++ left_open
        (open_data (end_unders nothing_under (tags_to s.routes out (tags_passed play))) o)) no_owner
        ∙ append-nil (items_of (lines_heard (tags_to s.routes out (tags_passed play)))))

    realtimes : (denotation (signs_heard (tags_to s.routes out (tags_passed play)))).realtimes ≡ realtimes_of 0
        (lines_heard (tags_to s.routes out (tags_passed play)))
    realtimes = realtimes-heard nothing_under None 0 (tags_to s.routes out (tags_passed play))
        (out-fits s m links K play course out) (out-follows s m links K play course out below)

    same_meaning : denotation (signs_heard (tags_to s.routes out (tags_passed play))) ≡ meant_by
        (lines_heard (tags_to s.routes out (tags_passed play)))
    same_meaning = λ i. record { items = items i; realtimes = realtimes i }

-- The marks may stand there, one after another, and are such as a stream can have.

owned-suits : (o : Option ℕ) (ts : List Tag) → Follows o ts → AreTags ts → Suited (is_taken o) (signs_heard ts)
owned-suits o [] follows are = tt
owned-suits o (t ∷ ts) follows are =
    by_sign t.sign are.0.sound follows.0 (owned-suits (owner_behind o t.source t.sign) ts follows.1 are.1)
  where
    by_sign : (m : Sign) → is_sound m ≡ true → MayFollow o t.source m →
        Suited (is_taken (owner_behind o t.source m)) (signs_heard ts) →
        Suited (is_taken o) (m ∷ signs_heard ts)
    by_sign (ShortSign s a b) sound may rest =
        (ap (λ x. not (is_taken x)) may, subst (λ (c : Bool). Suited c (signs_heard ts)) (ap is_taken may) rest)
    by_sign (RtSign b) sound may rest = (refl, rest)
    by_sign OpenSign sound may rest = (ap (λ x. not (is_taken x)) may, rest)
    by_sign (ByteSign b) sound may rest = (
      ap (λ x. is_taken x && is_data b) may ∙ sound,
      subst (λ (c : Bool). Suited c (signs_heard ts))
          (ap is_taken may) rest,
    )
    by_sign EndSign sound may rest = (ap is_taken may, rest)
    by_sign AbortSign sound may rest = (ap is_taken may, rest)

tags-valid : (ts : List Tag) → AreTags ts → AreValid (signs_heard ts)
tags-valid [] are = refl
tags-valid (t ∷ ts) are = both (is_valid t.sign) (list_all is_valid (signs_heard ts)) (by_sign t.sign are.0.sound)
    (tags-valid ts are.1)
  where
    both : (a b : Bool) → a ≡ true → b ≡ true → (a && b) ≡ true
    both true b e f = f
    both false b e f = absurd (true≢false (sym e))

    by_sign : (m : Sign) → is_sound m ≡ true → is_valid m ≡ true
    by_sign (ShortSign s a b) sound = sound
    by_sign (RtSign b) sound = sound
    by_sign OpenSign sound = refl
    by_sign (ByteSign b) sound = refl
    by_sign EndSign sound = refl
    by_sign AbortSign sound = refl

pub course-suits : (s : Setup) (m : Merger) (links : Links) (K : Key) (play : Play) (out : ℕ) →
    Course s m links K play →
    out < 16 → (suited (signs_in (puts_to s.routes out play.passed)) ≡ true) × AreValid
    (signs_in (puts_to s.routes out play.passed))
course-suits s m links K play out course below = (
  ap suited (signs-to s.routes out play.passed) ∙ suited-from_Suited
      (signs_heard (tags_to s.routes out (tags_passed play)))
      (owned-suits None (tags_to s.routes out (tags_passed play)) (out-follows s m links K play course out below)
      (tags-filter (λ (t : Tag). goes s.routes t.source out) (tags_passed play) course.passed_tags)),
  ap (list_all is_valid) (signs-to s.routes out play.passed) ∙ tags-valid (tags_to s.routes out (tags_passed play))
      (tags-filter (λ (t : Tag). goes s.routes t.source out) (tags_passed play) course.passed_tags),
)

-- What a carrier writes of them means what the lines mean, whatever flushes stand between.
pub course-written : (s : Setup) (m : Merger) (links : Links) (K : Key) (play : Play) (out : ℕ) (spec : Spec)
    (puts : List Put) → Course s m links K play → m.draining ≡ false → ((x : ℕ) → links.present x ≡ None) →
    out < 16 → IsSpec spec → signs_in puts ≡ signs_in (puts_to s.routes out play.passed) →
    den spec (written spec puts) ≡ meant_by (lines_to s.routes out (report_of play.passed))
course-written s m links K play out spec puts course quiet over below is same =
    let fits = course-suits s m links K play out course below in
    (laws spec).means is puts (ap suited same ∙ fits.0) (ap (list_all is_valid) same ∙ fits.1)
    ∙ (ap denotation same ∙ course-means s m links K play out course quiet over below)
