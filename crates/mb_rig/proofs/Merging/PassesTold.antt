-- What a mark that passes adds to the report's text and to each out; the moments of what an out was put.
use Rattle.std.proofs.Common.{◌≡◌, ℕ, Bool, true, false, List, [], ◌∷◌, ◌++◌, map, filter}
use Rattle.std.proofs.Common.{Option, Some, None, refl, ap, sym, ◌∙◌, append-nil}
use Rattle.std.specs.Prelude.{not, ◌/◌, if◌then◌else◌}
use Rattle.std.proofs.lemmas.List.{map-append}
use Rattle.std.proofs.lemmas.List.Concat.{flat_map-append}
use Rattle.std.proofs.lemmas.List.Elements.{filter-append}
use Rattle.mb_message.specs.Signs.{Sign, sign_of, ShortSign, RtSign, OpenSign, ByteSign, EndSign, AbortSign}
use Rattle.mb_stream.specs.Puts.{Put, At}
use Rattle.mb_ble.specs.Distances.{message_moments}
use Rattle.mb_merge.specs.declared.router.Passed.{Passed}
use Rattle.mb_merge.specs.Links.{Merger}
use Rattle.mb_rig.specs.RigText.{Setup}
use Rattle.mb_rig.specs.Merging.Lines.{Key, Line, arrival_of}
use Rattle.mb_rig.specs.Merging.Report.{Passing, goes, kind_of_sign, line_text, moments_to, text_by}
use Rattle.mb_rig.specs.Merging.Report.{text_of}
use Rattle.mb_rig.specs.Merging.Report.{is_broken}
use Rattle.mb_rig.specs.Merging.Tags.{AreTags, IsTag, Tag, Under, line_at}
use Rattle.mb_rig.specs.Merging.Playing.{PassedTag, Play, line_of, report_of}
use Rattle.mb_rig.specs.Merging.Course.{Course, Links}
use Rattle.mb_rig.specs.Merging.Ended.{put_of, put_where, puts_to}
use Rattle.mb_rig.specs.Merging.Passes.{Passes}
use Rattle.mb_rig.proofs.Merging.SourceLines.{filter-cons}
use Rattle.mb_rig.proofs.Merging.Given.{tag-line}

line-kind : (source : ℕ) (u : Under) (key : Key) (m : Sign) (moment : ℕ) →
    text_of (line_of moment (line_at source u key m)) ≡ text_by (arrival_of key) moment source (kind_of_sign m)
line-kind source u key (ShortSign s a b) moment = append-nil _
line-kind source u key (RtSign b) moment = append-nil _
line-kind source u key OpenSign moment = refl
line-kind source u key (ByteSign b) moment = refl
line-kind source u key EndSign moment = append-nil _
line-kind source u key AbortSign moment = append-nil _

tag-text : (t : Tag) (moment : ℕ) → IsTag t →
    text_of (line_of moment t.line) ≡ text_by (arrival_of t.key) moment t.source (kind_of_sign t.sign)
tag-text t moment is = ap (λ (x : Tag). text_of (line_of moment x.line)) is.is
    ∙ line-kind t.source is.under t.key t.sign moment

report-push : (ps : List PassedTag) (p : PassedTag) → report_of (ps ++ p ∷ []) ≡ report_of ps ++ line_of p.moment
    p.tag.line
report-push ps p = flat_map-append (λ (x : PassedTag). line_of x.moment x.tag.line) ps (p ∷ [])
    ∙ ap (λ qs. report_of ps ++ qs) (append-nil (line_of p.moment p.tag.line))

-- What a mark that passes adds to the report's text.
pub passes-told : (s : Setup) (m now : Merger) (links : Links) (K : Key) (play : Play) (q : Passed) →
    (passes : Passes s m now links K play q) → text_of (report_of passes.after.passed)
    ≡ text_of (report_of play.passed) ++ text_by (q.arrival / 1000) (arrival_of K) q.source
    (kind_of_sign (sign_of q.mark))
passes-told s m now links K play q passes =
    ap (λ ps. text_of (report_of ps)) passes.passed
    ∙ (ap text_of (report-push play.passed (record { tag = passes.tag; moment = arrival_of K }))
    ∙ (flat_map-append line_text (report_of play.passed) (line_of (arrival_of K) passes.tag.line)
    ∙ ap (λ text. text_of (report_of play.passed) ++ text) (tag-text passes.tag (arrival_of K) passes.is_tag
    ∙ (ap (λ (source : ℕ). text_by (arrival_of passes.tag.key) (arrival_of K) source (kind_of_sign passes.tag.sign))
    (sym passes.is.0)
    ∙ (ap (λ (n : ℕ). text_by (n / 1000) (arrival_of K) q.source (kind_of_sign passes.tag.sign)) (sym passes.is.1)
    ∙ ap (λ (sign : Sign). text_by (q.arrival / 1000) (arrival_of K) q.source (kind_of_sign sign))
    (sym passes.is.2))))))

-- What it adds to an out.
pub passes-put : (s : Setup) (m now : Merger) (links : Links) (K : Key) (play : Play) (q : Passed) (out : ℕ) →
    (passes : Passes s m now links K play q) → puts_to s.routes out passes.after.passed
    ≡ put_where (goes s.routes q.source out) (At (arrival_of K) (sign_of q.mark)) (puts_to s.routes out play.passed)
passes-put s m now links K play q out passes =
    ap (puts_to s.routes out) passes.passed
    ∙ (by_test (goes s.routes passes.tag.source out) refl
    ∙ (ap (λ (source : ℕ). put_where (goes s.routes source out) (At (arrival_of K) passes.tag.sign)
    (puts_to s.routes out play.passed)) (sym passes.is.0)
    ∙ ap (λ (sign : Sign). put_where (goes s.routes q.source out) (At (arrival_of K) sign)
    (puts_to s.routes out play.passed)) (sym passes.is.2)))
  where
    p : PassedTag
    p = record { tag = passes.tag; moment = arrival_of K }

    keep : PassedTag → Bool
    keep x = goes s.routes x.tag.source out

    by_test : (c : Bool) → goes s.routes passes.tag.source out ≡ c →
        puts_to s.routes out (play.passed ++ (record { tag = passes.tag; moment = arrival_of K }) ∷ [])
        ≡ put_where (goes s.routes passes.tag.source out) (At (arrival_of K) passes.tag.sign)
        (puts_to s.routes out play.passed)
    by_test true e =
        ap (map put_of) (filter-append (λ (x : PassedTag). goes s.routes x.tag.source out) play.passed
        ((record { tag = passes.tag; moment = arrival_of K }) ∷ [])
        ∙ ap (λ qs. filter (λ (x : PassedTag). goes s.routes x.tag.source out) play.passed ++ qs)
        (filter-cons (λ (x : PassedTag). goes s.routes x.tag.source out)
        (record { tag = passes.tag; moment = arrival_of K }) [] true e))
        ∙ (map-append put_of (filter (λ (x : PassedTag). goes s.routes x.tag.source out) play.passed)
        ((record { tag = passes.tag; moment = arrival_of K }) ∷ [])
        ∙ ap (λ (c : Bool). put_where c (At (arrival_of K) passes.tag.sign) (puts_to s.routes out play.passed)) (sym e))
    by_test false e =
        ap (map put_of) (filter-append (λ (x : PassedTag). goes s.routes x.tag.source out) play.passed
        ((record { tag = passes.tag; moment = arrival_of K }) ∷ [])
        ∙ (ap (λ qs. filter (λ (x : PassedTag). goes s.routes x.tag.source out) play.passed ++ qs)
        (filter-cons (λ (x : PassedTag). goes s.routes x.tag.source out)
        (record { tag = passes.tag; moment = arrival_of K }) [] false e)
        ∙ append-nil (filter (λ (x : PassedTag). goes s.routes x.tag.source out) play.passed)))
        ∙ ap (λ (c : Bool). put_where c (At (arrival_of K) passes.tag.sign) (puts_to s.routes out play.passed)) (sym e)

-- The messages that an out was put have the moments of passing of their lines.

sign-moment : (source : ℕ) (u : Under) (key : Key) (m : Sign) (moment : ℕ) (puts : List Put) →
    message_moments (At moment m ∷ puts)
    ≡ map (λ (p : Passing). p.moment) (filter (λ (p : Passing). not (is_broken p.line.event))
    (line_of moment (line_at source u key m))) ++ message_moments puts
sign-moment source u key (ShortSign s a b) moment puts = refl
sign-moment source u key (RtSign b) moment puts = refl
sign-moment source u key OpenSign moment puts = refl
sign-moment source u key (ByteSign b) moment puts = refl
sign-moment source u key EndSign moment puts = refl
sign-moment source u key AbortSign moment puts = refl

line-goes : (routes : List (ℕ × ℕ)) (out moment : ℕ) (source : ℕ) (line : Option Line) (c : Bool) →
    goes routes source out ≡ c →
    ((l : Line) → line ≡ Some l → l.source ≡ source) →
    filter (λ (p : Passing). goes routes p.line.source out)
    (line_of moment line) ≡ (if c then line_of moment line else [])
line-goes routes out moment source None true e own = refl
line-goes routes out moment source None false e own = refl
line-goes routes out moment source (Some l) true e own = filter-cons (λ (p : Passing). goes routes p.line.source out)
    (record { line = l; moment = moment }) [] true (ap (λ x. goes routes x out) (own l refl) ∙ e)
line-goes routes out moment source (Some l) false e own = filter-cons (λ (p : Passing). goes routes p.line.source out)
    (record { line = l; moment = moment }) [] false (ap (λ x. goes routes x out) (own l refl) ∙ e)

moments-append : (xs ys : List Passing) →
    map (λ (p : Passing). p.moment) (filter (λ (p : Passing). not (is_broken p.line.event)) (xs ++ ys))
    ≡ map (λ (p : Passing). p.moment) (filter (λ (p : Passing). not (is_broken p.line.event)) xs)
    ++ map (λ (p : Passing). p.moment) (filter (λ (p : Passing). not (is_broken p.line.event)) ys)
moments-append xs ys = ap (map (λ (p : Passing). p.moment))
    (filter-append (λ (p : Passing). not (is_broken p.line.event)) xs ys)
    ∙ map-append (λ (p : Passing). p.moment) (filter (λ (p : Passing). not (is_broken p.line.event)) xs)
    (filter (λ (p : Passing). not (is_broken p.line.event)) ys)

moments-of : (routes : List (ℕ × ℕ)) (out : ℕ) (ps : List PassedTag) → AreTags (map (λ (x : PassedTag). x.tag) ps) →
    message_moments (puts_to routes out ps) ≡ moments_to routes out (report_of ps)
moments-of routes out [] are = refl
moments-of routes out (p ∷ ps) are = by_test (goes routes p.tag.source out) refl (moments-of routes out ps are.1)
  where
    own : (l : Line) → p.tag.line ≡ Some l → l.source ≡ p.tag.source
    own l e = (tag-line p.tag are.0 l e).0

    split : moments_to routes out (line_of p.moment p.tag.line ++ report_of ps)
        ≡ map (λ (q : Passing). q.moment) (filter (λ (q : Passing). not (is_broken q.line.event))
        (filter (λ (q : Passing). goes routes q.line.source out) (line_of p.moment p.tag.line))) ++ moments_to routes
        out (report_of ps)
    split = ap (λ qs. map (λ (q : Passing). q.moment) (filter (λ (q : Passing). not (is_broken q.line.event)) qs))
        (filter-append (λ (q : Passing). goes routes q.line.source out) (line_of p.moment p.tag.line) (report_of ps))
        ∙ moments-append (filter (λ (q : Passing). goes routes q.line.source out) (line_of p.moment p.tag.line))
        (filter (λ (q : Passing). goes routes q.line.source out) (report_of ps))

    by_test : (c : Bool) → goes routes p.tag.source out ≡ c →
        message_moments (puts_to routes out ps) ≡ moments_to routes out (report_of ps) →
        message_moments (puts_to routes out (p ∷ ps)) ≡ moments_to routes out (report_of (p ∷ ps))
    by_test true e rest =
        ap (λ qs. message_moments (map put_of qs)) (filter-cons (λ (x : PassedTag). goes routes x.tag.source out) p ps
        true e)
        ∙ (sign-moment p.tag.source are.0.under p.tag.key p.tag.sign p.moment (puts_to routes out ps)
        ∙ (ap (λ ms. map (λ (q : Passing). q.moment) (filter (λ (q : Passing). not (is_broken q.line.event))
        (line_of p.moment (line_at p.tag.source are.0.under p.tag.key p.tag.sign))) ++ ms) rest
        ∙ (ap (λ (x : Tag). map (λ (q : Passing). q.moment) (filter (λ (q : Passing). not (is_broken q.line.event))
        (line_of p.moment x.line)) ++ moments_to routes out (report_of ps)) (sym are.0.is)
        ∙ (ap (λ qs. map (λ (q : Passing). q.moment) (filter (λ (q : Passing). not (is_broken q.line.event)) qs) ++
        moments_to routes out (report_of ps))
        (sym (line-goes routes out p.moment p.tag.source p.tag.line true e own)) ∙ sym split))))
    by_test false e rest =
        ap (λ qs. message_moments (map put_of qs)) (filter-cons (λ (x : PassedTag). goes routes x.tag.source out) p ps
        false e)
        ∙ (rest ∙ (ap (λ qs. map (λ (q : Passing). q.moment) (filter (λ (q : Passing). not (is_broken q.line.event)) qs)
        ++ moments_to routes out (report_of ps))
        (sym (line-goes routes out p.moment p.tag.source p.tag.line false e own)) ∙ sym split))

pub course-moments : (s : Setup) (m : Merger) (links : Links) (K : Key) (play : Play) (out : ℕ) →
    Course s m links K play →
    message_moments (puts_to s.routes out play.passed) ≡ moments_to s.routes out (report_of play.passed)
course-moments s m links K play out course = moments-of s.routes out play.passed course.passed_tags
