-- What the course of a run says of its next step.
use Rattle.std.proofs.Common.{◌≡◌, ⊎_elim, ℕ, suc, ◌<◌, ◌≤◌, Bool, true, false, List, []}
use Rattle.std.proofs.Common.{◌∷◌, ◌++◌, length, map, filter, Option, Some, refl, ap, sym, ◌∙◌, arith}
use Rattle.std.specs.Prelude.{not}
use Rattle.std.proofs.lemmas.List.{length-append, map-append}
use Rattle.std.proofs.lemmas.List.Elements.{filter-append}
use Rattle.mb_message.specs.declared.mark.Mark.{Mark}
use Rattle.mb_message.specs.Signs.{Sign, sign_of, suits_sign}
use Rattle.mb_stream.specs.Puts.{Put, At, Flush, signs_in}
use Rattle.mb_stream.specs.Standing.{is_open, suited}
use Rattle.mb_stream.proofs.StandingLemmas as standing
use Rattle.mb_merge.specs.declared.source.Held.{Held}
use Rattle.mb_merge.specs.declared.router.Passed.{Passed}
use Rattle.mb_merge.specs.Links.{Merger, link_of}
use Rattle.mb_merge.specs.Passing.{has_room}
use Rattle.mb_merge.specs.Calls.{one}
use Rattle.mb_merge.proofs.Fits.{refused}
use Rattle.mb_rig.specs.RigText.{Setup}
use Rattle.mb_rig.specs.Merging.Lines.{Key, arrival_of, key_at, keyed_marks}
use Rattle.mb_rig.specs.Merging.Report.{goes}
use Rattle.mb_rig.specs.Merging.Tags.{Tag, Under, is_realtime_sign, tag_at}
use Rattle.mb_rig.specs.Merging.Playing.{AreHeld, PassedTag, Play, tag_in_turn}
use Rattle.mb_rig.specs.Merging.Tags.{tags_from, nothing_under, under_after}
use Rattle.mb_rig.specs.Merging.Playing.{tags_passed}
use Rattle.mb_rig.specs.Merging.Course.{Course, Links}
use Rattle.mb_rig.specs.Merging.Ended.{put_of, puts_to, turns_in}
use Rattle.mb_rig.specs.Merging.Passes.{Passes}
use Rattle.mb_rig.proofs.Merging.Lateness.{true_or_not}
use Rattle.mb_rig.proofs.Merging.SourceLines.{filter-cons, filter-two}
use Rattle.mb_rig.proofs.Merging.Reached.{reached-fits}
use Rattle.mb_rig.proofs.Merging.CourseMarks.{no-offer}
use Rattle.mb_rig.proofs.Merging.Offers.{course-drained}
use Rattle.mb_rig.proofs.Merging.OutsHeard.{course-suits}

-- Where a link has a record, one that isn't stalled has.
pub course-progress : (s : Setup) (m : Merger) (links : Links) (K : Key) (play : Play) (x : ℕ) (k : Key) →
    Course s m links K play → m.draining ≡ false → links.present x ≡ Some k →
    (y : ℕ) × (c : Key) × (links.stalled y ≡ false) × (links.present y ≡ Some c)
course-progress s m links K play x k course quiet here = ⊎_elim
    (λ (e : links.stalled x ≡ true).
    let drained = course-drained s m links K play course quiet in
    let w = drained.waits x (drained.stalled x e) in
    let o = drained.owners w.1.0 w.1.1 in
    (w.1.0, o.2.0, o.1, o.2.1))
    (λ (e : links.stalled x ≡ false). (x, k, e, here))
    (true_or_not (links.stalled x))

-- how many marks of a source keep their turn

count-turns : (source : ℕ) (u : Under) (puts : List Put) →
    length (filter (λ (t : Tag). not (is_realtime_sign t.sign)) (tags_from source u (keyed_marks source puts)))
    ≡ length (turns_in (signs_in puts))
count-turns source u [] = refl
count-turns source u (Flush ∷ puts) = count-turns source u puts
count-turns source u (At moment sign ∷ puts) =
    by_kind (is_realtime_sign sign) refl (count-turns source (under_after u (key_at moment source) sign) puts)
  where
    by_kind : (rt : Bool) → is_realtime_sign sign ≡ rt →
        length (filter (λ (t : Tag). not (is_realtime_sign t.sign))
        (tags_from source (under_after u (key_at moment source) sign) (keyed_marks source puts)))
        ≡ length (turns_in (signs_in puts)) →
        length (filter (λ (t : Tag). not (is_realtime_sign t.sign))
        (tag_at source u (key_at moment source) sign ∷ tags_from source (under_after u (key_at moment source) sign)
        (keyed_marks source puts)))
        ≡ length (turns_in (sign ∷ signs_in puts))
    by_kind true e rest =
        ap length (filter-cons (λ (t : Tag). not (is_realtime_sign t.sign))
        (tag_at source u (key_at moment source) sign)
        (tags_from source (under_after u (key_at moment source) sign) (keyed_marks source puts)) false (ap not e))
        ∙ (rest ∙ ap length (sym (filter-cons (λ (m : Sign). not (is_realtime_sign m)) sign (signs_in puts) false
        (ap not e))))
    by_kind false e rest =
        ap length (filter-cons (λ (t : Tag). not (is_realtime_sign t.sign))
        (tag_at source u (key_at moment source) sign)
        (tags_from source (under_after u (key_at moment source) sign) (keyed_marks source puts)) true (ap not e))
        ∙ (ap suc rest ∙ ap length (sym (filter-cons (λ (m : Sign). not (is_realtime_sign m)) sign (signs_in puts) true
        (ap not e))))

same-count : (x : ℕ) (hs : List Held) (ts : List Tag) → AreHeld x hs ts → length hs ≡ length ts
same-count x [] [] are = refl
same-count x [] (t ∷ ts) are = absurd are
same-count x (h ∷ hs) [] are = absurd are
same-count x (h ∷ hs) (t ∷ ts) are = ap suc (same-count x hs ts are.1)

-- Fewer than 1,024 marks that keep their turn find room for one more.
pub course-room : (s : Setup) (m : Merger) (links : Links) (K : Key) (play : Play) (x : ℕ) (mark : Mark) →
    Course s m links K play → m.draining ≡ false → length (turns_in (signs_in (links.given x))) < 1024 →
    has_room m x mark ≡ true
course-room s m links K play x mark course quiet few = by_test (has_room m x mark) refl
  where
    turns : filter (tag_in_turn x) play.taken ≡ filter (tag_in_turn x) (tags_passed play) ++ play.held x
    turns = course.order.turns.turns x
        ∙ ap (λ (o : Option Tag). filter (tag_in_turn x) (tags_passed play) ++
        (filter (tag_in_turn x) (one o) ++ play.held x))
        (no-offer m.offered play.offered course.order.plays.offered ((reached-fits s m course.reached).quiet quiet).0)

    all : length (filter (tag_in_turn x) play.taken) ≡ length (turns_in (signs_in (links.given x)))
    all = ap length (filter-two x (λ (m : Sign). not (is_realtime_sign m)) play.taken)
        ∙ (ap (λ ts. length (filter (λ (t : Tag). not (is_realtime_sign t.sign)) ts)) (course.taken x)
        ∙ count-turns x (nothing_under x) (links.given x))

    held : length (link_of m x).held ≤ length (turns_in (signs_in (links.given x)))
    held =
        let a = same-count x (link_of m x).held (play.held x) (course.order.plays.held x) in
        let b = ap length turns in
        let c = length-append (filter (tag_in_turn x) (tags_passed play)) (play.held x) in
        let d = all in omega (arith, a, b, c, d)

    by_test : (c : Bool) → has_room m x mark ≡ c → c ≡ true
    by_test true e = refl
    by_test false e = let many = ((refused m x mark).0 e).2 in let some = held in absurd
        (omega (arith, many, some, few))

puts-push : (routes : List (ℕ × ℕ)) (out : ℕ) (ps : List PassedTag) (p : PassedTag) →
    goes routes p.tag.source out ≡ true →
    puts_to routes out (ps ++ p ∷ []) ≡ puts_to routes out ps ++ put_of p ∷ []
puts-push routes out ps p e =
    ap (map put_of) (filter-append (λ (x : PassedTag). goes routes x.tag.source out) ps (p ∷ [])
    ∙ ap (λ qs. filter (λ (x : PassedTag). goes routes x.tag.source out) ps ++ qs)
    (filter-cons (λ (x : PassedTag). goes routes x.tag.source out) p [] true e))
    ∙ map-append put_of (filter (λ (x : PassedTag). goes routes x.tag.source out) ps) (p ∷ [])

signs-append : (puts : List Put) (moment : ℕ) (sign : Sign) → signs_in (puts ++ At moment sign ∷ []) ≡ signs_in puts ++
    sign ∷ []
signs-append [] moment sign = refl
signs-append (At n m ∷ puts) moment sign = ap (λ (ms : List Sign). m ∷ ms) (signs-append puts moment sign)
signs-append (Flush ∷ puts) moment sign = signs-append puts moment sign

-- A mark that passes may stand next at each of its outs.
pub passes-suits : (s : Setup) (m now : Merger) (links : Links) (K : Key) (play : Play) (q : Passed) (out : ℕ) →
    Passes s m now links K play q → out < 16 → goes s.routes q.source out ≡ true →
    suits_sign (is_open (signs_in (puts_to s.routes out play.passed))) (sign_of q.mark) ≡ true
passes-suits s m now links K play q out passes below there =
    standing.next (signs_in (puts_to s.routes out play.passed)) (sign_of q.mark) []
    (ap suited (sym (ap (λ ps. signs_in (puts_to s.routes out ps)) passes.passed
    ∙ (ap signs_in (puts-push s.routes out play.passed (record { tag = passes.tag; moment = arrival_of K })
    (ap (λ y. goes s.routes y out) (sym passes.is.0) ∙ there))
    ∙ (signs-append (puts_to s.routes out play.passed) (arrival_of K) passes.tag.sign
    ∙ ap (λ (sign : Sign). signs_in (puts_to s.routes out play.passed) ++ sign ∷ []) (sym passes.is.2)))))
    ∙ (course-suits s now _ K passes.after out passes.course below).0)
