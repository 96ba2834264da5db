-- At the end of a run each source's lines stand in the report, in its order.
use Rattle.std.proofs.Common.{◌≡◌, ℕ, ◌+◌, Bool, true, false, Option, Some, None, List, [], ◌∷◌, ◌++◌, map, filter}
use Rattle.std.proofs.Common.{refl, ap, sym, ◌∙◌, arith, append-nil, append_assoc}
use Rattle.std.specs.Prelude.{not, ◌&&◌, ◌==◌, if◌then◌else◌}
use Rattle.std.proofs.lemmas.List.Concat.{flat_map-append}
use Rattle.std.proofs.lemmas.List.Elements.{filter-append}
use Rattle.mb_message.specs.Signs.{Sign, ShortSign, RtSign, OpenSign, ByteSign, EndSign, AbortSign}
use Rattle.mb_merge.specs.Calls.{one}
use Rattle.mb_message.specs.Front.{IsFront}
use Rattle.mb_stream.specs.Puts.{Put, At, Flush}
use Rattle.mb_stream.specs.Denotation.{Message, Syx, Broken}
use Rattle.mb_rig.specs.Merging.Lines.{Key, Line, Event, Ends, Realtime, is_realtime, lines_from, lines_of, keyed_marks}
use Rattle.mb_rig.specs.Merging.Lines.{key_at, no_key}
use Rattle.mb_rig.specs.Merging.Report.{Passing, is_of, lines_in}
use Rattle.mb_rig.specs.Merging.Merged.{IsOfSource, IsFrontOfSource, in_turn, is_at_once}
use Rattle.mb_rig.specs.Merging.Tags.{Tag, Under, tags_from, tags_of, nothing_under, tag_at}
use Rattle.mb_rig.specs.Merging.Playing.{PassedTag, Play, InTurn}
use Rattle.mb_rig.specs.Merging.Tags.{line_at, under_after, under_behind}
use Rattle.mb_rig.specs.Merging.Playing.{tag_in_turn, tag_at_once, tags_passed}
use Rattle.mb_rig.specs.Merging.Tags.{is_realtime_sign}
use Rattle.mb_rig.specs.Merging.Playing.{line_of, report_of}
use Rattle.mb_rig.proofs.Merging.HeardLemmas.{lines_heard}
use Rattle.mb_rig.proofs.Merging.Lateness.{none≢some, some_same}

-- a source's lines are those of its tags
lines-tags : (source place : ℕ) (begin : Key) (data_bytes : List ℕ) (ms : List (Key × Sign)) →
    lines_from source place begin data_bytes ms ≡ lines_heard (tags_from source
    (record { place = place; begin = begin; data_bytes = data_bytes }) ms)
lines-tags source place begin data_bytes [] = refl
lines-tags source place begin data_bytes ((key, OpenSign) ∷ ms) = lines-tags source (place + 1) key [] ms
lines-tags source place begin data_bytes ((key, ByteSign b) ∷ ms) = lines-tags source (place + 1) begin
    (data_bytes ++ b ∷ []) ms
lines-tags source place begin data_bytes ((key, ShortSign s a b) ∷ ms) =
    let l : Line = record { source = source; place = place; event = Ends (Message s a b); key = key; begin = key } in
    ap (λ xs. l ∷ xs) (lines-tags source (place + 1) begin data_bytes ms)
lines-tags source place begin data_bytes ((key, RtSign b) ∷ ms) =
    let l : Line = record { source = source; place = place; event = Realtime b; key = key; begin = key } in
    ap (λ xs. l ∷ xs) (lines-tags source (place + 1) begin data_bytes ms)
lines-tags source place begin data_bytes ((key, EndSign) ∷ ms) =
    let l : Line = record { source = source; place = place; event = Ends (Syx data_bytes); key = key; begin = begin } in
    ap (λ xs. l ∷ xs) (lines-tags source (place + 1) begin [] ms)
lines-tags source place begin data_bytes ((key, AbortSign) ∷ ms) =
    let l : Line = record { source = source; place = place; event = Ends (Broken data_bytes); key = key; begin = begin }
    in
    ap (λ xs. l ∷ xs) (lines-tags source (place + 1) begin [] ms)

pub source-lines : (source : ℕ) (puts : List Put) → lines_of source puts ≡ lines_heard (tags_of source puts)
source-lines source puts = lines-tags source 0 (no_key source) [] (keyed_marks source puts)

-- a tag's line is its source's, and real-time where its mark is
abbrev pub IsOwnLine : Tag → Type 0
IsOwnLine t = (line : Line) → t.line ≡ Some line → (line.source ≡ t.source) ×
    (is_realtime line.event ≡ is_realtime_sign t.sign)

abbrev pub AreOwnLines : List Tag → Type 0
AreOwnLines [] = Unit {0}
AreOwnLines (t ∷ ts) = IsOwnLine t × AreOwnLines ts

abbrev pub tags_in : List PassedTag → List Tag
tags_in ps = map (λ (x : PassedTag). x.tag) ps

pub filter-cons : {A : Type 0} (f : A → Bool) (x : A) (xs : List A) (c : Bool) → f x ≡ c →
    filter f (x ∷ xs) ≡ (if c then x ∷ filter f xs else filter f xs)
filter-cons f x xs true e = grind (arith, e)
filter-cons f x xs false e = grind (arith, e)

-- of one kind of lines, and of tags
kind-lines : (x : ℕ) (of_line : Line → Bool) (of_tag : Tag → Bool) (t : Tag) (moment : ℕ) (run : List Passing)
    (ts : List Tag) → (line : Option Line) → t.line ≡ line →
    ((l : Line) → t.line ≡ Some l → ((l.source == x) && of_line l) ≡ of_tag t) →
    filter of_line (lines_in x run) ≡ lines_heard (filter of_tag ts) →
    filter of_line (lines_in x (line_of moment line ++ run)) ≡ lines_heard (filter of_tag (t ∷ ts))
kind-lines x of_line of_tag t moment run ts None e same rest = rest ∙ sym (by_tag (of_tag t) refl)
  where
    by_tag : (c : Bool) → of_tag t ≡ c → lines_heard (filter of_tag (t ∷ ts)) ≡ lines_heard (filter of_tag ts)
    by_tag true f = ap lines_heard (filter-cons of_tag t ts true f) ∙ ap
        (λ (o : Option Line). (elim o [ None ↦ [] | Some l ↦ l ∷ [] ]) ++ lines_heard (filter of_tag ts)) e
    by_tag false f = ap lines_heard (filter-cons of_tag t ts false f)
kind-lines x of_line of_tag t moment run ts (Some l) e same rest = by_source (l.source == x) refl (of_line l) refl
  where
    q : Passing
    q = record { line = l; moment = moment }

    heard : (c : Bool) → of_tag t ≡ c → lines_heard (filter of_tag (t ∷ ts)) ≡
        (if c then l ∷ lines_heard (filter of_tag ts) else lines_heard (filter of_tag ts))
    heard true f = ap lines_heard (filter-cons of_tag t ts true f) ∙ ap
        (λ (o : Option Line). (elim o [ None ↦ [] | Some l ↦ l ∷ [] ]) ++ lines_heard (filter of_tag ts)) e
    heard false f = ap lines_heard (filter-cons of_tag t ts false f)

    by_source : (a : Bool) → (l.source == x) ≡ a → (b : Bool) → of_line l ≡ b →
        filter of_line (lines_in x ((record { line = l; moment = moment }) ∷ run)) ≡ lines_heard
        (filter of_tag (t ∷ ts))
    by_source true g true h =
        ap (λ ps. filter of_line (map (λ (p : Passing). p.line) ps))
        (filter-cons (is_of x) (record { line = l; moment = moment }) run true g)
        ∙ (filter-cons of_line l (lines_in x run) true h
        ∙ (ap (λ ls. l ∷ ls) rest ∙ sym (heard true (sym (same l e) ∙ (ap (λ a. a && of_line l) g ∙ h)))))
    by_source true g false h =
        ap (λ ps. filter of_line (map (λ (p : Passing). p.line) ps))
        (filter-cons (is_of x) (record { line = l; moment = moment }) run true g)
        ∙ (filter-cons of_line l (lines_in x run) false h
        ∙ (rest ∙ sym (heard false (sym (same l e) ∙ (ap (λ a. a && of_line l) g ∙ h)))))
    by_source false g b h =
        ap (λ ps. filter of_line (map (λ (p : Passing). p.line) ps))
        (filter-cons (is_of x) (record { line = l; moment = moment }) run false g)
        ∙ (rest ∙ sym (heard false (sym (same l e) ∙ ap (λ a. a && of_line l) g)))

turn-lines : (x : ℕ) (ps : List PassedTag) → AreOwnLines (tags_in ps) →
    filter in_turn (lines_in x (report_of ps)) ≡ lines_heard (filter (tag_in_turn x) (tags_in ps))
turn-lines x [] own = refl
turn-lines x (p ∷ ps) own =
    kind-lines x in_turn (tag_in_turn x) p.tag p.moment (report_of ps) (tags_in ps) p.tag.line refl
    (λ l e. let is = own.0 l e in ap (λ s. (s == x) && not (is_realtime l.event)) is.0
    ∙ ap (λ c. (p.tag.source == x) && not c) is.1) (turn-lines x ps own.1)

once-lines : (x : ℕ) (ps : List PassedTag) → AreOwnLines (tags_in ps) →
    filter (λ (l : Line). is_realtime l.event) (lines_in x (report_of ps)) ≡ lines_heard
    (filter (tag_at_once x) (tags_in ps))
once-lines x [] own = refl
once-lines x (p ∷ ps) own =
    kind-lines x (λ (l : Line). is_realtime l.event) (tag_at_once x) p.tag p.moment (report_of ps) (tags_in ps)
    p.tag.line refl
    (λ l e. let is = own.0 l e in ap (λ s. (s == x) && is_realtime l.event) is.0
    ∙ ap (λ c. (p.tag.source == x) && c) is.1) (once-lines x ps own.1)

-- tags of a source alone, of one kind
pub filter-two : (x : ℕ) (kind : Sign → Bool) (ts : List Tag) → filter (λ (t : Tag). (t.source == x) && kind t.sign)
    ts ≡ filter (λ (t : Tag). kind t.sign) (filter (λ (t : Tag). t.source == x) ts)
filter-two x kind [] = refl
filter-two x kind (t ∷ ts) = by_tests (t.source == x) refl (kind t.sign) refl (filter-two x kind ts)
  where
    by_tests : (a : Bool) → (t.source == x) ≡ a → (b : Bool) → kind t.sign ≡ b →
        filter (λ (t : Tag). (t.source == x) && kind t.sign) ts ≡ filter (λ (t : Tag). kind t.sign)
        (filter (λ (t : Tag). t.source == x) ts) →
        filter (λ (t : Tag). (t.source == x) && kind t.sign) (t ∷ ts) ≡ filter (λ (t : Tag). kind t.sign)
        (filter (λ (t : Tag). t.source == x) (t ∷ ts))
    by_tests true e true f rest =
        filter-cons (λ (t : Tag). (t.source == x) && kind t.sign) t ts true (ap (λ a. a && kind t.sign) e ∙ f)
        ∙ (ap (λ us. t ∷ us) rest
        ∙ sym (ap (filter (λ (t : Tag). kind t.sign)) (filter-cons (λ (t : Tag). t.source == x) t ts true e)
        ∙ filter-cons (λ (t : Tag). kind t.sign) t (filter (λ (t : Tag). t.source == x) ts) true f))
    by_tests true e false f rest =
        filter-cons (λ (t : Tag). (t.source == x) && kind t.sign) t ts false (ap (λ a. a && kind t.sign) e ∙ f)
        ∙ (rest
        ∙ sym (ap (filter (λ (t : Tag). kind t.sign)) (filter-cons (λ (t : Tag). t.source == x) t ts true e)
        ∙ filter-cons (λ (t : Tag). kind t.sign) t (filter (λ (t : Tag). t.source == x) ts) false f))
    by_tests false e b f rest =
        filter-cons (λ (t : Tag). (t.source == x) && kind t.sign) t ts false (ap (λ a. a && kind t.sign) e)
        ∙ (rest ∙ sym (ap (filter (λ (t : Tag). kind t.sign)) (filter-cons (λ (t : Tag). t.source == x) t ts false e)))

-- the lines of one kind among a source's tags
kind-heard : (source : ℕ) (of_line : Event → Bool) (of_sign : Sign → Bool) (u : Under) (ms : List (Key × Sign)) →
    ((place : ℕ) (begin : Key) (data_bytes : List ℕ) (m : Sign) (key : Key) (l : Line) →
    line_at source (record { place = place; begin = begin; data_bytes = data_bytes }) key m ≡ Some l →
    of_line l.event ≡ of_sign m)
    →
    filter (λ (l : Line). of_line l.event) (lines_heard (tags_from source u ms)) ≡ lines_heard
    (filter (λ (t : Tag). of_sign t.sign) (tags_from source u ms))
kind-heard source of_line of_sign u [] same = refl
kind-heard source of_line of_sign u (m ∷ ms) same =
    by_line (line_at source u m.0 m.1) refl (of_sign m.1) refl
    (kind-heard source of_line of_sign (under_after u m.0 m.1) ms same)
  where
    ts : List Tag
    ts = tags_from source (under_after u m.0 m.1) ms

    t : Tag
    t = tag_at source u m.0 m.1

    by_line : (line : Option Line) → line_at source u m.0 m.1 ≡ line → (c : Bool) → of_sign m.1 ≡ c →
        filter (λ (l : Line). of_line l.event) (lines_heard (tags_from source (under_after u m.0 m.1) ms)) ≡ lines_heard
        (filter (λ (t : Tag). of_sign t.sign) (tags_from source (under_after u m.0 m.1) ms)) →
        filter (λ (l : Line). of_line l.event) (lines_heard
        (tag_at source u m.0 m.1 ∷ tags_from source (under_after u m.0 m.1) ms))
        ≡ lines_heard (filter (λ (t : Tag). of_sign t.sign)
        (tag_at source u m.0 m.1 ∷ tags_from source (under_after u m.0 m.1) ms))
    by_line None e true f rest =
        ap (λ (o : Option Line). filter (λ (l : Line). of_line l.event)
        ((elim o [ None ↦ [] | Some l ↦ l ∷ [] ]) ++ lines_heard (tags_from source (under_after u m.0 m.1) ms))) e
        ∙ (rest ∙ sym (ap lines_heard (filter-cons (λ (t : Tag). of_sign t.sign) (tag_at source u m.0 m.1)
        (tags_from source (under_after u m.0 m.1) ms) true f)
        ∙ ap (λ (o : Option Line). (elim o [ None ↦ [] | Some l ↦ l ∷ [] ]) ++ lines_heard
        (filter (λ (t : Tag). of_sign t.sign) (tags_from source (under_after u m.0 m.1) ms))) e))
    by_line None e false f rest =
        ap (λ (o : Option Line). filter (λ (l : Line). of_line l.event)
        ((elim o [ None ↦ [] | Some l ↦ l ∷ [] ]) ++ lines_heard (tags_from source (under_after u m.0 m.1) ms))) e
        ∙ (rest ∙ sym (ap lines_heard (filter-cons (λ (t : Tag). of_sign t.sign) (tag_at source u m.0 m.1)
        (tags_from source (under_after u m.0 m.1) ms) false f)))
    by_line (Some l) e true f rest =
        ap (λ (o : Option Line). filter (λ (l : Line). of_line l.event)
        ((elim o [ None ↦ [] | Some l ↦ l ∷ [] ]) ++ lines_heard (tags_from source (under_after u m.0 m.1) ms))) e
        ∙ (filter-cons (λ (l : Line). of_line l.event) l (lines_heard (tags_from source (under_after u m.0 m.1) ms))
        true (same u.place u.begin u.data_bytes m.1 m.0 l e ∙ f)
        ∙ (ap (λ ls. l ∷ ls) rest ∙ sym (ap lines_heard (filter-cons (λ (t : Tag). of_sign t.sign)
        (tag_at source u m.0 m.1) (tags_from source (under_after u m.0 m.1) ms) true f)
        ∙ ap (λ (o : Option Line). (elim o [ None ↦ [] | Some l ↦ l ∷ [] ]) ++ lines_heard
        (filter (λ (t : Tag). of_sign t.sign) (tags_from source (under_after u m.0 m.1) ms))) e)))
    by_line (Some l) e false f rest =
        ap (λ (o : Option Line). filter (λ (l : Line). of_line l.event)
        ((elim o [ None ↦ [] | Some l ↦ l ∷ [] ]) ++ lines_heard (tags_from source (under_after u m.0 m.1) ms))) e
        ∙ (filter-cons (λ (l : Line). of_line l.event) l (lines_heard (tags_from source (under_after u m.0 m.1) ms))
        false (same u.place u.begin u.data_bytes m.1 m.0 l e ∙ f)
        ∙ (rest ∙ sym (ap lines_heard (filter-cons (λ (t : Tag). of_sign t.sign) (tag_at source u m.0 m.1)
        (tags_from source (under_after u m.0 m.1) ms) false f))))

-- a line is real-time exactly where its mark is
line_kind : (source : ℕ) (u : Under) (m : Sign) (key : Key) (l : Line) → line_at source u key m ≡ Some l →
    is_realtime l.event ≡ is_realtime_sign m
line_kind source u OpenSign key l e = absurd (none≢some l e)
line_kind source u (ByteSign b) key l e = absurd (none≢some l e)
line_kind source u (ShortSign s a b) key l e = ap (λ (x : Line). is_realtime x.event) (sym (some_same e))
line_kind source u (RtSign b) key l e = ap (λ (x : Line). is_realtime x.event) (sym (some_same e))
line_kind source u EndSign key l e = ap (λ (x : Line). is_realtime x.event) (sym (some_same e))
line_kind source u AbortSign key l e = ap (λ (x : Line). is_realtime x.event) (sym (some_same e))

heard-append : (ts us : List Tag) → lines_heard (ts ++ us) ≡ lines_heard ts ++ lines_heard us
heard-append ts us = flat_map-append (λ (t : Tag). elim t.line [ None ↦ [] | Some l ↦ l ∷ [] ]) ts us

-- what has passed of a source's turns, of all that was taken of it
turns-heard : (p : Play) (x : ℕ) (puts : List Put) → InTurn p → p.offered ≡ None →
    filter (λ (t : Tag). t.source == x) p.taken ≡ tags_of x puts → AreOwnLines (tags_passed p) →
    filter in_turn (lines_of x puts)
    ≡ filter in_turn (lines_in x (report_of p.passed)) ++ lines_heard (p.held x)
turns-heard p x puts turns idle all own =
    ap (filter in_turn) (source-lines x puts)
    ∙ (kind-heard x (λ e. not (is_realtime e)) (λ m. not (is_realtime_sign m)) (nothing_under x) (keyed_marks x puts)
    (λ place begin data_bytes m key l e. ap not (line_kind x
    (record { place = place; begin = begin; data_bytes = data_bytes }) m key l e))
    ∙ (ap lines_heard (ap (filter (λ (t : Tag). not (is_realtime_sign t.sign))) (sym all)
    ∙ (sym (filter-two x (λ m. not (is_realtime_sign m)) p.taken) ∙ (turns.turns x
    ∙ ap (λ (o : Option Tag). filter (tag_in_turn x) (tags_passed p) ++ (filter (tag_in_turn x) (one o) ++ p.held x))
    idle)))
    ∙ (heard-append (filter (tag_in_turn x) (tags_passed p)) (p.held x)
    ∙ ap (λ ls. ls ++ lines_heard (p.held x)) (sym (turn-lines x p.passed own)))))

-- and of its real-time marks, where none is just offered: all
once-heard : (p : Play) (x : ℕ) (puts : List Put) → InTurn p → p.offered ≡ None →
    filter (λ (t : Tag). t.source == x) p.taken ≡ tags_of x puts → AreOwnLines (tags_passed p) →
    filter is_at_once (lines_of x puts) ≡ filter is_at_once (lines_in x (report_of p.passed))
once-heard p x puts turns idle all own =
    ap (filter is_at_once) (source-lines x puts)
    ∙ (kind-heard x is_realtime is_realtime_sign (nothing_under x) (keyed_marks x puts)
    (λ place begin data_bytes m key l e. line_kind x (record { place = place; begin = begin; data_bytes = data_bytes })
    m key l e)
    ∙ (ap lines_heard (ap (filter (λ (t : Tag). is_realtime_sign t.sign)) (sym all)
    ∙ (sym (filter-two x is_realtime_sign p.taken) ∙ (turns.realtimes x
    ∙ (ap (λ (o : Option Tag). filter (tag_at_once x) (tags_passed p) ++ filter (tag_at_once x) (one o)) idle
    ∙ append-nil (filter (tag_at_once x) (tags_passed p))))))
    ∙ sym (once-lines x p.passed own)))

-- Merged, first part: where nothing of a source waits, and all of its marks were taken.
pub of-source : (p : Play) (x : ℕ) (puts : List Put) → InTurn p → p.offered ≡ None → p.held x ≡ [] →
    filter (λ (t : Tag). t.source == x) p.taken ≡ tags_of x puts → AreOwnLines (tags_passed p) →
    IsOfSource puts x (report_of p.passed)
of-source p x puts turns idle none all own = record {
  turns = sym (turns-heard p x puts turns idle all own
      ∙ (ap (λ ts. filter in_turn (lines_in x (report_of p.passed)) ++ lines_heard ts) none
      ∙ append-nil (filter in_turn (lines_in x (report_of p.passed)))));
  realtimes = sym (once-heard p x puts turns idle all own);
}

-- the lines of more marks
tags-append : (source : ℕ) (u : Under) (ms more : List (Key × Sign)) →
    tags_from source u (ms ++ more) ≡ tags_from source u ms ++ tags_from source (under_behind u ms) more
tags-append source u [] more = refl
tags-append source u (m ∷ ms) more =
    ap (λ ts. tag_at source u m.0 m.1 ∷ ts) (tags-append source (under_after u m.0 m.1) ms more)

keyed-append : (source : ℕ) (puts more : List Put) →
    keyed_marks source (puts ++ more) ≡ keyed_marks source puts ++ keyed_marks source more
keyed-append source [] more = refl
keyed-append source (At n m ∷ puts) more =
    ap (λ (ms : List (Key × Sign)). (key_at n source, m) ∷ ms) (keyed-append source puts more)
keyed-append source (Flush ∷ puts) more = keyed-append source puts more

lines-append : (x : ℕ) (puts more : List Put) → (behind : List Line) ×
    (lines_of x (puts ++ more) ≡ lines_of x puts ++ behind)
lines-append x puts more = (
  lines_heard (tags_from x (under_behind (nothing_under x) (keyed_marks x puts)) (keyed_marks x more)),
  source-lines x (puts ++ more)
      ∙ (ap lines_heard (ap (tags_from x (nothing_under x)) (keyed-append x puts more)
      ∙ tags-append x (nothing_under x) (keyed_marks x puts) (keyed_marks x more))
      ∙ (heard-append (tags_of x puts) (tags_from x (under_behind (nothing_under x) (keyed_marks x puts))
      (keyed_marks x more))
      ∙ ap (λ ls. ls ++ lines_heard (tags_from x (under_behind (nothing_under x) (keyed_marks x puts))
      (keyed_marks x more)))
      (sym (source-lines x puts)))),
)

kind-front : (kind : Line → Bool) (x : ℕ) (puts all : List Put) (passed waits : List Line) → IsFront puts all →
    filter kind (lines_of x puts) ≡ passed ++ waits → IsFront passed (filter kind (lines_of x all))
kind-front kind x puts all passed waits front is =
    let more = lines-append x puts front.0 in (
      waits ++ filter kind more.0,
      ap (λ ps. filter kind (lines_of x ps)) front.1 ∙ (ap (filter kind) more.1
          ∙ (filter-append kind (lines_of x puts) more.0
          ∙ (ap (λ ls. ls ++ filter kind more.0) is ∙ append_assoc passed waits (filter kind more.0)))),
    )

-- Where a run stopped: what was taken is a front of the source's marks.
pub front-of-source : (p : Play) (x : ℕ) (puts all : List Put) → InTurn p → p.offered ≡ None → IsFront puts all →
    filter (λ (t : Tag). t.source == x) p.taken ≡ tags_of x puts → AreOwnLines (tags_passed p) →
    IsFrontOfSource all x (report_of p.passed)
front-of-source p x puts all turns idle front taken own = record {
  turns = kind-front in_turn x puts all (filter in_turn (lines_in x (report_of p.passed))) (lines_heard (p.held x))
      front
      (turns-heard p x puts turns idle taken own);
  realtimes = kind-front is_at_once x puts all (filter is_at_once (lines_in x (report_of p.passed))) [] front
      (once-heard p x puts turns idle taken own ∙ sym (append-nil
      (filter is_at_once (lines_in x (report_of p.passed)))));
}
