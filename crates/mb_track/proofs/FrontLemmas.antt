-- What was told of a track is a front of its marks, whatever of the tape stands next, and it suits.
use Rattle.std.proofs.Common.{◌≡◌, ℕ, ◌-◌, Bool, true, false, List, [], ◌∷◌, ◌++◌, length, map, take}
use Rattle.std.proofs.Common.{drop, Option, Some, None, refl, sym, ◌∙◌, ap, subst, arith, append_assoc, append-nil}
use Rattle.std.specs.Prelude.{◌==◌, not}
use Rattle.std.proofs.lemmas.Bool.{false≢true}
use Rattle.std.proofs.lemmas.List.{append_cancel_left, length-take, take-append-drop}
use Rattle.mb_message.specs.Front.{IsFront}
use Rattle.mb_message.specs.Signs.{Sign}
use Rattle.mb_stream.specs.Puts.{Put, puts_at, signs_in}
use Rattle.mb_stream.specs.Reading.{told_signs}
use Rattle.mb_stream.specs.Standing.{suited}
use Rattle.mb_stream.specs.Told.{Known}
use Rattle.mb_frames.specs.Tapes.{Record, RecordPart, RecordBegin, RecordByte, RecordEnd}
use Rattle.mb_frames.specs.TapeSteps.{TapeState, parts_from}
use Rattle.mb_frames.specs.TapeReading.{to_come, to_come_by}
use Rattle.mb_frames.specs.declared.tape.Place.{Place}
use Rattle.mb_frames.specs.declared.tape.Place.TheVariants as place
use Rattle.mb_frames.proofs.TapeStepLemmas.{within_parts}
use Rattle.mb_stream.proofs.PutsLemmas.{signs_in-append, signs_in-at}
use Rattle.mb_carrier.specs.Carrier.{end_told, known, known_signs, marks_of, marks_so_far}
use Rattle.mb_carrier.specs.SpecLaws.{known-stays, marks-end, marks-suit}
use Rattle.mb_carrier.specs.declared.spec.Spec.{Spec}
use Rattle.mb_carrier.proofs.Fronts.{front-refl, front-then}
use Rattle.mb_carrier.proofs.PutLemmas.{puts_at-append}
use Rattle.mb_carrier.proofs.ReadingLemmas.{suited-front}
use Rattle.mb_track.specs.Track.{as_it_stands, begun, bytes_on, last_record_moment, marks_from, new_marks, recording}
use Rattle.mb_track.specs.Track.{records_from, track_end, track_marks, track_marks_so_far, track_records, with_bytes}
use Rattle.mb_track.specs.TrackReading.{TrackStandsBy, is_own, next_own}
use Rattle.mb_carrier.proofs.GrowSpecs.{grows}
use Rattle.mb_track.proofs.RecordLemmas.{longer, no_bytes, other-bytes, own-bytes, records-bytes}
use Rattle.mb_track.proofs.RecordLemmas.{recording-append, twice, under-moment}
use Rattle.mb_track.proofs.MarkLemmas.{marks-append, marks-more, marks-signs, signs-front}

-- a record that is under way goes on, with these bytes more, whatever parts follow
records-longer : (r : Record) (ps : List RecordPart) →
    (ys : List ℕ) × (others : List Record) × (records_from (Some r) ps ≡ with_bytes r ys ∷ others)
records-longer r [] = ([], [], ap (λ (q : Record). q ∷ []) (sym (no_bytes r)))
records-longer r (RecordBegin moment track len ∷ ps) =
    let others = records_from (Some (begun moment track)) ps in
    ([], others, ap (λ (q : Record). q ∷ others) (sym (no_bytes r)))
records-longer r (RecordByte b ∷ ps) =
    let more = records-longer (with_bytes r (b ∷ [])) ps in
    (b ∷ more.0, more.1, more.2 ∙ ap (λ (q : Record). q ∷ more.1) (twice r (b ∷ []) more.0))
records-longer r (RecordEnd ∷ ps) =
    let others = records_from None ps in
    ([], others, ap (λ (q : Record). q ∷ others) (sym (no_bytes r)))

-- the bytes of the record under way come first
parts-next : (p : Place) (t : TapeState) (next : List ℕ) → (rest : List RecordPart) ×
    (parts_from (record t { place = p }) next ≡ map RecordByte (take (to_come_by p) next) ++ rest)
parts-next place.Magic t next = (parts_from (record t { place = place.Magic }) next, refl)
parts-next place.Header t next = (parts_from (record t { place = place.Header }) next, refl)
parts-next (place.Within left) t next =
    let near = take left next in
    let further : ℕ = left - length near in (
      parts_from (record t { place = place.Within further }) (drop left next),
      ap (parts_from (record t { place = place.Within left })) (sym (take-append-drop left next))
          ∙ within_parts left t near (drop left next) further (omega (arith, length-take left next)),
    )
parts-next (place.Broken f) t next = (parts_from (record t { place = place.Broken f }) next, refl)

-- the marks told of the record under way are a front of those that it makes known as it goes on
under-front : (s : Spec) (track moment : ℕ) (ended : List Record) (u : Record) (others : List Record) (told : List Put)
    (fresh : List Sign) → told ≡ marks_from s track [] ended ++ puts_at moment fresh → moment ≡ u.moment →
    IsFront (marks_so_far s (recording track ended) ++ fresh)
    (marks_so_far s (recording track ended ++ bytes_on track u)) →
    IsFront told (marks_from s track [] (ended ++ u ∷ others))
under-front s track moment ended u others told fresh told_is at f =
    let before : List ℕ = recording track ended in
    let news : List Sign = new_marks s before (bytes_on track u) in
    let is : news ≡ fresh ++ f.0
    = append_cancel_left (marks_so_far s before) news (fresh ++ f.0)
    (sym (marks-more s before (bytes_on track u)) ∙ (f.1 ∙ append_assoc (marks_so_far s before) fresh f.0)) in
    let later : List Put = marks_from s track (before ++ bytes_on track u) others in
    let all : marks_from s track [] (ended ++ u ∷ others) ≡
    marks_from s track [] ended ++ (puts_at moment fresh ++ (puts_at moment f.0 ++ later))
    = marks-append s track [] ended (u ∷ others)
    ∙ ap (λ ps. marks_from s track [] ended ++ ps)
    (ap (λ ps. ps ++ later) (ap (λ m. puts_at m news) (sym at) ∙ (ap (puts_at moment) is
    ∙ puts_at-append moment fresh f.0)) ∙ append_assoc (puts_at moment fresh) (puts_at moment f.0) later) in (
      puts_at moment f.0 ++ later,
      all ∙ (sym (append_assoc (marks_from s track [] ended) (puts_at moment fresh) (puts_at moment f.0 ++ later))
          ∙ ap (λ ps. ps ++ (puts_at moment f.0 ++ later)) (sym told_is)),
    )

one-after : (track : ℕ) (ended : List Record) (u : Record) →
    recording track (ended ++ u ∷ []) ≡ recording track ended ++ bytes_on track u
one-after track ended u =
    recording-append track ended (u ∷ []) ∙ ap (λ xs. recording track ended ++ xs) (append-nil (bytes_on track u))

front-own : (s : Spec) (track moment : ℕ) (ended : List Record) (u : Record) (xs : List ℕ) (rest : List RecordPart)
    (known_told : List Known) (fresh : List Sign) (told : List Put) → (u.track == track) ≡ true →
    IsFront known_told (known s (recording track (ended ++ u ∷ []) ++ xs)) →
    known_signs known_told ≡ marks_so_far s (recording track ended) ++ fresh →
    told ≡ marks_from s track [] ended ++ puts_at moment fresh → moment ≡ u.moment →
    IsFront told (marks_from s track [] (ended ++ records_from (Some (with_bytes u xs)) rest))
front-own s track moment ended u xs rest known_told fresh told own still signs told_is at =
    let before : List ℕ = recording track ended in
    let more = records-longer (with_bytes u xs) rest in
    let v : Record = with_bytes (with_bytes u xs) more.0 in
    let with_next : recording track (ended ++ u ∷ []) ++ xs ≡ before ++ (u.bytes ++ xs)
    = ap (λ zs. zs ++ xs) (one-after track ended u ∙ ap (λ zs. before ++ zs) (own-bytes track u own))
    ∙ append_assoc before u.bytes xs in
    let all : before ++ bytes_on track v ≡ (before ++ (u.bytes ++ xs)) ++ more.0
    = ap (λ zs. before ++ zs) (own-bytes track v own) ∙ sym (append_assoc before (u.bytes ++ xs) more.0) in
    let near : IsFront (known_signs known_told) (marks_so_far s (before ++ (u.bytes ++ xs)))
    = signs-front known_told (known s (before ++ (u.bytes ++ xs)))
    (subst (λ (zs : List ℕ). IsFront known_told (known s zs)) with_next still) in
    let far : IsFront (marks_so_far s (before ++ (u.bytes ++ xs))) (marks_so_far s (before ++ bytes_on track v))
    = subst (λ (zs : List ℕ). IsFront (marks_so_far s (before ++ (u.bytes ++ xs))) (marks_so_far s zs)) (sym all)
    (signs-front (known s (before ++ (u.bytes ++ xs))) (known s ((before ++ (u.bytes ++ xs)) ++ more.0))
    (known-stays s (before ++ (u.bytes ++ xs)) more.0)) in
    subst (λ (rs : List Record). IsFront told (marks_from s track [] (ended ++ rs))) (sym more.2)
    (under-front s track moment ended v more.1 told fresh told_is at
    (subst (λ (ms : List Sign). IsFront ms (marks_so_far s (before ++ bytes_on track v))) signs
    (front-then (known_signs known_told) (marks_so_far s (before ++ (u.bytes ++ xs)))
    (marks_so_far s (before ++ bytes_on track v)) near far)))

front-other : (s : Spec) (track moment : ℕ) (ended : List Record) (u : Record) (xs : List ℕ) (rest : List RecordPart)
    (known_told : List Known) (fresh : List Sign) (told : List Put) → (u.track == track) ≡ false →
    known_told ≡ known s (recording track (ended ++ u ∷ [])) →
    known_signs known_told ≡ marks_so_far s (recording track ended) ++ fresh →
    told ≡ marks_from s track [] ended ++ puts_at moment fresh → moment ≡ u.moment →
    IsFront told (marks_from s track [] (ended ++ records_from (Some (with_bytes u xs)) rest))
front-other s track moment ended u xs rest known_told fresh told other all signs told_is at =
    let before : List ℕ = recording track ended in
    let more = records-longer (with_bytes u xs) rest in
    let v : Record = with_bytes (with_bytes u xs) more.0 in
    let same : recording track (ended ++ u ∷ []) ≡ before ++ bytes_on track v
    = one-after track ended u ∙ ap (λ zs. before ++ zs) (other-bytes track u other ∙ sym (other-bytes track v other)) in
    subst (λ (rs : List Record). IsFront told (marks_from s track [] (ended ++ rs))) (sym more.2)
    (under-front s track moment ended v more.1 told fresh told_is at
    (subst (λ (ms : List Sign). IsFront ms (marks_so_far s (before ++ bytes_on track v)))
    (sym (ap known_signs (all ∙ ap (known s) same)) ∙ signs) (front-refl (marks_so_far s (before ++ bytes_on track
    v)))))

front-none : (s : Spec) (track moment : ℕ) (ended : List Record) (others : List Record) (known_told : List Known)
    (fresh : List Sign) (told : List Put) → known_told ≡ known s (recording track (ended ++ [])) →
    known_signs known_told ≡ marks_so_far s (recording track ended) ++ fresh →
    told ≡ marks_from s track [] ended ++ puts_at moment fresh →
    IsFront told (marks_from s track [] (ended ++ others))
front-none s track moment ended others known_told fresh told all signs told_is =
    let nothing : fresh ≡ []
    = append_cancel_left (marks_so_far s (recording track ended)) fresh []
    (sym signs ∙ (ap known_signs all ∙ (ap (λ rs. marks_so_far s (recording track rs)) (append-nil ended)
    ∙ sym (append-nil (marks_so_far s (recording track ended)))))) in (
      marks_from s track (recording track ended) others,
      marks-append s track [] ended others
          ∙ ap (λ ps. ps ++ marks_from s track (recording track ended) others)
          (sym (told_is ∙ (ap (λ ms. marks_from s track [] ended ++ puts_at moment ms) nothing
          ∙ append-nil (marks_from s track [] ended)))),
    )

front-by : (s : Spec) (track : ℕ) (own : Bool) (moment : ℕ) (ended : List Record) (under : Option Record) (xs : List ℕ)
    (rest : List RecordPart) (known_told : List Known) (fresh : List Sign) (told : List Put) →
    own ≡ is_own track under →
    (own ≡ true → IsFront known_told (known s (recording track (ended ++ as_it_stands under) ++ xs))) →
    (not own ≡ true → known_told ≡ known s (recording track (ended ++ as_it_stands under))) →
    known_signs known_told ≡ marks_so_far s (recording track ended) ++ fresh →
    told ≡ marks_from s track [] ended ++ puts_at moment fresh →
    moment ≡ last_record_moment (ended ++ as_it_stands under) →
    IsFront told (marks_from s track [] (ended ++ records_from (longer under xs) rest))
front-by s track true moment ended None xs rest known_told fresh told own still all signs told_is at =
    absurd (false≢true (sym own))
front-by s track true moment ended (Some u) xs rest known_told fresh told own still all signs told_is at =
    front-own s track moment ended u xs rest known_told fresh told (sym own) (still refl) signs told_is
    (at ∙ under-moment ended u)
front-by s track false moment ended None xs rest known_told fresh told own still all signs told_is at =
    front-none s track moment ended (records_from None rest) known_told fresh told (all refl) signs told_is
front-by s track false moment ended (Some u) xs rest known_told fresh told own still all signs told_is at =
    front-other s track moment ended u xs rest known_told fresh told (sym own) (all refl) signs told_is
    (at ∙ under-moment ended u)

still-own : (own : Bool) (s : Spec) (tape : TapeState) (known_told : List Known) (recorded next : List ℕ) →
    IsFront known_told (known s (recorded ++ next_own own tape next)) → own ≡ true →
    IsFront known_told (known s (recorded ++ take (to_come tape) next))
still-own own s tape known_told recorded next still e =
    subst (λ (z : Bool). IsFront known_told (known s (recorded ++ next_own z tape next))) e still

pub told-front : (s : Spec) (reader : List ℕ → List Known → Type 0) (tape : TapeState) (track : ℕ) (own : Bool)
    (moment : ℕ) (taken next : List ℕ) (told : List Put) →
    TrackStandsBy s reader tape track own (not own) moment taken next told →
    IsFront told (track_marks_so_far s track (taken ++ next))
told-front s reader tape track own moment taken next told st =
    let near = parts-next tape.place tape next in
    let xs : List ℕ = take (to_come tape) next in
    let records : track_records (taken ++ next) ≡ st.ended ++ records_from (longer st.under xs) near.0
    = ap (records_from None) (st.of_tape.parts next ∙ ap (λ ps. st.parts ++ ps) near.1)
    ∙ (st.cut (map RecordByte xs ++ near.0) ∙ ap (λ rs. st.ended ++ rs) (records-bytes st.under xs near.0)) in
    subst (λ (rs : List Record). IsFront told (marks_from s track [] rs)) (sym records)
    (front-by s track own moment st.ended st.under xs near.0 st.known_told st.fresh told st.is_own
    (still-own own s tape st.known_told (recording track (st.ended ++ as_it_stands st.under)) next st.still) st.all
    st.signs st.told_is st.moment_is)

-- however a recording is cut into records, its marks are the same

pub so-far-signs : (s : Spec) (track : ℕ) (tape : List ℕ) →
    signs_in (track_marks_so_far s track tape) ≡ marks_so_far s (recording track (track_records tape))
so-far-signs s track tape =
    sym (marks-signs s track [] (track_records tape)
    ∙ ap (λ ms. ms ++ signs_in (track_marks_so_far s track tape)) (ap known_signs (grows s).nothing_known))

pub all-signs : (s : Spec) (track : ℕ) (tape : List ℕ) →
    signs_in (track_marks s track tape) ≡ marks_of s (recording track (track_records tape))
all-signs s track tape =
    let recorded : List ℕ = recording track (track_records tape) in
    signs_in-append (track_marks_so_far s track tape) (track_end s track tape)
    ∙ (ap (λ ms. ms ++ signs_in (track_end s track tape)) (so-far-signs s track tape)
    ∙ (ap (λ ms. marks_so_far s recorded ++ ms)
    (signs_in-at (last_record_moment (track_records tape)) (told_signs (end_told s recorded)))
    ∙ sym (marks-end s recorded)))

pub all-suit : (s : Spec) (track : ℕ) (tape : List ℕ) → suited (signs_in (track_marks s track tape)) ≡ true
all-suit s track tape =
    ap suited (all-signs s track tape) ∙ marks-suit s (recording track (track_records tape))

pub told-suits : (s : Spec) (track : ℕ) (tape : List ℕ) (told : List Put) →
    IsFront told (track_marks_so_far s track tape) → suited (signs_in told) ≡ true
told-suits s track tape told f =
    let more : List Put = f.0 ++ track_end s track tape in
    suited-front (signs_in told) (signs_in more)
    (ap suited (sym (signs_in-append told more)
    ∙ ap signs_in (sym (append_assoc told f.0 (track_end s track tape))
    ∙ ap (λ ps. ps ++ track_end s track tape) (sym f.1))) ∙ all-suit s track tape)
