-- While a tape goes on, its marks so far stay.
use Rattle.std.proofs.Common.{◌≡◌, ℕ, Bool, true, false, if◌then◌else◌, List, [], ◌∷◌, ◌++◌, Option, Some, None, refl}
use Rattle.std.proofs.Common.{sym, ◌∙◌, ap, append_assoc, append-nil}
use Rattle.std.specs.Prelude.{◌==◌}
use Rattle.mb_message.specs.Front.{IsFront}
use Rattle.mb_stream.specs.Puts.{Put, puts_at}
use Rattle.mb_frames.specs.Tapes.{Record, RecordPart, RecordBegin, RecordByte, RecordEnd, tape_parts}
use Rattle.mb_frames.specs.TapeSteps.{TapeState, end_by, fresh, parts_at, parts_from, rested, tape_behind}
use Rattle.mb_frames.proofs.TapeLiteral.{tape-reads}
use Rattle.mb_carrier.specs.Carrier.{marks_so_far}
use Rattle.mb_carrier.specs.declared.spec.Spec.{Spec}
use Rattle.mb_carrier.proofs.PutLemmas.{puts_at-append}
use Rattle.mb_track.specs.Track.{begun, bytes_on, marks_from, new_marks, records_from, track_marks_so_far, with_bytes}
use Rattle.mb_track.proofs.MarkLemmas.{marks-more, new-are}
use Rattle.mb_track.proofs.RecordLemmas.{no_bytes, twice}

-- the parts of more bytes go on behind those so far
parts-grow : (t : TapeState) (bytes more : List ℕ) → IsFront (parts_from t bytes) (parts_from t (bytes ++ more))
parts-grow t [] [] = ([], sym (append-nil (end_by t.place)))
parts-grow t [] (m ∷ more) = (parts_at (rested t) m ++ parts_from (tape_behind (rested t) m) more, refl)
parts-grow t (b ∷ bs) more =
    let f = parts-grow (tape_behind (rested t) b) bs more in
    let told = parts_from (tape_behind (rested t) b) bs in (
      f.0,
      ap (λ ps. end_by t.place ++ (parts_at (rested t) b ++ ps)) f.1
          ∙ (ap (λ ps. end_by t.place ++ ps) (sym (append_assoc (parts_at (rested t) b) told f.0))
          ∙ sym (append_assoc (end_by t.place) (parts_at (rested t) b ++ told) f.0)),
    )

tape-grows : (tape more : List ℕ) → IsFront (tape_parts tape) (tape_parts (tape ++ more))
tape-grows tape more =
    let f = parts-grow fresh tape more in (
      f.0,
      sym (tape-reads (tape ++ more)).parts ∙ (f.1 ∙ ap (λ ps. ps ++ f.0) (tape-reads tape).parts),
    )

-- a record under way may get more bytes, and then others follow
record First (r : Record) (records : List Record) : Type 0 where
  bytes : List ℕ
  rest : List Record
  is : records ≡ with_bytes r bytes ∷ rest

alone : (r : Record) (rest : List Record) → First r (r ∷ rest)
alone r rest = record { bytes = []; rest = rest; is = ap (λ (q : Record). q ∷ rest) (sym (no_bytes r)) }

first : (r : Record) (parts : List RecordPart) → First r (records_from (Some r) parts)
first r [] = alone r []
first r (RecordBegin moment track len ∷ parts) = alone r (records_from (Some (begun moment track)) parts)
first r (RecordByte b ∷ parts) =
    let f = first (with_bytes r (b ∷ [])) parts in
    record {
      bytes = b ∷ f.bytes;
      rest = f.rest;
      is = f.is ∙ ap (λ (q : Record). q ∷ f.rest) (twice r (b ∷ []) f.bytes);
    }
first r (RecordEnd ∷ parts) = alone r (records_from None parts)

-- its new marks so far stay its first

new-front : (s : Spec) (before xs ys : List ℕ) → IsFront (new_marks s before xs) (new_marks s before (xs ++ ys))
new-front s before xs ys =
    let news = new_marks s before xs in
    let more = new_marks s (before ++ xs) ys in (
      more,
      new-are s before (xs ++ ys) (news ++ more)
          (ap (marks_so_far s) (sym (append_assoc before xs ys))
          ∙ (marks-more s (before ++ xs) ys
          ∙ (ap (λ ms. ms ++ more) (marks-more s before xs) ∙ append_assoc (marks_so_far s before) news more))),
    )

more-bytes : (track : ℕ) (r : Record) (bytes : List ℕ) →
    bytes_on track (with_bytes r bytes) ≡ bytes_on track r ++ (if r.track == track then bytes else [])
more-bytes track r bytes = by (r.track == track)
  where
    by : (t : Bool) → (if t then r.bytes ++ bytes else []) ≡ (if t then r.bytes else []) ++ (if t then bytes else [])
    by true = refl
    by false = refl

under-front : (s : Spec) (track : ℕ) (before : List ℕ) (r : Record) (parts : List RecordPart) →
    IsFront (marks_from s track before (r ∷ [])) (marks_from s track before (records_from (Some r) parts))
under-front s track before r parts =
    let f = first r parts in
    let further = if r.track == track then f.bytes else [] in
    let g = new-front s before (bytes_on track r) further in
    let told = puts_at r.moment (new_marks s before (bytes_on track r)) in
    let others = marks_from s track (before ++ bytes_on track (with_bytes r f.bytes)) f.rest in (
      puts_at r.moment g.0 ++ others,
      ap (marks_from s track before) f.is
          ∙ (ap (λ bs. puts_at r.moment (new_marks s before bs) ++ others) (more-bytes track r f.bytes)
          ∙ (ap (λ ms. puts_at r.moment ms ++ others) g.1
          ∙ (ap (λ ps. ps ++ others) (puts_at-append r.moment (new_marks s before (bytes_on track r)) g.0)
          ∙ (append_assoc told (puts_at r.moment g.0) others
          ∙ ap (λ ps. ps ++ (puts_at r.moment g.0 ++ others)) (sym (append-nil told)))))),
    )

behind-head : (head xs ys : List Put) → IsFront xs ys → IsFront (head ++ xs) (head ++ ys)
behind-head head xs ys f = (f.0, ap (λ zs. head ++ zs) f.1 ∙ sym (append_assoc head xs f.0))

marks-grow : (s : Spec) (track : ℕ) (before : List ℕ) (under : Option Record) (parts more : List RecordPart) →
    IsFront (marks_from s track before (records_from under parts))
    (marks_from s track before (records_from under (parts ++ more)))
marks-grow s track before None [] more = (marks_from s track before (records_from None more), refl)
marks-grow s track before (Some r) [] more = under-front s track before r more
marks-grow s track before None (RecordBegin moment other len ∷ parts) more =
    marks-grow s track before (Some (begun moment other)) parts more
marks-grow s track before (Some r) (RecordBegin moment other len ∷ parts) more =
    behind-head (puts_at r.moment (new_marks s before (bytes_on track r))) _ _
    (marks-grow s track (before ++ bytes_on track r) (Some (begun moment other)) parts more)
marks-grow s track before None (RecordByte b ∷ parts) more = marks-grow s track before None parts more
marks-grow s track before (Some r) (RecordByte b ∷ parts) more =
    marks-grow s track before (Some (with_bytes r (b ∷ []))) parts more
marks-grow s track before None (RecordEnd ∷ parts) more = marks-grow s track before None parts more
marks-grow s track before (Some r) (RecordEnd ∷ parts) more =
    behind-head (puts_at r.moment (new_marks s before (bytes_on track r))) _ _
    (marks-grow s track (before ++ bytes_on track r) None parts more)

pub track-grows : (s : Spec) (track : ℕ) (tape more : List ℕ) →
    IsFront (track_marks_so_far s track tape) (track_marks_so_far s track (tape ++ more))
track-grows s track tape more =
    let f = tape-grows tape more in
    let g = marks-grow s track [] None (tape_parts tape) f.0 in
    (g.0, ap (λ ps. marks_from s track [] (records_from None ps)) f.1 ∙ g.1)
