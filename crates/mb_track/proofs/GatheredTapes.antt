-- Gathered tapes are recordings of their bytes, each at its moment.
--
--   AreTimed last ts           the moments of bytes don't fall, the first not below this one, and fit in eight bytes
--   timed_marks s before ts    the marks that bytes make known one by one behind a recording, each at its byte's moment
use Rattle.std.proofs.Common.{◌≡◌, ℕ, ◌≤◌, ◌<◌, ◌^◌, Bool, true, false, List, [], ◌∷◌, ◌++◌, length, map, flat_map}
use Rattle.std.proofs.Common.{refl, sym, ◌∙◌, ap, ap₂, subst, arith, append_assoc, append-nil, length-append}
use Rattle.std.proofs.Common.{Option, Some, None}
use Rattle.std.specs.Prelude.{◌==◌, nat_lt, if◌then◌else◌}
use Rattle.std.proofs.lemmas.Bool.Decides.{nat_tests}
use Rattle.std.proofs.lemmas.List.{map-append}
use Rattle.std.proofs.lemmas.List.Concat.{flat_map-append}
use Rattle.mb_stream.specs.Puts.{Put, puts_at}
use Rattle.mb_frames.specs.Tapes.{AreRecords, IsRight, Record, RecordByte, RecordEnd, record_parts, tape, tape_parts}
use Rattle.mb_frames.specs.Gathered.{Stretch, TimedByte, alone, before, gathered, gathered_records, piece_record, pieces}
use Rattle.mb_frames.specs.Gathered.{pieces_from, stretch_records, stretches}
use Rattle.mb_frames.proofs.TapeLiteral.{tape-reads}
use Rattle.mb_frames.proofs.TapeRecords.{behind_form, none-behind, tapes-parts}
use Rattle.mb_carrier.specs.Carrier.{marks_so_far}
use Rattle.mb_carrier.specs.declared.spec.Spec.{Spec}
use Rattle.mb_carrier.proofs.PutLemmas.{puts_at-append}
use Rattle.mb_track.specs.Track.{begun, bytes_on, marks_from, new_marks, recording, records_from, track_marks_so_far}
use Rattle.mb_track.specs.Track.{track_records}
use Rattle.mb_track.proofs.RecordLemmas.{records-bytes}
use Rattle.mb_track.proofs.MarkLemmas.{marks-more, new-are, none-new}

abbrev pub byte_at : (moment byte : ℕ) → TimedByte
byte_at moment byte = record { moment = moment; byte = byte }

abbrev pub bytes_of : List TimedByte → List ℕ
bytes_of ts = map (λ t. t.byte) ts

abbrev pub AreTimed : (last : ℕ) → List TimedByte → Type 0
AreTimed last [] = Unit {0}
AreTimed last (t ∷ ts) = (last ≤ t.moment) × (t.moment < 2 ^ 64) × AreTimed t.moment ts

-- the bytes of records, each at its record's moment

abbrev timed_record : Record → List TimedByte
timed_record r = map (byte_at r.moment) r.bytes

abbrev timed_stretch : Stretch → List TimedByte
timed_stretch s = map (byte_at s.moment) s.bytes

timed-pieces : (m : ℕ) (q bs : List ℕ) →
    flat_map timed_record (map (piece_record m) (pieces_from q bs)) ≡ map (byte_at m) (q ++ bs)
timed-pieces m q [] = append-nil (map (byte_at m) q) ∙ ap (map (byte_at m)) (sym (append-nil q))
timed-pieces m q (b ∷ bs) = by (nat_lt (length q) 255) (timed-pieces m (q ++ b ∷ []) bs) (timed-pieces m (b ∷ []) bs)
  where
    by : (room : Bool) →
        flat_map timed_record (map (piece_record m) (pieces_from (q ++ b ∷ []) bs)) ≡
        map (byte_at m) ((q ++ b ∷ []) ++ bs) →
        flat_map timed_record (map (piece_record m) (pieces_from (b ∷ []) bs)) ≡ map (byte_at m) (b ∷ bs) →
        flat_map timed_record (map (piece_record m)
        (if room then pieces_from (q ++ b ∷ []) bs else q ∷ pieces_from (b ∷ []) bs)) ≡ map (byte_at m) (q ++ b ∷ bs)
    by true on new = on ∙ ap (map (byte_at m)) (append_assoc q (b ∷ []) bs)
    by false on new = ap (λ ts. map (byte_at m) q ++ ts) new ∙ sym (map-append (byte_at m) q (b ∷ bs))

timed-cut : (m : ℕ) (bs : List ℕ) → flat_map timed_record (map (piece_record m) (pieces bs)) ≡ map (byte_at m) bs
timed-cut m [] = refl
timed-cut m (b ∷ bs) = timed-pieces m (b ∷ []) bs

timed-all : (ss : List Stretch) → flat_map timed_record (flat_map stretch_records ss) ≡ flat_map timed_stretch ss
timed-all [] = refl
timed-all (s ∷ ss) =
    flat_map-append timed_record (stretch_records s) (flat_map stretch_records ss)
    ∙ ap₂ (λ x y. x ++ y) (timed-cut s.moment s.bytes) (timed-all ss)

same-number : (m n : ℕ) → (m == n) ≡ true → m ≡ n
same-number m n h = grind (arith, nat_tests)

timed-before : (t : TimedByte) (ss : List Stretch) → flat_map timed_stretch (before t ss) ≡ t ∷ flat_map timed_stretch ss
timed-before t [] = refl
timed-before t (s ∷ ss) = by (t.moment == s.moment) refl where
  by : (same : Bool) → (t.moment == s.moment) ≡ same →
      flat_map timed_stretch (if same then (record { moment = t.moment; bytes = t.byte ∷ s.bytes }) ∷ ss
      else alone t ∷ s ∷ ss) ≡ t ∷ flat_map timed_stretch (s ∷ ss)
  by true h =
      ap (λ m. t ∷ map (byte_at m) s.bytes ++ flat_map timed_stretch ss) (same-number t.moment s.moment h)
  by false h = refl

timed-stretches : (ts : List TimedByte) → flat_map timed_stretch (stretches ts) ≡ ts
timed-stretches [] = refl
timed-stretches (t ∷ ts) = timed-before t (stretches ts) ∙ ap (λ zs. t ∷ zs) (timed-stretches ts)

timed-gathered : (ts : List TimedByte) → flat_map timed_record (gathered_records ts) ≡ ts
timed-gathered ts = timed-all (stretches ts) ∙ timed-stretches ts

-- they are right records

abbrev AreStretches : (last : ℕ) → List Stretch → Type 0
AreStretches last [] = Unit {0}
AreStretches last (s ∷ ss) =
    (last ≤ s.moment) × (s.moment < 2 ^ 64) × (0 < length s.bytes) × AreStretches s.moment ss

stretches-right : (last : ℕ) (ts : List TimedByte) → AreTimed last ts → AreStretches last (stretches ts)
stretches-right last [] are = tt
stretches-right last (t ∷ ts) are = by (stretches ts) (stretches-right t.moment ts are.2) where
  one : (s : Stretch) (ss : List Stretch) (same : Bool) → (t.moment == s.moment) ≡ same →
      AreStretches t.moment (s ∷ ss) →
      AreStretches last (if same then (record { moment = t.moment; bytes = t.byte ∷ s.bytes }) ∷ ss
      else alone t ∷ s ∷ ss)
  one s ss true h st = (
    are.0,
    are.1,
    omega arith,
    subst (λ (m : ℕ). AreStretches m ss)
        (sym (same-number t.moment s.moment h)) st.3,
  )
  one s ss false h st = (are.0, are.1, omega arith, st)

  by : (ss : List Stretch) → AreStretches t.moment ss → AreStretches last (before t ss)
  by [] st = (are.0, are.1, omega arith, tt)
  by (s ∷ ss) st = one s ss (t.moment == s.moment) refl st

right-piece : (last m : ℕ) (q : List ℕ) → last ≤ m → m < 2 ^ 64 → 0 < length q → length q ≤ 255 →
    IsRight true last (piece_record m q)
right-piece last m q rises near some fits = record {
  rises = rises;
  near = omega (arith, near);
  track = omega arith;
  one_track = λ form. refl;
  some = some;
  fits = omega (arith, fits);
}

right-pieces : (last m : ℕ) (q bs : List ℕ) (rest : List Record) → last ≤ m → m < 2 ^ 64 → 0 < length q →
    length q ≤ 255 → AreRecords true m rest →
    AreRecords true last (map (piece_record m) (pieces_from q bs) ++ rest)
right-pieces last m q [] rest rises near some fits are = (right-piece last m q rises near some fits, are)
right-pieces last m q (b ∷ bs) rest rises near some fits are =
    by (nat_lt (length q) 255) refl
    (λ room. right-pieces last m (q ++ b ∷ []) bs rest rises near
    (omega (arith, length-append q (b ∷ []))) (omega (arith, room, length-append q (b ∷ []))) are)
    (right-pieces m m (b ∷ []) bs rest (omega arith) near (omega arith) (omega arith) are)
  where
    by : (room : Bool) → nat_lt (length q) 255 ≡ room →
        (length q < 255 → AreRecords true last (map (piece_record m) (pieces_from (q ++ b ∷ []) bs) ++ rest)) →
        AreRecords true m (map (piece_record m) (pieces_from (b ∷ []) bs) ++ rest) →
        AreRecords true last (map (piece_record m)
        (if room then pieces_from (q ++ b ∷ []) bs else q ∷ pieces_from (b ∷ []) bs) ++ rest)
    by true h on new = on (grind (arith, nat_tests))
    by false h on new = (right-piece last m q rises near some fits, new)

right-stretch : (last m : ℕ) (bs : List ℕ) (rest : List Record) → last ≤ m → m < 2 ^ 64 → 0 < length bs →
    AreRecords true m rest → AreRecords true last (map (piece_record m) (pieces bs) ++ rest)
right-stretch last m [] rest rises near some are = absurd (omega (arith, some))
right-stretch last m (b ∷ bs) rest rises near some are =
    right-pieces last m (b ∷ []) bs rest rises near (omega arith) (omega arith) are

right-all : (last : ℕ) (ss : List Stretch) → AreStretches last ss → AreRecords true last (flat_map stretch_records ss)
right-all last [] are = tt
right-all last (s ∷ ss) are =
    right-stretch last s.moment s.bytes (flat_map stretch_records ss) are.0 are.1 are.2 (right-all s.moment ss are.3)

pub gathered-right : (ts : List TimedByte) → AreTimed 0 ts → AreRecords true 0 (gathered_records ts)
gathered-right ts are = right-all 0 (stretches ts) (stretches-right 0 ts are)

-- the records of a tape of records

records-are : (rs : List Record) → records_from None (flat_map (record_parts true) rs) ≡ rs
records-are [] = refl
records-are (r ∷ rs) =
    let rest = flat_map (record_parts true) rs in
    ap (records_from (Some (begun r.moment r.track))) (append_assoc (map RecordByte r.bytes) (RecordEnd ∷ []) rest)
    ∙ (records-bytes (Some (begun r.moment r.track)) r.bytes (RecordEnd ∷ rest) ∙ ap (λ qs. r ∷ qs) (records-are rs))

pub gathered-records : (ts : List TimedByte) → AreTimed 0 ts → track_records (gathered ts) ≡ gathered_records ts
gathered-records ts are =
    let rs = gathered_records ts in
    ap (λ bytes. records_from None (tape_parts bytes)) (sym (append-nil (tape true rs)))
    ∙ (ap (records_from None) (sym (tape-reads (tape true rs ++ [])).parts
    ∙ (tapes-parts true rs [] (gathered-right ts are)
    ∙ (ap (λ ps. flat_map (record_parts true) rs ++ ps) (none-behind (behind_form true) rs)
    ∙ append-nil (flat_map (record_parts true) rs)))) ∙ records-are rs)

-- they are of track 0

abbrev AreFirst : List Record → Type 0
AreFirst [] = Unit {0}
AreFirst (r ∷ rs) = (r.track ≡ 0) × AreFirst rs

first-pieces : (m : ℕ) (qs : List (List ℕ)) (rest : List Record) → AreFirst rest →
    AreFirst (map (piece_record m) qs ++ rest)
first-pieces m [] rest are = are
first-pieces m (q ∷ qs) rest are = (refl, first-pieces m qs rest are)

first-all : (ss : List Stretch) → AreFirst (flat_map stretch_records ss)
first-all [] = tt
first-all (s ∷ ss) = first-pieces s.moment (pieces s.bytes) (flat_map stretch_records ss) (first-all ss)

first-bytes : (r : Record) → r.track ≡ 0 → bytes_on 0 r ≡ r.bytes
first-bytes r e = ap (λ t. if t == 0 then r.bytes else []) e

bare-record : (m : ℕ) (bs : List ℕ) → bytes_of (map (byte_at m) bs) ≡ bs
bare-record m [] = refl
bare-record m (b ∷ bs) = ap (λ z. b ∷ z) (bare-record m bs)

recording-bare : (rs : List Record) → AreFirst rs → recording 0 rs ≡ bytes_of (flat_map timed_record rs)
recording-bare [] are = refl
recording-bare (r ∷ rs) are =
    ap₂ (λ x y. x ++ y) (first-bytes r are.0 ∙ sym (bare-record r.moment r.bytes)) (recording-bare rs are.1)
    ∙ sym (map-append (λ t. t.byte) (timed_record r) (flat_map timed_record rs))

pub gathered-recording : (ts : List TimedByte) → AreTimed 0 ts →
    recording 0 (track_records (gathered ts)) ≡ bytes_of ts
gathered-recording ts are =
    ap (recording 0) (gathered-records ts are)
    ∙ (recording-bare (gathered_records ts) (first-all (stretches ts)) ∙ ap bytes_of (timed-gathered ts))

-- marks byte by byte

abbrev pub timed_marks : Spec → (before : List ℕ) → List TimedByte → List Put
timed_marks s before [] = []
timed_marks s before (t ∷ ts) =
    puts_at t.moment (new_marks s before (t.byte ∷ [])) ++ timed_marks s (before ++ t.byte ∷ []) ts

new-more : (s : Spec) (before xs ys : List ℕ) →
    new_marks s before (xs ++ ys) ≡ new_marks s before xs ++ new_marks s (before ++ xs) ys
new-more s before xs ys =
    let first = new_marks s before xs in
    let second = new_marks s (before ++ xs) ys in
    new-are s before (xs ++ ys) (first ++ second)
    (ap (marks_so_far s) (sym (append_assoc before xs ys))
    ∙ (marks-more s (before ++ xs) ys
    ∙ (ap (λ ms. ms ++ second) (marks-more s before xs) ∙ append_assoc (marks_so_far s before) first second)))

-- bytes of one moment make known at once what they do one by one
pub timed-run : (s : Spec) (before : List ℕ) (m : ℕ) (bs : List ℕ) (ts : List TimedByte) →
    timed_marks s before (map (byte_at m) bs ++ ts) ≡
    puts_at m (new_marks s before bs) ++ timed_marks s (before ++ bs) ts
timed-run s before m [] ts =
    ap₂ (λ ms xs. puts_at m ms ++ timed_marks s xs ts) (sym (none-new s before)) (sym (append-nil before))
timed-run s before m (b ∷ bs) ts =
    let first = puts_at m (new_marks s before (b ∷ [])) in
    let others = new_marks s (before ++ b ∷ []) bs in
    let rest = timed_marks s (before ++ b ∷ bs) ts in
    ap (λ ps. first ++ ps) (timed-run s (before ++ b ∷ []) m bs ts
    ∙ ap (λ xs. puts_at m others ++ timed_marks s xs ts) (append_assoc before (b ∷ []) bs))
    ∙ (sym (append_assoc first (puts_at m others) rest)
    ∙ ap (λ ps. ps ++ rest) (sym (ap (puts_at m) (new-more s before (b ∷ []) bs)
    ∙ puts_at-append m (new_marks s before (b ∷ [])) others)))

marks-timed : (s : Spec) (before : List ℕ) (rs : List Record) → AreFirst rs →
    marks_from s 0 before rs ≡ timed_marks s before (flat_map timed_record rs)
marks-timed s before [] are = refl
marks-timed s before (r ∷ rs) are =
    ap (λ bs. puts_at r.moment (new_marks s before bs) ++ marks_from s 0 (before ++ bs) rs) (first-bytes r are.0)
    ∙ (ap (λ ps. puts_at r.moment (new_marks s before r.bytes) ++ ps) (marks-timed s (before ++ r.bytes) rs are.1)
    ∙ sym (timed-run s before r.moment r.bytes (flat_map timed_record rs)))

pub gathered-marks : (s : Spec) (ts : List TimedByte) → AreTimed 0 ts →
    track_marks_so_far s 0 (gathered ts) ≡ timed_marks s [] ts
gathered-marks s ts are =
    ap (marks_from s 0 []) (gathered-records ts are)
    ∙ (marks-timed s [] (gathered_records ts) (first-all (stretches ts)) ∙ ap (timed_marks s []) (timed-gathered ts))
