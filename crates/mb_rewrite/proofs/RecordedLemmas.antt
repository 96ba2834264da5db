-- The records that bytes with moments are gathered into are read again as these bytes.
use Rattle.std.proofs.Common.{◌≡◌, ℕ, ◌+◌, ◌≤◌, ◌<◌, Bool, true, false, List, [], ◌∷◌, ◌++◌, map, flat_map, length, refl, sym}
use Rattle.std.proofs.Common.{◌∙◌, ap, subst, arith, append_assoc, append-nil, length-append, Option, Some, None}
use Rattle.std.specs.Prelude.{◌==◌, nat_lt, if◌then◌else◌}
use Rattle.std.proofs.lemmas.Bool.{false≢true}
use Rattle.std.proofs.lemmas.Bool.Decides.{nat_tests}
use Rattle.std.proofs.lemmas.List.{map-append}
use Rattle.std.proofs.lemmas.List.Concat.{flat_map-append}
use Rattle.mb_frames.specs.Tapes.{AreRecords, IsRight, Record, RecordByte, RecordEnd, RecordPart, record_parts, tape}
use Rattle.mb_frames.specs.Tapes.{Whole, tape_parts, tape_read}
use Rattle.mb_frames.specs.Gathered.{Stretch, TimedByte, alone, before, gathered, gathered_records, piece_record, pieces}
use Rattle.mb_frames.specs.Gathered.{pieces_from, stretch_records, stretches}
use Rattle.mb_frames.specs.TapeSteps.{ending_at}
use Rattle.mb_frames.proofs.TapeLiteral.{tape-reads}
use Rattle.mb_frames.proofs.TapeRecords.{behind_form, ending-records, none-behind, tapes-after, tapes-parts}
use Rattle.mb_track.specs.Track.{begun, bytes_on, recording, records_from, records_of, track_records, with_bytes}
use Rattle.mb_track.proofs.RecordLemmas.{records-bytes, recording-append}
use Rattle.mb_rewrite.specs.LineTape.{byte_at}
use Rattle.mb_rewrite.specs.Recorded.{recorded}

abbrev pub most : ℕ
most = 18446744073709551615

-- none of the moments is lower than the one before, the first none lower than this, and eight bytes hold them
abbrev pub TimesRise : (last : ℕ) → List TimedByte → Type 0
TimesRise last [] = Unit {0}
TimesRise last (t ∷ ts) = (last ≤ t.moment) × (t.moment ≤ most) × TimesRise t.moment ts

abbrev StretchesRise : (last : ℕ) → List Stretch → Type 0
StretchesRise last [] = Unit {0}
StretchesRise last (s ∷ ss) =
    (last ≤ s.moment) × (s.moment ≤ most) × (0 < length s.bytes) × StretchesRise s.moment ss

abbrev before_by : (same : Bool) → TimedByte → Stretch → List Stretch → List Stretch
before_by same t s ss =
    if same then (record { moment = t.moment; bytes = t.byte ∷ s.bytes }) ∷ ss else alone t ∷ s ∷ ss

same-number : (m n : ℕ) → (m == n) ≡ true → m ≡ n
same-number m n h = grind (arith, nat_tests)

before-rises : (last : ℕ) (t : TimedByte) (ss : List Stretch) → last ≤ t.moment → t.moment ≤ most →
    StretchesRise t.moment ss → StretchesRise last (before t ss)
before-rises last t [] low high rise = (low, high, omega arith, tt)
before-rises last t (s ∷ ss) low high rise = by (t.moment == s.moment) refl where
  by : (same : Bool) → (t.moment == s.moment) ≡ same → StretchesRise last (before_by same t s ss)
  by true e = (
    low,
    high,
    omega arith,
    subst (λ (m : ℕ). StretchesRise m ss) (sym (same-number t.moment s.moment e)) rise.3,
  )
  by false e = (low, high, omega arith, rise)

stretches-rise : (last : ℕ) (ts : List TimedByte) → TimesRise last ts → StretchesRise last (stretches ts)
stretches-rise last [] rise = tt
stretches-rise last (t ∷ ts) rise =
    before-rises last t (stretches ts) rise.0 rise.1 (stretches-rise t.moment ts rise.2)

-- a piece is a right record

piece-right : (last m : ℕ) (q : List ℕ) → last ≤ m → m ≤ most → 0 < length q → length q ≤ 255 →
    IsRight true last (piece_record m q)
piece-right last m q low high some few = record {
  rises = low;
  near = high;
  track = omega arith;
  one_track = λ e. absurd (false≢true (sym e));
  some = some;
  fits = omega (arith, few);
}

pieces-right : (last m : ℕ) (q bs : List ℕ) (rest : List Record) → last ≤ m → m ≤ most → 0 < length q →
    length q ≤ 255 → AreRecords true m rest →
    AreRecords true last (map (piece_record m) (pieces_from q bs) ++ rest)
pieces-right last m q [] rest low high some few are = (piece-right last m q low high some few, are)
pieces-right last m q (b ∷ bs) rest low high some few are =
    by (nat_lt (length q) 255) refl
    (λ less. pieces-right last m (q ++ b ∷ []) bs rest low high
    (let n = length-append q (b ∷ []) in omega (arith, n))
    (let n = length-append q (b ∷ []) in omega (arith, n, less)) are)
    (pieces-right m m (b ∷ []) bs rest (omega arith) high (omega arith) (omega arith) are)
  where
    by : (room : Bool) → nat_lt (length q) 255 ≡ room →
        (length q < 255 → AreRecords true last (map (piece_record m) (pieces_from (q ++ b ∷ []) bs) ++ rest)) →
        AreRecords true m (map (piece_record m) (pieces_from (b ∷ []) bs) ++ rest) →
        AreRecords true last
        (map (piece_record m) (if room then pieces_from (q ++ b ∷ []) bs else q ∷ pieces_from (b ∷ []) bs) ++ rest)
    by true e on off = on (grind (arith, nat_tests))
    by false e on off = (piece-right last m q low high some few, off)

stretch-right : (last m : ℕ) (bytes : List ℕ) (rest : List Record) → last ≤ m → m ≤ most → 0 < length bytes →
    AreRecords true m rest → AreRecords true last (map (piece_record m) (pieces bytes) ++ rest)
stretch-right last m [] rest low high some are = absurd (omega (arith, some))
stretch-right last m (b ∷ bs) rest low high some are =
    pieces-right last m (b ∷ []) bs rest low high (omega arith) (omega arith) are

all-right : (last : ℕ) (ss : List Stretch) → StretchesRise last ss →
    AreRecords true last (flat_map stretch_records ss)
all-right last [] rise = tt
all-right last (s ∷ ss) rise =
    stretch-right last s.moment s.bytes (flat_map stretch_records ss) rise.0 rise.1 rise.2
    (all-right s.moment ss rise.3)

pub gathered-right : (ts : List TimedByte) → TimesRise 0 ts → AreRecords true 0 (gathered_records ts)
gathered-right ts rise = all-right 0 (stretches ts) (stretches-rise 0 ts rise)

-- the records of a tape of right records are these

one-record : (r : Record) (ps : List RecordPart) → records_from None (record_parts true r ++ ps) ≡
    r ∷ records_from None ps
one-record r ps =
    ap (records_from (Some (begun r.moment r.track)))
    (append_assoc (map RecordByte r.bytes) (RecordEnd ∷ []) ps)
    ∙ records-bytes (Some (begun r.moment r.track)) r.bytes (RecordEnd ∷ ps)

records-again : (rs : List Record) → records_from None (flat_map (record_parts true) rs) ≡ rs
records-again [] = refl
records-again (r ∷ rs) =
    one-record r (flat_map (record_parts true) rs) ∙ ap (λ qs. r ∷ qs) (records-again rs)

pub tape-records : (rs : List Record) → AreRecords true 0 rs → track_records (tape true rs) ≡ rs
tape-records rs are =
    ap records_of (ap tape_parts (sym (append-nil (tape true rs)))
    ∙ (sym (tape-reads (tape true rs ++ [])).parts
    ∙ (tapes-parts true rs [] are
    ∙ (ap (λ ps. flat_map (record_parts true) rs ++ ps) (none-behind (behind_form true) rs)
    ∙ append-nil (flat_map (record_parts true) rs)))))
    ∙ records-again rs

pub gathered-whole : (ts : List TimedByte) → TimesRise 0 ts → (tape_read (gathered ts)).ending ≡ Whole
gathered-whole ts rise =
    let rs = gathered_records ts in
    ap (λ z. (tape_read z).ending) (sym (append-nil (tape true rs)))
    ∙ (sym (tape-reads (tape true rs ++ [])).ending
    ∙ (ap ending_at (tapes-after true rs [] (gathered-right ts rise)) ∙ ending-records (behind_form true) rs))

-- the records hold the bytes that were gathered

pub recorded-append : (rs qs : List Record) → recorded (rs ++ qs) ≡ recorded rs ++ recorded qs
recorded-append rs qs = flat_map-append (λ r. map (byte_at r.moment) r.bytes) rs qs

pieces-hold : (m : ℕ) (q bs : List ℕ) →
    recorded (map (piece_record m) (pieces_from q bs)) ≡ map (byte_at m) (q ++ bs)
pieces-hold m q [] = append-nil (map (byte_at m) q) ∙ ap (map (byte_at m)) (sym (append-nil q))
pieces-hold m q (b ∷ bs) =
    by (nat_lt (length q) 255) (pieces-hold m (q ++ b ∷ []) bs ∙ ap (map (byte_at m)) (append_assoc q (b ∷ []) bs))
    (ap (λ ts. map (byte_at m) q ++ ts) (pieces-hold m (b ∷ []) bs) ∙ sym (map-append (byte_at m) q (b ∷ bs)))
  where
    by : (room : Bool) →
        recorded (map (piece_record m) (pieces_from (q ++ b ∷ []) bs)) ≡ map (byte_at m) (q ++ b ∷ bs) →
        recorded (map (piece_record m) (q ∷ pieces_from (b ∷ []) bs)) ≡ map (byte_at m) (q ++ b ∷ bs) →
        recorded (map (piece_record m) (if room then pieces_from (q ++ b ∷ []) bs else q ∷ pieces_from (b ∷ []) bs)) ≡
        map (byte_at m) (q ++ b ∷ bs)
    by true on off = on
    by false on off = off

stretch-holds : (s : Stretch) → recorded (stretch_records s) ≡ map (byte_at s.moment) s.bytes
stretch-holds s = by s.moment s.bytes where
  by : (m : ℕ) (bytes : List ℕ) → recorded (map (piece_record m) (pieces bytes)) ≡ map (byte_at m) bytes
  by m [] = refl
  by m (b ∷ bs) = pieces-hold m (b ∷ []) bs

abbrev held_by : List Stretch → List TimedByte
held_by ss = flat_map (λ s. map (byte_at s.moment) s.bytes) ss

stretches-hold : (ss : List Stretch) → recorded (flat_map stretch_records ss) ≡ held_by ss
stretches-hold [] = refl
stretches-hold (s ∷ ss) =
    recorded-append (stretch_records s) (flat_map stretch_records ss)
    ∙ (ap (λ ts. ts ++ recorded (flat_map stretch_records ss)) (stretch-holds s)
    ∙ ap (λ ts. map (byte_at s.moment) s.bytes ++ ts) (stretches-hold ss))

before-holds : (t : TimedByte) (ss : List Stretch) → held_by (before t ss) ≡ t ∷ held_by ss
before-holds t [] = refl
before-holds t (s ∷ ss) = by (t.moment == s.moment) refl where
  by : (same : Bool) → (t.moment == s.moment) ≡ same → held_by (before_by same t s ss) ≡ t ∷ held_by (s ∷ ss)
  by true e =
      ap (λ (m : ℕ). t ∷ map (byte_at m) s.bytes ++ held_by ss) (same-number t.moment s.moment e)
  by false e = refl

all-held : (ts : List TimedByte) → held_by (stretches ts) ≡ ts
all-held [] = refl
all-held (t ∷ ts) = before-holds t (stretches ts) ∙ ap (λ us. t ∷ us) (all-held ts)

pub gathered-read : (ts : List TimedByte) → TimesRise 0 ts → recorded (track_records (gathered ts)) ≡ ts
gathered-read ts rise =
    ap recorded (tape-records (gathered_records ts) (gathered-right ts rise))
    ∙ (stretches-hold (stretches ts) ∙ all-held ts)

-- all of them are of track 0

abbrev bytes_of : List TimedByte → List ℕ
bytes_of ts = map (λ t. t.byte) ts

timed-bytes : (m : ℕ) (bs : List ℕ) → bytes_of (map (byte_at m) bs) ≡ bs
timed-bytes m [] = refl
timed-bytes m (b ∷ bs) = ap (λ cs. b ∷ cs) (timed-bytes m bs)

pieces-bytes : (m : ℕ) (ps : List (List ℕ)) (rest : List Record) →
    recording 0 rest ≡ bytes_of (recorded rest) →
    recording 0 (map (piece_record m) ps ++ rest) ≡ bytes_of (recorded (map (piece_record m) ps ++ rest))
pieces-bytes m [] rest e = e
pieces-bytes m (p ∷ ps) rest e =
    let others = map (piece_record m) ps ++ rest in
    ap (λ bs. p ++ bs) (pieces-bytes m ps rest e)
    ∙ sym (map-append (λ t. t.byte) (map (byte_at m) p) (recorded others)
    ∙ ap (λ bs. bs ++ bytes_of (recorded others)) (timed-bytes m p))

stretches-bytes : (ss : List Stretch) →
    recording 0 (flat_map stretch_records ss) ≡ bytes_of (recorded (flat_map stretch_records ss))
stretches-bytes [] = refl
stretches-bytes (s ∷ ss) =
    pieces-bytes s.moment (pieces s.bytes) (flat_map stretch_records ss) (stretches-bytes ss)

pub gathered-recording : (ts : List TimedByte) → TimesRise 0 ts →
    recording 0 (track_records (gathered ts)) ≡ map (λ t. t.byte) ts
gathered-recording ts rise =
    ap (recording 0) (tape-records (gathered_records ts) (gathered-right ts rise))
    ∙ (stretches-bytes (stretches ts) ∙ ap bytes_of (stretches-hold (stretches ts) ∙ all-held ts))
