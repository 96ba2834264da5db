-- The moments of a track's marks don't fall, and those of the bytes that they are written as don't.
use Rattle.std.proofs.Common.{◌≡◌, ℕ, ◌+◌, ◌≤◌, ◌<◌, ◌^◌, List, [], ◌∷◌, ◌++◌, map, refl, sym, ◌∙◌, ap, subst, arith}
use Rattle.std.proofs.Common.{append_assoc, append-nil, Option, Some, None}
use Rattle.mb_message.specs.Signs.{Sign}
use Rattle.mb_stream.specs.Puts.{At, Flush, Put, last_put, puts_at}
use Rattle.mb_stream.specs.Reading.{told_signs}
use Rattle.mb_din.specs.Written.{din_spelled}
use Rattle.mb_frames.specs.Gathered.{TimedByte}
use Rattle.mb_frames.specs.Tapes.{Record, RecordBegin, RecordByte, RecordEnd, RecordPart, tape_parts}
use Rattle.mb_ble.specs.Distances.{IsRising}
use Rattle.mb_carrier.specs.Carrier.{end_told}
use Rattle.mb_carrier.specs.declared.spec.Spec.{Spec}
use Rattle.mb_track.specs.Track.{begun, bytes_on, last_record_moment, marks_from, new_marks, recording, records_from}
use Rattle.mb_track.specs.Track.{track_marks, track_records, with_bytes}
use Rattle.mb_track.proofs.RisingRecords.{BeginsRise, tape-rises}
use Rattle.mb_rewrite.specs.LineTape.{byte_at, timed_behind, timed_bytes}
use Rattle.mb_rewrite.specs.Recorded.{AreMoments}
use Rattle.mb_rewrite.proofs.RecordedLemmas.{TimesRise, most}

-- the records of a tape rise

abbrev RecordsRise : (last : ℕ) → List Record → Type 0
RecordsRise last [] = Unit {0}
RecordsRise last (r ∷ rs) = (last ≤ r.moment) × RecordsRise r.moment rs

abbrev IsAbove : (last : ℕ) → Option Record → Type 0
IsAbove last None = Unit {0}
IsAbove last (Some r) = last ≤ r.moment

abbrev moment_under : (last : ℕ) → Option Record → ℕ
moment_under last None = last
moment_under last (Some r) = r.moment

records-rise : (last : ℕ) (under : Option Record) (ps : List RecordPart) → IsAbove last under →
    BeginsRise (moment_under last under) ps → RecordsRise last (records_from under ps)
records-rise last None [] above rise = tt
records-rise last (Some r) [] above rise = (above, tt)
records-rise last None (RecordBegin m t n ∷ ps) above rise = records-rise last (Some (begun m t)) ps rise.0 rise.1
records-rise last (Some r) (RecordBegin m t n ∷ ps) above rise =
    (above, records-rise r.moment (Some (begun m t)) ps rise.0 rise.1)
records-rise last None (RecordByte b ∷ ps) above rise = records-rise last None ps tt rise
records-rise last (Some r) (RecordByte b ∷ ps) above rise =
    records-rise last (Some (with_bytes r (b ∷ []))) ps above rise
records-rise last None (RecordEnd ∷ ps) above rise = records-rise last None ps tt rise
records-rise last (Some r) (RecordEnd ∷ ps) above rise = (above, records-rise r.moment None ps tt rise)

abbrev end_moment : (last : ℕ) → List Record → ℕ
end_moment last [] = last
end_moment last (r ∷ rs) = end_moment r.moment rs

end-is : (last : ℕ) (r : Record) (rs : List Record) → end_moment last (r ∷ rs) ≡ last_record_moment (r ∷ rs)
end-is last r [] = refl
end-is last r (q ∷ rs) = end-is r.moment q rs

pub last-is-end : (rs : List Record) → end_moment 0 rs ≡ last_record_moment rs
last-is-end [] = refl
last-is-end (r ∷ rs) = end-is 0 r rs

-- marks of one moment before others

pub rising-lower : (low last : ℕ) (puts : List Put) → low ≤ last → IsRising last puts → IsRising low puts
rising-lower low last [] le rise = tt
rising-lower low last (Flush ∷ puts) le rise = rising-lower low last puts le rise
rising-lower low last (At m s ∷ puts) le rise = (let more = rise.0 in omega (arith, le, more), rise.1)

pub rising-at : (last m : ℕ) (signs : List Sign) (puts : List Put) → last ≤ m → IsRising m puts →
    IsRising last (puts_at m signs ++ puts)
rising-at last m [] puts le rise = rising-lower last m puts le rise
rising-at last m (s ∷ signs) puts le rise = (le, rising-at m m signs puts (omega arith) rise)

pub last-lower : (low last : ℕ) (puts : List Put) → low ≤ last → last_put low puts ≤ last_put last puts
last-lower low last [] le = le
last-lower low last (Flush ∷ puts) le = last-lower low last puts le
last-lower low last (At m s ∷ puts) le = omega arith

pub last-at : (last m : ℕ) (signs : List Sign) (puts : List Put) → last ≤ m →
    last_put last (puts_at m signs ++ puts) ≤ last_put m puts
last-at last m [] puts le = last-lower last m puts le
last-at last m (s ∷ signs) puts le = last-at m m signs puts (omega arith)

-- the marks of records, and what follows them

marks-rise : (s : Spec) (track last : ℕ) (before : List ℕ) (rs : List Record) (puts : List Put) →
    RecordsRise last rs → IsRising (end_moment last rs) puts →
    IsRising last (marks_from s track before rs ++ puts)
marks-rise s track last before [] puts rise more = more
marks-rise s track last before (r ∷ rs) puts rise more =
    let news = new_marks s before (bytes_on track r) in
    let others = marks_from s track (before ++ bytes_on track r) rs in
    subst (λ (ps : List Put). IsRising last ps) (sym (append_assoc (puts_at r.moment news) others puts))
    (rising-at last r.moment news (others ++ puts) rise.0
    (marks-rise s track r.moment (before ++ bytes_on track r) rs puts rise.1 more))

marks-last : (s : Spec) (track last : ℕ) (before : List ℕ) (rs : List Record) (puts : List Put) →
    RecordsRise last rs → last_put last (marks_from s track before rs ++ puts) ≤ last_put (end_moment last rs) puts
marks-last s track last before [] puts rise = omega arith
marks-last s track last before (r ∷ rs) puts rise =
    let news = new_marks s before (bytes_on track r) in
    let others = marks_from s track (before ++ bytes_on track r) rs in
    let here : last_put last (puts_at r.moment news ++ (others ++ puts)) ≤ last_put r.moment (others ++ puts)
    = last-at last r.moment news (others ++ puts) rise.0 in
    let there : last_put r.moment (others ++ puts) ≤ last_put (end_moment r.moment rs) puts
    = marks-last s track r.moment (before ++ bytes_on track r) rs puts rise.1 in
    subst (λ (ps : List Put). last_put last ps ≤ last_put (end_moment r.moment rs) puts)
    (sym (append_assoc (puts_at r.moment news) others puts)) (omega (arith, here, there))

last-one : (m : ℕ) (signs : List Sign) → last_put m (puts_at m signs) ≡ m
last-one m [] = refl
last-one m (s ∷ signs) = last-one m signs

-- a track's marks, and marks at its last moment behind them
pub track-moments : (s : Spec) (track : ℕ) (tape : List ℕ) (signs : List Sign) →
    last_record_moment (track_records tape) < 2 ^ 64 →
    AreMoments (track_marks s track tape ++ puts_at (last_record_moment (track_records tape)) signs)
track-moments s track tape signs fits =
    let rs = track_records tape in
    let m = last_record_moment rs in
    let ends = told_signs (end_told s (recording track rs)) in
    let rise : RecordsRise 0 rs = records-rise 0 None (tape_parts tape) tt (tape-rises tape) in
    let tail = puts_at m ends ++ puts_at m signs in
    let same : marks_from s track [] rs ++ tail ≡ track_marks s track tape ++ puts_at m signs
    = sym (append_assoc (marks_from s track [] rs) (puts_at m ends) (puts_at m signs)) in
    let flat : puts_at m signs ++ [] ≡ puts_at m signs = append-nil (puts_at m signs) in
    let rising : IsRising m tail
    = rising-at m m ends (puts_at m signs) (omega arith)
    (subst (λ (ps : List Put). IsRising m ps) flat (rising-at m m signs [] (omega arith) tt)) in
    let last : last_put m tail ≤ last_put m (puts_at m signs) = last-at m m ends (puts_at m signs) (omega arith) in
    let is : last_put m (puts_at m signs) ≡ m = last-one m signs in
    let below : last_put 0 (marks_from s track [] rs ++ tail) ≤ last_put m tail
    = subst (λ (n : ℕ). last_put 0 (marks_from s track [] rs ++ tail) ≤ last_put n tail) (last-is-end rs)
    (marks-last s track 0 [] rs tail rise) in
    subst AreMoments same (
      marks-rise s track 0 [] rs tail rise
          (subst (λ (n : ℕ). IsRising n tail) (sym (last-is-end rs)) rising),
      omega (arith, below, last, is, fits),
    )

-- the bytes that marks are written as

times-lower : (low last : ℕ) (ts : List TimedByte) → low ≤ last → TimesRise last ts → TimesRise low ts
times-lower low last [] le rise = tt
times-lower low last (t ∷ ts) le rise = (let more = rise.0 in omega (arith, le, more), rise.1, rise.2)

times-at : (last m : ℕ) (bs : List ℕ) (ts : List TimedByte) → last ≤ m → m ≤ most → TimesRise m ts →
    TimesRise last (map (byte_at m) bs ++ ts)
times-at last m [] ts le high rise = times-lower last m ts le rise
times-at last m (b ∷ bs) ts le high rise = (le, high, times-at m m bs ts (omega arith) high rise)

last-above : (last : ℕ) (puts : List Put) → IsRising last puts → last ≤ last_put last puts
last-above last [] rise = omega arith
last-above last (Flush ∷ puts) rise = last-above last puts rise
last-above last (At m s ∷ puts) rise =
    let here = rise.0 in let there = last-above m puts rise.1 in omega (arith, here, there)

times-rise : (last : ℕ) (before : List Sign) (puts : List Put) → IsRising last puts → last_put last puts ≤ most →
    TimesRise last (timed_behind before puts)
times-rise last before [] rise high = tt
times-rise last before (Flush ∷ puts) rise high = times-rise last before puts rise high
times-rise last before (At m s ∷ puts) rise high =
    times-at last m (din_spelled (record { before = before; mark = s })) (timed_behind (before ++ s ∷ []) puts) rise.0
    (let above = last-above m puts rise.1 in omega (arith, above, high))
    (times-rise m (before ++ s ∷ []) puts rise.1 high)

pub bytes-rise : (puts : List Put) → AreMoments puts → TimesRise 0 (timed_bytes puts)
bytes-rise puts moments =
    times-rise 0 [] puts moments.0 (let less = moments.1 in omega (arith, less))
