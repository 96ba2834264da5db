-- The moments of a tape that is bytes fit in eight of them.
use Rattle.std.proofs.Common.{◌≡◌, ℕ, zero, suc, ◌+◌, ◌*◌, ◌^◌, ◌<◌, ◌≤◌, Bool, true, false, List, [], ◌∷◌, ◌++◌}
use Rattle.std.proofs.Common.{length, map, take, drop, Option, Some, None, refl, sym, ◌∙◌, ap, subst, arith}
use Rattle.std.proofs.Common.{append_assoc}
use Rattle.std.specs.Prelude.{◌==◌, ◌&&◌, not, nat_lt, if◌then◌else◌}
use Rattle.std.proofs.lemmas.Bool.Decides.{nat_tests}
use Rattle.mb_frames.specs.Frames.{AreBytes}
use Rattle.mb_frames.specs.Numbers.{number_from}
use Rattle.mb_frames.specs.Tapes.{RecordPart, RecordByte, RecordEnd, RecordHeader, TapeRead, Inside, Faulty}
use Rattle.mb_frames.specs.Tapes.{all_fit_magic, behind_parts, content_read, form_read, header_fault, header_of}
use Rattle.mb_frames.specs.Tapes.{header_size, microseconds, most_milliseconds, nothing, record_read, records_read}
use Rattle.mb_frames.specs.Tapes.{tape_parts}
use Rattle.mb_frames.specs.declared.tape.TapeFault.{TapeFault}
use Rattle.mb_frames.specs.declared.tape.TapeFault.TheVariants as fault
use Rattle.mb_track.specs.Track.{last_record_moment, track_records}
use Rattle.mb_track.proofs.RisingRecords.{last-moment, last_begun}

bytes-take : (n : ℕ) (bytes : List ℕ) → AreBytes bytes → AreBytes (take n bytes)
bytes-take zero bytes are = tt
bytes-take (suc n) [] are = tt
bytes-take (suc n) (b ∷ bs) are = (are.0, bytes-take n bs are.1)

bytes-drop : (n : ℕ) (bytes : List ℕ) → AreBytes bytes → AreBytes (drop n bytes)
bytes-drop zero bytes are = are
bytes-drop (suc n) [] are = tt
bytes-drop (suc n) (b ∷ bs) are = bytes-drop n bs are.1

-- so many bytes behind a number below this say one below that
abbrev behind_bytes : (count : ℕ) → (above : ℕ) → ℕ
behind_bytes zero above = above
behind_bytes (suc count) above = behind_bytes count (256 * above)

no-less : (count above : ℕ) → above ≤ behind_bytes count above
no-less zero above = omega arith
no-less (suc count) above = let more = no-less count (256 * above) in omega (arith, more)

number-below : (count n above : ℕ) (bytes : List ℕ) → AreBytes bytes → n < above →
    number_from n (take count bytes) < behind_bytes count above
number-below zero n above bytes are less = less
number-below (suc count) n above [] are less = let more = no-less (suc count) above in omega (arith, less, more)
number-below (suc count) n above (b ∷ bs) are less =
    number-below count (256 * n + b) (256 * above) bs are.1 (let small = are.0 in omega (arith, less, small))

header-fits : (second : Bool) (bytes : List ℕ) → AreBytes bytes →
    (header_of second (take (header_size second) bytes)).moment < 2 ^ 64
header-fits true bytes are = number-below 8 0 1 (take 11 bytes) (bytes-take 11 bytes are) (omega arith)
header-fits false bytes are = number-below 8 0 1 (take 10 bytes) (bytes-take 10 bytes are) (omega arith)

-- a header without a fault has a moment that fits in microseconds too
no-fault-fits : (second : Bool) (last : ℕ) (h : RecordHeader) → h.moment < 2 ^ 64 →
    header_fault second last h ≡ None → microseconds second h.moment < 2 ^ 64
no-fault-fits true last h less e = less
no-fault-fits false last h less e = by (nat_lt h.moment last) (nat_lt most_milliseconds h.moment) refl e where
  by : (back far : Bool) → nat_lt most_milliseconds h.moment ≡ far →
      (if back then Some (fault.Back last h.moment)
      else (if far then Some (fault.Far h.moment)
      else (if h.len == 0 then Some fault.Zero else None))) ≡ None → 1000 * h.moment < 2 ^ 64
  by true far is e = cc
  by false true is e = cc
  by false false is e = let near : h.moment ≤ most_milliseconds = grind (arith, nat_tests) in omega (arith, near)

-- behind a moment that fits, the last that begins among parts does
abbrev Fit : List RecordPart → Type 0
Fit parts = (last : ℕ) → last < 2 ^ 64 → last_begun last parts < 2 ^ 64

fit-bytes : (bytes : List ℕ) (parts : List RecordPart) → Fit parts → Fit (map RecordByte bytes ++ parts)
fit-bytes [] parts fit = fit
fit-bytes (b ∷ bs) parts fit = fit-bytes bs parts fit

fit-content : (len : ℕ) (bytes : List ℕ) (others : TapeRead) → Fit others.parts →
    Fit (content_read len bytes others).parts
fit-content len bytes others fit = by (nat_lt (length bytes) len) where
  by : (short : Bool) → Fit (if short then behind_parts (map RecordByte bytes) (nothing Inside)
      else behind_parts (map RecordByte (take len bytes) ++ RecordEnd ∷ []) others).parts
  by true = fit-bytes bytes [] (λ last less. less)
  by false =
      subst Fit (sym (append_assoc (map RecordByte (take len bytes)) (RecordEnd ∷ []) others.parts))
      (fit-bytes (take len bytes) (RecordEnd ∷ others.parts) fit)

fit-record : (second : Bool) (f : Option TapeFault) (h : RecordHeader) (bytes : List ℕ) (others : TapeRead) →
    (f ≡ None → microseconds second h.moment < 2 ^ 64) → Fit others.parts →
    Fit (record_read second f h bytes others).parts
fit-record second (Some f) h bytes others right fit = λ last less. less
fit-record second None h bytes others right fit = λ last less.
    fit-content h.len bytes others fit (microseconds second h.moment) (right refl)

fit-records : (most : ℕ) (second : Bool) (last : ℕ) (bytes : List ℕ) → AreBytes bytes →
    Fit (records_read most second last bytes).parts
fit-records most second last [] are = λ was less. less
fit-records zero second last (b ∷ bs) are = λ was less. less
fit-records (suc most) second last (b ∷ bs) are =
    let h : RecordHeader = header_of second (take (header_size second) (b ∷ bs)) in
    let behind : List ℕ = drop (header_size second) (b ∷ bs) in
    let others : TapeRead = records_read most second h.moment (drop h.len behind) in
    by (nat_lt (length (b ∷ bs)) (header_size second))
    (record_read second (header_fault second last h) h behind others)
    (fit-record second (header_fault second last h) h behind others
    (no-fault-fits second last h (header-fits second (b ∷ bs) are))
    (fit-records most second h.moment (drop h.len behind)
    (bytes-drop h.len behind (bytes-drop (header_size second) (b ∷ bs) are))))
  where
    by : (short : Bool) (read : TapeRead) → Fit read.parts → Fit (if short then nothing Inside else read).parts
    by true read fit = λ was less. less
    by false read fit = fit

fit-form : (bytes : List ℕ) → AreBytes bytes → Fit (form_read bytes).parts
fit-form [] are = λ last less. less
fit-form (form ∷ bytes) are = fit-records (length bytes) (form == 0x32) 0 bytes are.1

fit-tape : (tape : List ℕ) → AreBytes tape → Fit (tape_parts tape)
fit-tape tape are = by (all_fit_magic 0 (take 4 tape)) where
  by : (fits : Bool) → Fit (if fits then form_read (drop 3 tape) else nothing (Faulty fault.Magic)).parts
  by true = fit-form (drop 3 tape) (bytes-drop 3 tape are)
  by false = λ last less. less

pub moments-fit : (tape : List ℕ) → AreBytes tape → last_record_moment (track_records tape) < 2 ^ 64
moments-fit tape are =
    subst (λ (moment : ℕ). moment < 2 ^ 64) (sym (last-moment (tape_parts tape))) (fit-tape tape are 0 (omega arith))
