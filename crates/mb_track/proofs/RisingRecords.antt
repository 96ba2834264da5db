-- The moments of a tape's records rise.
use Rattle.std.proofs.Common.{◌≡◌, ℕ, zero, suc, ◌≤◌, Bool, true, false, List, [], ◌∷◌, ◌++◌, length, map}
use Rattle.std.proofs.Common.{take, drop, Option, Some, None, refl, sym, ◌∙◌, ap, subst, arith, append_assoc}
use Rattle.std.specs.Prelude.{◌==◌, ◌&&◌, not, nat_lt, if◌then◌else◌}
use Rattle.std.proofs.lemmas.Bool.Decides.{nat_tests}
use Rattle.mb_stream.specs.Puts.{Put}
use Rattle.mb_frames.specs.Tapes.{Record, RecordPart, RecordBegin, RecordByte, RecordEnd, RecordHeader, TapeRead}
use Rattle.mb_frames.specs.Tapes.{Inside, Faulty, all_fit_magic, behind_parts, content_read, form_read, header_fault}
use Rattle.mb_frames.specs.Tapes.{header_of, header_size, microseconds, most_milliseconds, nothing, record_read}
use Rattle.mb_frames.specs.Tapes.{records_read, tape_parts}
use Rattle.mb_frames.specs.TapeSteps.{TapeState, parts_from}
use Rattle.mb_frames.specs.TapeReading.{TapeTakes}
use Rattle.mb_frames.specs.declared.tape.TapeFault.{TapeFault}
use Rattle.mb_frames.specs.declared.tape.TapeFault.TheVariants as fault
use Rattle.mb_frames.proofs.TapeStepLemmas.{stands-takes}
use Rattle.mb_track.specs.Track.{begun, last_record_moment, records_from, with_bytes}
use Rattle.mb_track.specs.TrackReading.{TrackStands}
use Rattle.mb_track.specs.declared.track.TrackReader.{TrackReader}
use Rattle.mb_track.proofs.RecordLemmas.{cut-all}
use Rattle.mb_track.proofs.StandLemmas.{QuietBehind}

-- none of the records that begin has a lower moment than the one before, the first none lower than this
abbrev pub BeginsRise : (last : ℕ) → List RecordPart → Type 0
BeginsRise last [] = Unit {0}
BeginsRise last (RecordBegin moment track len ∷ ps) = (last ≤ moment) × BeginsRise moment ps
BeginsRise last (RecordByte b ∷ ps) = BeginsRise last ps
BeginsRise last (RecordEnd ∷ ps) = BeginsRise last ps

-- the moment of the last record that begins among parts, or this
abbrev pub last_begun : (last : ℕ) → List RecordPart → ℕ
last_begun last [] = last
last_begun last (RecordBegin moment track len ∷ ps) = last_begun moment ps
last_begun last (RecordByte b ∷ ps) = last_begun last ps
last_begun last (RecordEnd ∷ ps) = last_begun last ps

rise-bytes : (last : ℕ) (bytes : List ℕ) (ps : List RecordPart) → BeginsRise last ps →
    BeginsRise last (map RecordByte bytes ++ ps)
rise-bytes last [] ps rise = rise
rise-bytes last (b ∷ bs) ps rise = rise-bytes last bs ps rise

rise-content : (last len : ℕ) (bytes : List ℕ) (others : TapeRead) → BeginsRise last others.parts →
    BeginsRise last (content_read len bytes others).parts
rise-content last len bytes others rise = by (nat_lt (length bytes) len) where
  by : (short : Bool) → BeginsRise last (if short then behind_parts (map RecordByte bytes) (nothing Inside)
      else behind_parts (map RecordByte (take len bytes) ++ RecordEnd ∷ []) others).parts
  by true = rise-bytes last bytes [] tt
  by false =
      subst (λ (ps : List RecordPart). BeginsRise last ps)
      (sym (append_assoc (map RecordByte (take len bytes)) (RecordEnd ∷ []) others.parts))
      (rise-bytes last (take len bytes) (RecordEnd ∷ others.parts) rise)

in-microseconds : (second : Bool) (m n : ℕ) → m ≤ n → microseconds second m ≤ microseconds second n
in-microseconds true m n h = h
in-microseconds false m n h = omega (arith, h)

-- a header without a fault has no lower moment than the record before
no-fault-rises : (second : Bool) (last : ℕ) (h : RecordHeader) → header_fault second last h ≡ None → last ≤ h.moment
no-fault-rises second last h e = by (nat_lt h.moment last) refl e where
  by : (back : Bool) → nat_lt h.moment last ≡ back →
      (if back then Some (fault.Back last h.moment)
      else (if not second && nat_lt most_milliseconds h.moment then Some (fault.Far h.moment)
      else (if h.len == 0 then Some fault.Zero else None))) ≡ None → last ≤ h.moment
  by true is e = cc
  by false is e = grind (arith, nat_tests)

rise-record : (second : Bool) (last : ℕ) (f : Option TapeFault) (h : RecordHeader) (bytes : List ℕ)
    (others : TapeRead) → (f ≡ None → last ≤ h.moment) → BeginsRise (microseconds second h.moment) others.parts →
    BeginsRise (microseconds second last) (record_read second f h bytes others).parts
rise-record second last (Some f) h bytes others right rise = tt
rise-record second last None h bytes others right rise = (
  in-microseconds second last h.moment (right refl),
  rise-content (microseconds second h.moment) h.len bytes others rise,
)

rise-records : (most : ℕ) (second : Bool) (last : ℕ) (bytes : List ℕ) →
    BeginsRise (microseconds second last) (records_read most second last bytes).parts
rise-records most second last [] = tt
rise-records zero second last (b ∷ bs) = tt
rise-records (suc most) second last (b ∷ bs) =
    let h : RecordHeader = header_of second (take (header_size second) (b ∷ bs)) in
    let behind : List ℕ = drop (header_size second) (b ∷ bs) in
    by (nat_lt (length (b ∷ bs)) (header_size second))
    (record_read second (header_fault second last h) h behind
    (records_read most second h.moment (drop h.len behind)))
    (rise-record second last (header_fault second last h) h behind
    (records_read most second h.moment (drop h.len behind)) (no-fault-rises second last h)
    (rise-records most second h.moment (drop h.len behind)))
  where
    by : (short : Bool) (read : TapeRead) → BeginsRise (microseconds second last) read.parts →
        BeginsRise (microseconds second last) (if short then nothing Inside else read).parts
    by true read rise = tt
    by false read rise = rise

from-zero : (second : Bool) → microseconds second 0 ≡ 0
from-zero true = refl
from-zero false = refl

rise-form : (bytes : List ℕ) → BeginsRise 0 (form_read bytes).parts
rise-form [] = tt
rise-form (form ∷ bytes) =
    subst (λ (n : ℕ). BeginsRise n (records_read (length bytes) (form == 0x32) 0 bytes).parts)
    (from-zero (form == 0x32)) (rise-records (length bytes) (form == 0x32) 0 bytes)

pub tape-rises : (tape : List ℕ) → BeginsRise 0 (tape_parts tape)
tape-rises tape = by (all_fit_magic 0 (take 4 tape)) where
  by : (fits : Bool) → BeginsRise 0 (if fits then form_read (drop 3 tape) else nothing (Faulty fault.Magic)).parts
  by true = rise-form (drop 3 tape)
  by false = tt

pub rise-at : (last : ℕ) (ps : List RecordPart) (moment track len : ℕ) (more : List RecordPart) →
    BeginsRise last (ps ++ RecordBegin moment track len ∷ more) → last_begun last ps ≤ moment
rise-at last [] moment track len more rise = rise.0
rise-at last (RecordBegin m t n ∷ ps) moment track len more rise = rise-at m ps moment track len more rise.1
rise-at last (RecordByte b ∷ ps) moment track len more rise = rise-at last ps moment track len more rise
rise-at last (RecordEnd ∷ ps) moment track len more rise = rise-at last ps moment track len more rise

-- the last record of parts is the last that begins among them

abbrev last_from : (last : ℕ) → List Record → ℕ
last_from last [] = last
last_from last (r ∷ rs) = last_from r.moment rs

last-is-from : (last : ℕ) (r : Record) (rs : List Record) → last_record_moment (r ∷ rs) ≡ last_from last (r ∷ rs)
last-is-from last r [] = refl
last-is-from last r (s ∷ rs) = last-is-from r.moment s rs

last-is : (rs : List Record) → last_record_moment rs ≡ last_from 0 rs
last-is [] = refl
last-is (r ∷ rs) = last-is-from 0 r rs

abbrev moment_under : (last : ℕ) → Option Record → ℕ
moment_under last None = last
moment_under last (Some r) = r.moment

last-of-parts : (last : ℕ) (under : Option Record) (ps : List RecordPart) →
    last_from last (records_from under ps) ≡ last_begun (moment_under last under) ps
last-of-parts last None [] = refl
last-of-parts last (Some r) [] = refl
last-of-parts last None (RecordBegin moment track len ∷ ps) = last-of-parts last (Some (begun moment track)) ps
last-of-parts last (Some r) (RecordBegin moment track len ∷ ps) =
    last-of-parts r.moment (Some (begun moment track)) ps
last-of-parts last None (RecordByte b ∷ ps) = last-of-parts last None ps
last-of-parts last (Some r) (RecordByte b ∷ ps) = last-of-parts last (Some (with_bytes r (b ∷ []))) ps
last-of-parts last None (RecordEnd ∷ ps) = last-of-parts last None ps
last-of-parts last (Some r) (RecordEnd ∷ ps) = last-of-parts r.moment None ps

pub last-moment : (ps : List RecordPart) → last_record_moment (records_from None ps) ≡ last_begun 0 ps
last-moment ps = last-is (records_from None ps) ∙ last-of-parts 0 None ps

-- a record that begins behind what a reader told has no lower moment than the reader's
pub begin-rises : (a r : TrackReader) (tape_now : TapeState) (i j k : List ℕ) (moment track len : ℕ) →
    QuietBehind a r i j → TapeTakes r.tape tape_now j k (RecordBegin moment track len ∷ []) →
    (taken : List ℕ) (told : List Put) → TrackStands a taken i told → r.moment ≤ moment
begin-rises a r tape_now i j k moment track len quiet step = λ taken told st.
    let q = quiet taken told st in
    let stands = q.2.stands in
    let t = stands-takes r.tape tape_now j k (RecordBegin moment track len ∷ []) (taken ++ q.0) stands.parts
    stands.of_tape step in
    let rise : BeginsRise 0 (stands.parts ++ RecordBegin moment track len ∷ parts_from tape_now [])
    = subst (λ (ps : List RecordPart). BeginsRise 0 ps)
    (t.2.parts [] ∙ append_assoc stands.parts (RecordBegin moment track len ∷ []) (parts_from tape_now []))
    (tape-rises (((taken ++ q.0) ++ t.0) ++ [])) in
    let last : r.moment ≡ last_begun 0 stands.parts
    = stands.moment_is ∙ (ap last_record_moment (sym (cut-all stands.parts stands.ended stands.under stands.cut))
    ∙ last-moment stands.parts) in
    subst (λ (n : ℕ). n ≤ moment) (sym last)
    (rise-at 0 stands.parts moment track len (parts_from tape_now []) rise)
