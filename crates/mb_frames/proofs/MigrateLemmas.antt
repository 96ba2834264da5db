-- A tape in the second form tells what the tape that it was made of tells.
use Rattle.std.proofs.Common.{◌≡◌, ℕ, zero, suc, ◌+◌, ◌*◌, ◌-◌, ◌<◌, ◌≤◌, Bool, true, false, List, [], ◌∷◌, ◌++◌}
use Rattle.std.proofs.Common.{length}
use Rattle.std.proofs.Common.{Option, Some, None, map, take, drop, flat_map, refl, sym, ◌∙◌, ap, subst, arith}
use Rattle.std.proofs.Common.{append-nil, ◌⊎◌, inl, inr}
use Rattle.std.specs.Prelude.{nat_lt, nat_le, ◌==◌, ◌&&◌, ◌||◌, not, if◌then◌else◌}
use Rattle.std.proofs.lemmas.Bool.Decides.{nat_tests}
use Rattle.std.proofs.Math.Nat.{mul_comm, mul_assoc}
use Rattle.std.proofs.lemmas.Bool.{false≢true, true≢false}
use Rattle.std.proofs.lemmas.Grind.{flat_map-append}
use Rattle.std.proofs.lemmas.List.{length-take-le, length-drop}
use Rattle.mb_frames.specs.Frames.{AreBytes}
use Rattle.mb_frames.specs.Numbers.{number, number_from}
use Rattle.mb_frames.specs.Tapes.{Record, RecordPart, RecordBegin, RecordByte, RecordEnd, RecordHeader, header}
use Rattle.mb_frames.specs.Tapes.{header_size}
use Rattle.mb_frames.specs.Tapes.{header_of, header_fault, microseconds, most_milliseconds, magic, all_fit_magic}
use Rattle.mb_frames.specs.Tapes.{nothing}
use Rattle.mb_frames.specs.Tapes.{Inside, Faulty, form_read, tape_parts, AreRecords, record_parts, record_bytes, tape}
use Rattle.mb_frames.specs.TapeSteps.{TapeState, begun, begin_by, parts_from, tape_behind}
use Rattle.mb_frames.specs.Migrated.{part_bytes, record_in_microseconds, tape2}
use Rattle.mb_frames.specs.declared.tape.TapeFault.{TapeFault}
use Rattle.mb_frames.specs.declared.tape.TapeFault.TheVariants as fault
use Rattle.mb_frames.specs.declared.tape.Place.{Place}
use Rattle.mb_frames.specs.declared.tape.Place.TheVariants as place
use Rattle.mb_frames.proofs.TapeStepLemmas.{end_parts}
use Rattle.mb_frames.proofs.TapeRecords.{at_header, headed, run_of, behind_is, header_is, length-header, most}
use Rattle.mb_frames.proofs.TapeRecords.{no_fault, magic_parts, records_parts, behind_form, none-behind}
use Rattle.mb_frames.proofs.TapeLiteral.{broken_parts, tape-reads}

-- bytes say a bounded number

bytes-append : (xs ys : List ℕ) → AreBytes xs → AreBytes ys → AreBytes (xs ++ ys)
bytes-append [] ys a b = b
bytes-append (x ∷ xs) ys a b = (a.0, bytes-append xs ys a.1 b)

bytes-take : (n : ℕ) (xs : List ℕ) → AreBytes xs → AreBytes (take n xs)
bytes-take zero xs a = tt
bytes-take (suc n) [] a = tt
bytes-take (suc n) (x ∷ xs) a = (a.0, bytes-take n xs a.1)

bytes-drop : (n : ℕ) (xs : List ℕ) → AreBytes xs → AreBytes (drop n xs)
bytes-drop zero xs a = a
bytes-drop (suc n) [] a = tt
bytes-drop (suc n) (x ∷ xs) a = bytes-drop n xs a.1

number-below : (bs : List ℕ) (n m : ℕ) → AreBytes bs → n < m → number_from n bs < m * most (length bs)
unfolding most
number-below [] n m a less = omega (arith, less)
number-below (b ∷ bs) n m a less =
    let more : number_from (256 * n + b) bs < 256 * m * most (length bs) =
    number-below bs (256 * n + b) (256 * m) a.1 (let small = a.0 in omega (arith, less, small)) in
    let same : 256 * m * most (length bs) ≡ m * (256 * most (length bs)) =
    ap (λ z. z * most (length bs)) (mul_comm 256 m) ∙ mul_assoc m 256 (most (length bs)) in
    subst (λ (z : ℕ). number_from (256 * n + b) bs < z) same more

number-fits : (count : ℕ) (bs : List ℕ) → AreBytes bs → length bs ≡ count → number bs < most count
number-fits count bs a is =
    let less : number bs < 1 * most (length bs) = number-below bs 0 1 a (omega arith) in
    let same : 1 * most (length bs) ≡ most count = let e : most (length bs) ≡ most count = ap most is in
    omega (arith, e) in
    subst (λ (z : ℕ). number bs < z) same less

header-fits : (second : Bool) (hs : List ℕ) → AreBytes hs → length hs ≡ header_size second →
    ((header_of second hs).moment < most 8) × ((header_of second hs).len < most 2)
header-fits true hs a is = (
  number-fits 8 (take 8 hs) (bytes-take 8 hs a) (length-take-le 8 hs (omega (arith, is))),
  number-fits 2 (drop 9 hs) (bytes-drop 9 hs a) (let n = length-drop 9 hs in omega (arith, is, n)),
)
header-fits false hs a is = (
  number-fits 8 (take 8 hs) (bytes-take 8 hs a) (length-take-le 8 hs (omega (arith, is))),
  number-fits 2 (drop 8 hs) (bytes-drop 8 hs a) (let n = length-drop 8 hs in omega (arith, is, n)),
)

-- a header without a fault has none in microseconds

abbrev in_microseconds : (second : Bool) → RecordHeader → RecordHeader
in_microseconds second h = record { moment = microseconds second h.moment; track = h.track; len = h.len }

abbrev fault_by : (back far none : Bool) → (last : ℕ) → RecordHeader → Option TapeFault
fault_by back far none last h =
    if back then Some (fault.Back last h.moment)
    else (if far then Some (fault.Far h.moment) else (if none then Some fault.Zero else None))

some≢none : {f : TapeFault} → Some f ≡ None → ⊥
some≢none e = cc

near_by : (second : Bool) (m : ℕ) → second ≡ false → (not second && nat_lt most_milliseconds m) ≡ false →
    m ≤ most_milliseconds
near_by true m first f = absurd (true≢false first)
near_by false m first f = grind (arith, nat_tests)

record Passes (second : Bool) (last : ℕ) (h : RecordHeader) : Type 0 where
  rises : last ≤ h.moment
  near : second ≡ false → h.moment ≤ most_milliseconds
  some : 0 < h.len

fault-free : (second : Bool) (last : ℕ) (h : RecordHeader) → header_fault second last h ≡ None → Passes second last h
fault-free second last h free =
    by_tests (nat_lt h.moment last) (not second && nat_lt most_milliseconds h.moment) (h.len == 0) refl refl refl free
  where
    by_tests : (back far none : Bool) → nat_lt h.moment last ≡ back →
        (not second && nat_lt most_milliseconds h.moment) ≡ far →
        (h.len == 0) ≡ none → fault_by back far none last h ≡ None → Passes second last h
    by_tests true far none b f n e = absurd (some≢none e)
    by_tests false true none b f n e = absurd (some≢none e)
    by_tests false false true b f n e = absurd (some≢none e)
    by_tests false false false b f n e = record {
      rises = grind (arith, nat_tests);
      near = λ first. near_by second h.moment first f;
      some = grind (arith, nat_tests);
    }

microseconds-rise : (second : Bool) (a b : ℕ) → a ≤ b → microseconds second a ≤ microseconds second b
microseconds-rise true a b le = le
microseconds-rise false a b le = omega (arith, le)

microseconds-fit : (second : Bool) (m : ℕ) → m < most 8 → (second ≡ false → m ≤ most_milliseconds) →
    microseconds second m < most 8
unfolding most
microseconds-fit true m less near = less
microseconds-fit false m less near = let le : m ≤ most_milliseconds = near refl in omega (arith, le)

below-most : (m : ℕ) → m < most 8 → m ≤ 18446744073709551615
unfolding most
below-most m less = omega (arith, less)

no-fault-in-microseconds : (second : Bool) (last : ℕ) (h : RecordHeader) → h.moment < most 8 → Passes second last h →
    header_fault true (microseconds second last) (in_microseconds second h) ≡ None
no-fault-in-microseconds second last h fits p =
    no_fault true (microseconds second last) (in_microseconds second h)
    (microseconds-rise second last h.moment p.rises)
    (below-most (microseconds second h.moment) (microseconds-fit second h.moment fits p.near)) p.some

-- where the tape in the second form stands

abbrev at : Place → (second : Bool) → (last track : ℕ) → List ℕ → TapeState
at p second last track head = record { place = p; head = head; second = second; last = last; track = track }

abbrev remade : Place → (second : Bool) → (last track : ℕ) → TapeState
remade p second last track = at p true (microseconds second last) track []

abbrev again : List RecordPart → List ℕ
again parts = flat_map part_bytes parts

-- behind the magic
abbrev Behind : Place → Type 0
Behind place.Magic = ⊥
Behind place.Header = Unit {0}
Behind (place.Within left) = Unit {0}
Behind (place.Broken f) = Unit {0}

abbrev Same : List ℕ → Type 0
Same bs = (p : Place) (second : Bool) (last track : ℕ) (head : List ℕ) → Behind p → AreBytes head →
    parts_from (remade p second last track) (again (parts_from (at p second last track head) bs)) ≡
    parts_from (at p second last track head) bs

same-nothing : Same []
same-nothing place.Magic second last track head is a = absurd is
same-nothing place.Header second last track head is a = refl
same-nothing (place.Within zero) second last track head is a = refl
same-nothing (place.Within (suc left)) second last track head is a = refl
same-nothing (place.Broken f) second last track head is a = refl

same-broken : (f : TapeFault) (second : Bool) (last track : ℕ) (head bs : List ℕ) →
    parts_from (remade (place.Broken f) second last track) (again (parts_from (at (place.Broken f) second last track
    head) bs)) ≡
    parts_from (at (place.Broken f) second last track head) bs
same-broken f second last track head bs =
    let none : parts_from (at (place.Broken f) second last track head) bs ≡ [] =
    broken_parts f (at (place.Broken f) second last track head) bs in
    ap (λ ps. parts_from (remade (place.Broken f) second last track) (again ps)) none ∙ sym none

-- a whole header
same-headed : (second : Bool) (last track : ℕ) (hs bs : List ℕ) → AreBytes hs → length hs ≡ header_size second →
    Same bs →
    let t : TapeState = headed (at place.Header second last track []) hs in
    parts_from (remade place.Header second last track) (again (begin_by t.place t ++ parts_from t bs)) ≡
    begin_by t.place t ++ parts_from t bs
same-headed second last track hs bs a is same =
    by_fault (header_of second hs) (header_fault second last (header_of second hs)) (header-fits second hs a is)
    (fault-free second last (header_of second hs))
  where
    source : TapeState
    source = at place.Header second last track []

    target : TapeState
    target = remade place.Header second last track

    by_fault : (h : RecordHeader) (f : Option TapeFault) → (h.moment < most 8) × (h.len < most 2) →
        (f ≡ None → Passes second last h) →
        let t : TapeState = begun source h f in
        parts_from target (again (begin_by t.place t ++ parts_from t bs)) ≡ begin_by t.place t ++ parts_from t bs
    by_fault h (Some f) fits passes =
        let none : parts_from (begun source h (Some f)) bs ≡ [] = broken_parts f source bs in
        ap (λ ps. parts_from target (again ps)) none ∙ sym none
    by_fault h None fits passes =
        let p : Passes second last h = passes refl in
        let m : ℕ = microseconds second h.moment in
        let told : List RecordPart = parts_from (begun source h None) bs in
        let head : List ℕ = header true m h.track h.len in
        let read : header_of true head ≡ in_microseconds second h =
        header_is true m h.track h.len (microseconds-fit second h.moment fits.0 p.near) fits.1 (λ e.
        absurd (true≢false e)) in
        let begins : headed target head ≡ begun target (in_microseconds second h) None =
        ap (λ (x : RecordHeader). begun target x (header_fault true target.last x)) read ∙
        ap (begun target (in_microseconds second h)) (no-fault-in-microseconds second last h fits.0 p) in
        run_of target head (again told) (length-header true m h.track h.len) ∙
        (ap (λ (z : TapeState). begin_by z.place z ++ parts_from z (again told)) begins ∙
        ap (λ ps. RecordBegin m h.track h.len ∷ ps) (same (place.Within h.len) second h.moment h.track [] tt tt))

same-header : (second : Bool) (last track : ℕ) (head : List ℕ) (b : ℕ) (bs : List ℕ) → AreBytes head → b < 256 →
    Same bs →
    parts_from (remade place.Header second last track) (again (parts_from (at place.Header second last track head)
    (b ∷ bs))) ≡
    parts_from (at place.Header second last track head) (b ∷ bs)
same-header second last track head b bs a small same = by_length (length (head ++ b ∷ []) == header_size second) refl
  where
    source : TapeState
    source = at place.Header second last track []

    more : AreBytes (head ++ b ∷ [])
    more = bytes-append head (b ∷ []) a (small, tt)

    Goal : TapeState → Type 0
    Goal z =
        parts_from (remade place.Header second last track) (again (begin_by z.place z ++ parts_from z bs)) ≡
        begin_by z.place z ++ parts_from z bs

    by_length : (whole : Bool) → (length (head ++ b ∷ []) == header_size second) ≡ whole →
        Goal (tape_behind (at_header source head) b)
    by_length true e =
        subst Goal (sym (behind_is source head b true e))
        (same-headed second last track (head ++ b ∷ []) bs more (grind (arith, nat_tests)) same)
    by_length false e =
        subst Goal (sym (behind_is source head b false e)) (same place.Header second last track (head ++ b ∷ []) tt
        more)

same-more : (b : ℕ) (bs : List ℕ) → b < 256 → Same bs → Same (b ∷ bs)
same-more b bs small same place.Magic second last track head is a = absurd is
same-more b bs small same place.Header second last track head is a = same-header second last track head b bs a small
    same
same-more b bs small same (place.Within zero) second last track head is a =
    ap (λ ps. parts_from (remade (place.Within 0) second last track) (again ps))
    (end_parts (at place.Header second last track head) (b ∷ bs)) ∙
    (end_parts (remade place.Header second last track) (again (parts_from (at place.Header second last track head)
    (b ∷ bs))) ∙
    (ap (λ ps. RecordEnd ∷ ps) (same-header second last track head b bs a small same) ∙
    sym (end_parts (at place.Header second last track head) (b ∷ bs))))
same-more b bs small same (place.Within (suc left)) second last track head is a =
    ap (λ ps. RecordByte b ∷ ps) (same (place.Within (suc left - 1)) second last track head tt a)
same-more b bs small same (place.Broken f) second last track head is a = same-broken f second last track head (b ∷ bs)

pub same-parts : (bs : List ℕ) → AreBytes bs → Same bs
same-parts [] a = same-nothing
same-parts (b ∷ bs) a = same-more b bs a.0 (same-parts bs a.1)

-- the magic

abbrev IsMagic : (m b t form : ℕ) → Bool → Type 0
IsMagic m b t form second = (m ∷ b ∷ t ∷ form ∷ []) ≡ magic second

same-number : (m n : ℕ) → (m == n) ≡ true → m ≡ n
same-number m n e = grind (arith, nat_tests)

four-is : (m b t form w x y z : ℕ) → (m == w) ≡ true → (b == x) ≡ true → (t == y) ≡ true → (form == z) ≡ true →
    (m ∷ b ∷ t ∷ form ∷ []) ≡ (w ∷ x ∷ y ∷ z ∷ [])
four-is m b t form w x y z p q r e =
    λ i. same-number m w p i ∷ same-number b x q i ∷ same-number t y r i ∷ same-number form z e i ∷ []

which-magic : (m b t form : ℕ) → all_fit_magic 0 (m ∷ b ∷ t ∷ form ∷ []) ≡ true → (second : Bool) × IsMagic m b t form
    second
which-magic m b t form fits =
    by (m == 0x4d) (b == 0x42) (t == 0x54) (form == 0x31) (form == 0x32) refl refl refl refl refl fits
  where
    by : (one two three first second : Bool) → (m == 0x4d) ≡ one → (b == 0x42) ≡ two → (t == 0x54) ≡ three →
        (form == 0x31) ≡ first → (form == 0x32) ≡ second → (one && (two && (three && ((first || second) && true)))) ≡
        true →
        (second : Bool) × IsMagic m b t form second
    by false two three first second m b t f g e = absurd (false≢true e)
    by true false three first second m b t f g e = absurd (false≢true e)
    by true true false first second m b t f g e = absurd (false≢true e)
    by true true true false false m b t f g e = absurd (false≢true e)
    by true true true true second p q r f g e = (false, four-is m b t form 0x4d 0x42 0x54 0x31 p q r f)
    by true true true false true p q r f g e = (true, four-is m b t form 0x4d 0x42 0x54 0x32 p q r g)

magic-told : (second : Bool) (more : List ℕ) → tape_parts (magic second ++ more) ≡ parts_from (behind_form second) more
magic-told second more = sym (tape-reads (magic second ++ more)).parts ∙ magic_parts second more

-- what a tape whose magic is whole is in the second form, and one whose magic isn't
whole-magic : (bytes rest : List ℕ) → nat_le 4 (length bytes) ≡ true → all_fit_magic 0 (take 4 bytes) ≡ true →
    again (tape_parts bytes) ≡ rest → tape2 bytes ≡ magic true ++ rest
whole-magic bytes rest long fits told =
    ap (λ (z : Bool). (if z && all_fit_magic 0 (take 4 bytes) then magic true else []) ++ again (tape_parts bytes))
    long ∙
    (ap (λ (z : Bool). (if z then magic true else []) ++ again (tape_parts bytes)) fits ∙
    ap (λ z. magic true ++ z) told)

unwhole : (bytes : List ℕ) → all_fit_magic 0 (take 4 bytes) ≡ false → tape_parts bytes ≡ [] → tape2 bytes ≡ []
unwhole bytes misfits none =
    ap (λ (z : Bool). (if nat_le 4 (length bytes) && z then magic true else []) ++ again (tape_parts bytes)) misfits ∙
    (by (nat_le 4 (length bytes)) ∙ ap again none)
  where
    by : (long : Bool) → (if long && false then magic true else []) ++ again (tape_parts bytes) ≡
        again (tape_parts bytes)
    by true = refl
    by false = refl

-- a magic that isn't whole or fits none tells nothing
unread-parts : (fits : Bool) → (if fits then nothing Inside else nothing (Faulty fault.Magic)).parts ≡ []
unread-parts true = refl
unread-parts false = refl

misfit-parts : (bytes : List ℕ) → all_fit_magic 0 (take 4 bytes) ≡ false → tape_parts bytes ≡ []
misfit-parts bytes misfits =
    ap (λ (z : Bool). (if z then form_read (drop 3 bytes) else nothing (Faulty fault.Magic)).parts) misfits

pub remade-magic : (second : Bool) (more : List ℕ) →
    tape2 (magic second ++ more) ≡ magic true ++ again (parts_from (behind_form second) more)
remade-magic second more =
    by second (magic-told second more)
  where
    by : (second : Bool) → tape_parts (magic second ++ more) ≡ parts_from (behind_form second) more →
        tape2 (magic second ++ more) ≡ magic true ++ again (parts_from (behind_form second) more)
    by true told = whole-magic (magic true ++ more) (again (parts_from (behind_form true) more))
        (grind (arith, nat_tests)) refl (ap again told)
    by false told = whole-magic (magic false ++ more) (again (parts_from (behind_form false) more))
        (grind (arith, nat_tests)) refl (ap again told)

behind-same : (second : Bool) → remade place.Header second 0 0 ≡ behind_form true
behind-same true = refl
behind-same false = refl

same-form : (second : Bool) (more : List ℕ) → AreBytes more →
    parts_from (behind_form true) (again (parts_from (behind_form second) more)) ≡ parts_from (behind_form second) more
same-form second more a =
    ap (λ (u : TapeState). parts_from u (again (parts_from (behind_form second) more))) (sym (behind-same second)) ∙
    same-parts more a place.Header second 0 0 [] tt tt

-- a list of bytes begins with a whole magic, or says nothing

record Begins (bytes : List ℕ) : Type 0 where
  second : Bool
  more : List ℕ
  is : bytes ≡ magic second ++ more
  bytes_are : AreBytes more

record Silent (bytes : List ℕ) : Type 0 where
  parts : tape_parts bytes ≡ []
  remade : tape2 bytes ≡ []

unread : (bytes : List ℕ) → tape_parts bytes ≡ [] → tape2 bytes ≡ again (tape_parts bytes) → Silent bytes
unread bytes none is = record { parts = none; remade = is ∙ ap again none }

begins : (bytes : List ℕ) → AreBytes bytes → Begins bytes ⊎ Silent bytes
begins [] a = inr (unread [] refl refl)
begins (m ∷ []) a = inr (unread (m ∷ []) (unread-parts (all_fit_magic 0 (m ∷ []))) refl)
begins (m ∷ b ∷ []) a = inr (unread (m ∷ b ∷ []) (unread-parts (all_fit_magic 0 (m ∷ b ∷ []))) refl)
begins (m ∷ b ∷ t ∷ []) a = inr (unread (m ∷ b ∷ t ∷ []) (unread-parts (all_fit_magic 0 (m ∷ b ∷ t ∷ []))) refl)
begins (m ∷ b ∷ t ∷ form ∷ more) a = by (all_fit_magic 0 (m ∷ b ∷ t ∷ form ∷ [])) refl
  where
    bytes : List ℕ
    bytes = m ∷ b ∷ t ∷ form ∷ more

    by : (fits : Bool) → all_fit_magic 0 (m ∷ b ∷ t ∷ form ∷ []) ≡ fits → Begins bytes ⊎ Silent bytes
    by true fits =
        let w = which-magic m b t form fits in
        inl (record { second = w.0; more = more; is = ap (λ z. z ++ more) w.1; bytes_are = a.1.1.1.1 })
    by false misfits =
        let none : tape_parts bytes ≡ [] = misfit-parts bytes misfits in
        inr (record { parts = none; remade = unwhole bytes misfits none })

pub told-again : (bytes : List ℕ) → AreBytes bytes → tape_parts (tape2 bytes) ≡ tape_parts bytes
told-again bytes a = elim (begins bytes a) [
  | inl b ↦
      let told : List RecordPart = parts_from (behind_form b.second) b.more in
      ap (λ z. tape_parts (tape2 z)) b.is ∙
      (ap tape_parts (remade-magic b.second b.more) ∙
      (magic-told true (again told) ∙
      (same-form b.second b.more b.bytes_are ∙
      (sym (magic-told b.second b.more) ∙ ap tape_parts (sym b.is)))))
  | inr s ↦ ap tape_parts s.remade ∙ sym s.parts
]

pub made-twice : (bytes : List ℕ) → AreBytes bytes → tape2 (tape2 bytes) ≡ tape2 bytes
made-twice bytes a = elim (begins bytes a) [
  | inl b ↦
      let told : List RecordPart = parts_from (behind_form b.second) b.more in
      let once : tape2 bytes ≡ magic true ++ again told = ap tape2 b.is ∙ remade-magic b.second b.more in
      ap tape2 once ∙
      (remade-magic true (again told) ∙
      (ap (λ ps. magic true ++ again ps) (same-form b.second b.more b.bytes_are) ∙ sym once))
  | inr s ↦ ap tape2 s.remade ∙ sym s.remade
]

-- right records

again-bytes : (bs : List ℕ) → again (map RecordByte bs ++ RecordEnd ∷ []) ≡ bs
again-bytes [] = refl
again-bytes (b ∷ bs) = ap (λ z. b ∷ z) (again-bytes bs)

again-records : (second : Bool) (rs : List Record) →
    again (flat_map (record_parts second) rs) ≡ flat_map (record_bytes true) (map (record_in_microseconds second) rs)
again-records second [] = refl
again-records second (r ∷ rs) =
    let head : List ℕ = header true (microseconds second r.moment) r.track (length r.bytes) in
    flat_map-append part_bytes (record_parts second r) (flat_map (record_parts second) rs) ∙
    (ap (λ z. (head ++ z) ++ again (flat_map (record_parts second) rs)) (again-bytes r.bytes) ∙
    ap (λ z. (head ++ r.bytes) ++ z) (again-records second rs))

pub records-again : (second : Bool) (rs : List Record) → AreRecords second 0 rs →
    tape2 (tape second rs) ≡ tape true (map (record_in_microseconds second) rs)
records-again second rs are =
    let bytes : List ℕ = flat_map (record_bytes second) rs in
    let told : parts_from (behind_form second) bytes ≡ flat_map (record_parts second) rs =
    ap (parts_from (behind_form second)) (sym (append-nil bytes)) ∙
    (records_parts (behind_form second) rs [] are ∙
    (ap (λ ps. flat_map (record_parts second) rs ++ ps) (none-behind (behind_form second) rs) ∙
    append-nil (flat_map (record_parts second) rs))) in
    remade-magic second bytes ∙
    ap (λ z. magic true ++ z) (ap again told ∙ again-records second rs)
