-- A tape in the second form goes on behind each stretch of the tape that it is made of.
use Rattle.std.proofs.Common.{◌≡◌, ℕ, zero, suc, ◌+◌, ◌-◌, ◌<◌, Bool, true, false, List, [], ◌∷◌, ◌++◌, length}
use Rattle.std.proofs.Common.{Some, None, take, flat_map, refl, sym, ◌∙◌, ap, arith, append_assoc}
use Rattle.std.proofs.Common.{append-nil, length-append}
use Rattle.std.specs.Prelude.{nat_lt, nat_le, ◌==◌, ◌&&◌, not, if◌then◌else◌}
use Rattle.std.proofs.lemmas.Bool.Decides.{nat_tests}
use Rattle.std.proofs.lemmas.Bool.{false≢true, true≢false}
use Rattle.std.proofs.lemmas.Grind.{flat_map-append}
use Rattle.mb_frames.specs.Tapes.{RecordPart, RecordHeader, header_of, header_size, header_fault, most_milliseconds}
use Rattle.mb_frames.specs.Tapes.{fits_magic, all_fit_magic, magic, tape_parts, tape_fault, fault_in}
use Rattle.mb_frames.specs.TapeSteps.{TapeState, fresh, begun, tape_behind, behind_head, rested}
use Rattle.mb_frames.specs.TapeSteps.{rest_by, end_by, parts_by, parts_from, after, ending_at, magic_taken}
use Rattle.mb_frames.specs.TapeReading.{TapeTakes}
use Rattle.mb_frames.specs.Migrated.{part_bytes, tape2, magic_is_whole, magic_between, migrated_from, step_bytes}
use Rattle.mb_frames.specs.declared.tape.TapeFault.{TapeFault}
use Rattle.mb_frames.specs.declared.tape.TapeFault.TheVariants as fault
use Rattle.mb_frames.specs.declared.tape.Place.{Place}
use Rattle.mb_frames.specs.declared.tape.Place.TheVariants as place
use Rattle.mb_frames.proofs.TapeStepLemmas.{end_parts, end_after}
use Rattle.mb_frames.proofs.TapeLiteral.{tape-reads}

abbrev at : Place → TapeState → TapeState
at p t = record t { place = p }

-- once the magic is whole, it stays so

taken-begun : (t : TapeState) (h : RecordHeader) (second : Bool) (last : ℕ) →
    magic_taken (begun t h (header_fault second last h)).place ≡ true
taken-begun t h second last =
    by_tests (nat_lt h.moment last) (not second && nat_lt most_milliseconds h.moment) (h.len == 0)
  where
    by_tests : (back far none : Bool) → magic_taken (begun t h (if back then Some (fault.Back last h.moment)
        else (if far then Some (fault.Far h.moment) else (if none then Some fault.Zero else None)))).place ≡ true
    by_tests true far none = refl
    by_tests false true none = refl
    by_tests false false true = refl
    by_tests false false false = refl

taken-head : (t : TapeState) (head : List ℕ) → magic_taken t.place ≡ true → magic_taken (behind_head t head).place ≡
    true
taken-head t head is = by_test (length head == header_size t.second)
  where
    h : RecordHeader
    h = header_of t.second head

    by_test : (whole : Bool) → magic_taken (if whole then begun t h (header_fault t.second t.last h)
        else record t { head = head }).place ≡ true
    by_test true = taken-begun t h t.second t.last
    by_test false = is

taken-behind : (p : Place) (t : TapeState) (b : ℕ) → magic_taken p ≡ true → magic_taken (tape_behind (at p t) b).place ≡
    true
taken-behind place.Magic t b is = absurd (false≢true is)
taken-behind place.Header t b is = taken-head (at place.Header t) (t.head ++ b ∷ []) refl
taken-behind (place.Within left) t b is = refl
taken-behind (place.Broken f) t b is = is

taken-rested : (p : Place) → magic_taken (rest_by p) ≡ magic_taken p
taken-rested place.Magic = refl
taken-rested place.Header = refl
taken-rested (place.Within zero) = refl
taken-rested (place.Within (suc left)) = refl
taken-rested (place.Broken f) = refl

pub magic-stays : (t : TapeState) (bytes : List ℕ) → magic_taken t.place ≡ true → magic_taken (after t bytes).place ≡
    true
magic-stays t [] is = taken-rested t.place ∙ is
magic-stays t (b ∷ bs) is =
    magic-stays (tape_behind (rested t) b) bs (taken-behind (rest_by t.place) t b (taken-rested t.place ∙ is))

-- before it is, nothing is told

untaken : (a : TapeState) (bytes : List ℕ) → magic_taken (after a bytes).place ≡ false → magic_taken a.place ≡ false
untaken a bytes none = by_test (magic_taken a.place) refl
  where
    by_test : (t : Bool) → magic_taken a.place ≡ t → magic_taken a.place ≡ false
    by_test true e = absurd (true≢false (sym (magic-stays a bytes e) ∙ none))
    by_test false e = e

no-end : (p : Place) → magic_taken p ≡ false → end_by p ≡ []
no-end place.Magic none = refl
no-end place.Header none = absurd (true≢false none)
no-end (place.Within left) none = absurd (true≢false none)
no-end (place.Broken f) none = refl

no-parts : (p : Place) (t : TapeState) (b : ℕ) → magic_taken p ≡ false → parts_by p (at p t) b ≡ []
no-parts place.Magic t b none = refl
no-parts place.Header t b none = absurd (true≢false none)
no-parts (place.Within left) t b none = absurd (true≢false none)
no-parts (place.Broken f) t b none = refl

pub none-before : (t : TapeState) (bytes : List ℕ) → magic_taken (after t bytes).place ≡ false → parts_from t bytes ≡ []
none-before t [] none = no-end t.place (sym (taken-rested t.place) ∙ none)
none-before t (b ∷ bs) none =
    let rest = none-before (tape_behind (rested t) b) bs none in
    let here = untaken t (b ∷ bs) none in
    ap (λ xs. xs ++ (parts_by (rest_by t.place) (rested t) b ++ parts_from (tape_behind (rested t) b) bs))
    (no-end t.place here)
    ∙ (ap (λ xs. xs ++ parts_from (tape_behind (rested t) b) bs)
    (no-parts (rest_by t.place) t b (taken-rested t.place ∙ here)) ∙ rest)

-- bytes and more of them

parts-none : (p : Place) (t : TapeState) (more : List ℕ) →
    parts_from (at p t) more ≡ end_by p ++ parts_from (at (rest_by p) t) more
parts-none place.Magic t more = refl
parts-none place.Header t more = refl
parts-none (place.Within zero) t more = end_parts t more
parts-none (place.Within (suc left)) t more = refl
parts-none (place.Broken f) t more = refl

after-none : (p : Place) (t : TapeState) (more : List ℕ) → after (at p t) more ≡ after (at (rest_by p) t) more
after-none place.Magic t more = refl
after-none place.Header t more = refl
after-none (place.Within zero) t more = end_after t more
after-none (place.Within (suc left)) t more = refl
after-none (place.Broken f) t more = refl

parts-split : (t : TapeState) (bytes more : List ℕ) →
    parts_from t (bytes ++ more) ≡ parts_from t bytes ++ parts_from (after t bytes) more
parts-split t [] more = parts-none t.place t more
parts-split t (b ∷ bs) more =
    let end = end_by t.place in
    let here = parts_by (rest_by t.place) (rested t) b in
    let rest = parts_from (tape_behind (rested t) b) bs in
    let others = parts_from (after t (b ∷ bs)) more in
    ap (λ xs. end ++ (here ++ xs)) (parts-split (tape_behind (rested t) b) bs more)
    ∙ (ap (λ xs. end ++ xs) (sym (append_assoc here rest others)) ∙ sym (append_assoc end (here ++ rest) others))

pub after-split : (t : TapeState) (bytes more : List ℕ) → after t (bytes ++ more) ≡ after (after t bytes) more
after-split t [] more = after-none t.place t more
after-split t (b ∷ bs) more = after-split (tape_behind (rested t) b) bs more

pub takes-all : (t : TapeState) (input : List ℕ) → TapeTakes t (after t input) input [] (parts_from t input)
takes-all t input = record {
  taken = input;
  front = sym (append-nil input);
  parts = λ more. parts-split t input more;
  state = λ more. after-split t input more;
}

-- two steps

before-step : (a b : TapeState) (x y : List ℕ) (told : List RecordPart) → TapeTakes a b x y told →
    magic_taken b.place ≡ false → (magic_taken a.place ≡ false) × (told ≡ [])
before-step a b x y told t none =
    let state : after a t.taken ≡ rested b = ap (after a) (sym (append-nil t.taken)) ∙ t.state [] in
    let still : magic_taken (after a t.taken).place ≡ false
    = ap (λ (z : TapeState). magic_taken z.place) state ∙ (taken-rested b.place ∙ none) in
    let parts : parts_from a t.taken ≡ told ++ end_by b.place
    = ap (parts_from a) (sym (append-nil t.taken)) ∙ t.parts [] in
    (untaken a t.taken still, nothing told (end_by b.place) (sym parts ∙ none-before a t.taken still))
  where
    nothing : (xs ys : List RecordPart) → xs ++ ys ≡ [] → xs ≡ []
    nothing [] ys e = refl
    nothing (x ∷ xs) ys e = cc

behind-step : (a b : TapeState) (x y : List ℕ) (told : List RecordPart) → TapeTakes a b x y told →
    magic_taken a.place ≡ true → magic_taken b.place ≡ true
behind-step a b x y told t is =
    let state : after a t.taken ≡ rested b = ap (after a) (sym (append-nil t.taken)) ∙ t.state [] in
    sym (taken-rested b.place) ∙ (ap (λ (z : TapeState). magic_taken z.place) (sym state) ∙ magic-stays a t.taken is)

-- two steps
pub step-then : (a b c : TapeState) (x y v w : List ℕ) (first second : List RecordPart) →
    TapeTakes a b x y first → TapeTakes b c v w second →
    step_bytes a c (first ++ second) ≡ step_bytes a b first ++ step_bytes b c second
step-then a b c x y v w first second s t =
    by_tests (magic_taken a.place) (magic_taken b.place) (magic_taken c.place) refl refl refl
  where
    joined : flat_map part_bytes (first ++ second) ≡ flat_map part_bytes first ++ flat_map part_bytes second
    joined = flat_map-append part_bytes first second

    by_tests : (p q r : Bool) → magic_taken a.place ≡ p → magic_taken b.place ≡ q → magic_taken c.place ≡ r →
        magic_between p r ++ flat_map part_bytes (first ++ second)
        ≡ (magic_between p q ++ flat_map part_bytes first) ++ (magic_between q r ++ flat_map part_bytes second)
    by_tests true true r e g h = joined
    by_tests true false r e g h = absurd (true≢false (sym e ∙ (before-step a b x y first s g).0))
    by_tests false true true e g h = ap (λ xs. magic true ++ xs) joined
    by_tests false true false e g h = absurd (true≢false (sym (behind-step b c v w second t g) ∙ h))
    by_tests false false r e g h =
        let none = (before-step a b x y first s g).1 in
        ap (λ (told : List RecordPart). magic_between false r ++ flat_map part_bytes (told ++ second)) none
        ∙ sym (ap (λ (told : List RecordPart). flat_map part_bytes told ++ (magic_between false r ++
        flat_map part_bytes second)) none)

pub migrated-then : (t : TapeState) (bytes more : List ℕ) →
    migrated_from t (bytes ++ more) ≡ migrated_from t bytes ++ migrated_from (after t bytes) more
migrated-then t bytes more =
    let whole : step_bytes t (after t (bytes ++ more)) (parts_from t (bytes ++ more))
    ≡ step_bytes t (after (after t bytes) more) (parts_from t bytes ++ parts_from (after t bytes) more)
    = ap (λ (z : TapeState). step_bytes t z (parts_from t (bytes ++ more))) (after-split t bytes more)
    ∙ ap (λ told. step_bytes t (after (after t bytes) more) told) (parts-split t bytes more) in
    whole ∙ step-then t (after t bytes) (after (after t bytes) more) bytes [] more [] (parts_from t bytes)
    (parts_from (after t bytes) more) (takes-all t bytes) (takes-all (after t bytes) more)

-- the magic, byte by byte

abbrev in_magic : List ℕ → TapeState
in_magic head = record fresh { head = head }

none_more : (a : Bool) → (a && false) ≡ false
none_more true = refl
none_more false = refl

broken-stays : (f : TapeFault) (t : TapeState) (bytes : List ℕ) → (after (at (place.Broken f) t) bytes).place ≡
    place.Broken f
broken-stays f t [] = refl
broken-stays f t (b ∷ bs) = broken-stays f t bs

magic-from : (n : ℕ) (head bytes : List ℕ) → length head ≡ n → n < 4 →
    magic_taken (after (in_magic head) bytes).place ≡ (nat_le 4 (n + length bytes) && all_fit_magic n
    (take (4 - n) bytes))
magic-from n head [] is few =
    let short : nat_le 4 (n + 0) ≡ false = grind (arith, nat_tests) in
    sym (ap (λ (t : Bool). t && all_fit_magic n (take (4 - n) [])) short)
magic-from n head (b ∷ bs) is few =
    by_tests (fits_magic (length head) b) (length head == 3) refl refl
    (λ longer still. magic-from (suc n) (head ++ b ∷ []) bs longer still)
  where
    size : 4 - n ≡ suc (4 - suc n)
    size = omega arith

    right : (nat_le 4 (n + length (b ∷ bs)) && all_fit_magic n (take (4 - n) (b ∷ bs)))
        ≡ (nat_le 4 (n + length (b ∷ bs)) && (fits_magic n b && all_fit_magic (suc n) (take (4 - suc n) bs)))
    right = ap (λ (k : ℕ). nat_le 4 (n + length (b ∷ bs)) && all_fit_magic n (take k (b ∷ bs))) size

    by_tests : (fits last : Bool) → fits_magic (length head) b ≡ fits → (length head == 3) ≡ last →
        (length (head ++ b ∷ []) ≡ suc n → suc n < 4 → magic_taken (after (in_magic (head ++ b ∷ [])) bs).place
        ≡ (nat_le 4 (suc n + length bs) && all_fit_magic (suc n) (take (4 - suc n) bs))) →
        magic_taken (after (if not fits then at (place.Broken fault.Magic) (in_magic head)
        else (if last then record (in_magic head) { place = place.Header; head = []; second = b == 0x32 }
        else in_magic (head ++ b ∷ []))) bs).place
        ≡ (nat_le 4 (n + length (b ∷ bs)) && all_fit_magic n (take (4 - n) (b ∷ bs)))
    by_tests false last e g rest =
        let fits : fits_magic n b ≡ false = ap (λ (k : ℕ). fits_magic k b) (sym is) ∙ e in
        ap magic_taken (broken-stays fault.Magic (in_magic head) bs)
        ∙ sym (right ∙ (ap (λ (t : Bool). nat_le 4 (n + length (b ∷ bs)) &&
        (t && all_fit_magic (suc n) (take (4 - suc n) bs))) fits
        ∙ none_more (nat_le 4 (n + length (b ∷ bs)))))
    by_tests true true e g rest =
        let fits : fits_magic n b ≡ true = ap (λ (k : ℕ). fits_magic k b) (sym is) ∙ e in
        let three : n ≡ 3 = grind (arith, nat_tests) in
        let enough : nat_le 4 (n + length (b ∷ bs)) ≡ true = grind (arith, nat_tests) in
        let none : 4 - suc n ≡ 0 = omega arith in
        magic-stays (record (in_magic head) { place = place.Header; head = []; second = b == 0x32 }) bs refl
        ∙ sym (right ∙ (ap (λ (t : Bool). nat_le 4 (n + length (b ∷ bs)) &&
        (t && all_fit_magic (suc n) (take (4 - suc n) bs))) fits
        ∙ (ap (λ (t : Bool). t && all_fit_magic (suc n) (take (4 - suc n) bs)) enough
        ∙ ap (λ (k : ℕ). all_fit_magic (suc n) (take k bs)) none)))
    by_tests true false e g rest =
        let fits : fits_magic n b ≡ true = ap (λ (k : ℕ). fits_magic k b) (sym is) ∙ e in
        let longer : length (head ++ b ∷ []) ≡ suc n = (let m = length-append head (b ∷ []) in omega (arith, m, is)) in
        let still : suc n < 4 = grind (arith, nat_tests) in
        let count : suc n + length bs ≡ n + length (b ∷ bs) = omega arith in
        rest longer still
        ∙ (ap (λ (k : ℕ). nat_le 4 k && all_fit_magic (suc n) (take (4 - suc n) bs)) count
        ∙ sym (right ∙ ap (λ (t : Bool). nat_le 4 (n + length (b ∷ bs)) &&
        (t && all_fit_magic (suc n) (take (4 - suc n) bs))) fits))

magic-is : (bytes : List ℕ) → magic_taken (after fresh bytes).place ≡ magic_is_whole bytes
magic-is bytes = magic-from 0 [] bytes refl (omega arith) ∙ ap (λ (k : ℕ). nat_le 4 k && all_fit_magic 0 (take 4 bytes))
    (omega arith)

pub migrated-all : (bytes : List ℕ) → tape2 bytes ≡ migrated_from fresh bytes
migrated-all bytes =
    ap (λ (t : Bool). (if t then magic true else []) ++ flat_map part_bytes (tape_parts bytes)) (sym (magic-is bytes))
    ∙ ap (λ told. (if magic_taken (after fresh bytes).place then magic true else []) ++ flat_map part_bytes told)
    (sym (tape-reads bytes).parts)

pub fault-all : (bytes : List ℕ) → tape_fault bytes ≡ fault_in (ending_at (after fresh bytes))
fault-all bytes = ap fault_in (sym (tape-reads bytes).ending)

pub tape2-then : (bytes more : List ℕ) → tape2 (bytes ++ more) ≡ tape2 bytes ++ migrated_from (after fresh bytes) more
tape2-then bytes more =
    migrated-all (bytes ++ more) ∙ (migrated-then fresh bytes more
    ∙ ap (λ xs. xs ++ migrated_from (after fresh bytes) more) (sym (migrated-all bytes)))
