-- Byte by byte a list of bytes tells what its definition as a tape does, and ends alike.
use Rattle.std.proofs.Common.{◌≡◌, ℕ, zero, suc, ◌+◌, ◌-◌, ◌<◌, ◌≤◌, Bool, true, false, List, [], ◌∷◌, ◌++◌, length}
use Rattle.std.proofs.Common.{Option, Some, None, map, take, drop, refl, sym, ◌∙◌, ap, subst, arith, append_assoc}
use Rattle.std.proofs.Common.{append-nil, length-append}
use Rattle.std.specs.Prelude.{nat_lt, ◌==◌, ◌&&◌, not, if◌then◌else◌}
use Rattle.std.proofs.lemmas.Bool.Decides.{nat_tests}
use Rattle.std.proofs.lemmas.List.{take-append-drop, length-take-le, length-drop}
use Rattle.mb_frames.specs.Tapes.{RecordBegin, RecordByte, RecordEnd, RecordHeader, TapeRead, TapeEnd, Whole, Inside}
use Rattle.mb_frames.specs.Tapes.{Faulty, nothing, behind_parts, content_read, record_read, records_read, form_read}
use Rattle.mb_frames.specs.Tapes.{tape_read, all_fit_magic, fits_magic, microseconds, header_size, header_of}
use Rattle.mb_frames.specs.Tapes.{header_fault}
use Rattle.mb_frames.specs.TapeSteps.{TapeState, fresh, begun, begin_by, parts_from, after, tape_behind, ending_at}
use Rattle.mb_frames.specs.TapeSteps.{ending_from}
use Rattle.mb_frames.specs.TapeReading.{TapeStands}
use Rattle.mb_frames.specs.declared.tape.TapeFault.{TapeFault}
use Rattle.mb_frames.specs.declared.tape.TapeFault.TheVariants as fault
use Rattle.mb_frames.specs.declared.tape.Place.TheVariants as place
use Rattle.mb_frames.proofs.TapeStepLemmas.{within_parts, within_after, end_parts, end_after}
use Rattle.mb_frames.proofs.TapeRecords.{at_header, headed, run_of, after_of, behind_is}

-- what is told from a state on is what a reading has
pub record Reads (t : TapeState) (bytes : List ℕ) (read : TapeRead) : Type 0 where
  pub parts : parts_from t bytes ≡ read.parts
  pub ending : ending_from t bytes ≡ read.ending

-- behind a fault nothing is told
pub broken_parts : (f : TapeFault) (t : TapeState) (bytes : List ℕ) → parts_from (record t { place = place.Broken f })
    bytes ≡ []
broken_parts f t [] = refl
broken_parts f t (b ∷ bs) = broken_parts f t bs

pub broken_after : (f : TapeFault) (t : TapeState) (bytes : List ℕ) →
    after (record t { place = place.Broken f }) bytes ≡ record t { place = place.Broken f }
broken_after f t [] = refl
broken_after f t (b ∷ bs) = broken_after f t bs

broken-reads : (f : TapeFault) (t : TapeState) (bytes : List ℕ) →
    Reads (record t { place = place.Broken f }) bytes (nothing (Faulty f))
broken-reads f t bytes = record { parts = broken_parts f t bytes; ending = ap ending_at (broken_after f t bytes) }

-- how it ends where something is left or to come
abbrev end_by_test : Bool → TapeEnd
end_by_test none = if none then Whole else Inside

not-zero : (n : ℕ) → (suc n == 0) ≡ false
not-zero n = grind (arith, nat_tests)

-- a header that is unfinished

header_short : (t : TapeState) (head bytes : List ℕ) → length head + length bytes < header_size t.second →
    (parts_from (at_header t head) bytes ≡ []) × (after (at_header t head) bytes ≡ at_header t (head ++ bytes))
header_short t head [] short = (refl, ap (at_header t) (sym (append-nil head)))
header_short t head (b ∷ bs) short =
    let n = length-append head (b ∷ []) in
    let part : (length (head ++ b ∷ []) == header_size t.second) ≡ false = grind (arith, nat_tests) in
    let rest = header_short t (head ++ b ∷ []) bs (omega (arith, short, n)) in (
      ap (λ (z : TapeState). begin_by z.place z ++ parts_from z bs) (behind_is t head b false part) ∙ rest.0,
      ap (λ (z : TapeState). after z bs) (behind_is t head b false part) ∙
          (rest.1 ∙ ap (at_header t) (append_assoc head (b ∷ []) bs)),
    )

short-reads : (t : TapeState) (b : ℕ) (bs : List ℕ) → length (b ∷ bs) < header_size t.second →
    Reads (at_header t []) (b ∷ bs) (nothing Inside)
short-reads t b bs short =
    let rest = header_short t [] (b ∷ bs) (omega (arith, short)) in
    record { parts = rest.0; ending = ap ending_at rest.1 ∙ ap end_by_test (not-zero (length bs)) }

-- a record that is unfinished

abbrev inside : TapeState → ℕ → TapeState
inside t left = record t { place = place.Within left; head = [] }

within_short : (left : ℕ) (t : TapeState) (bytes : List ℕ) → length bytes < left →
    (parts_from (inside t left) bytes ≡ map RecordByte bytes) × (ending_from (inside t left) bytes ≡ Inside)
within_short zero t bytes short = absurd (omega (arith, short))
within_short (suc left) t [] short = (refl, ap end_by_test (not-zero left))
within_short (suc left) t (b ∷ bs) short =
    let one : suc left - 1 ≡ left = omega arith in
    let rest = within_short left t bs (omega (arith, short)) in (
      ap (λ n. RecordByte b ∷ parts_from (inside t n) bs) one ∙ ap (λ z. RecordByte b ∷ z) rest.0,
      ap (λ n. ending_from (inside t n) bs) one ∙ rest.1,
    )

-- a record's bytes, and what follows them

content-reads : (t : TapeState) (len : ℕ) (bytes : List ℕ) (others : TapeRead) →
    Reads (at_header t []) (drop len bytes) others → Reads (inside t len) bytes (content_read len bytes others)
content-reads t len bytes others rest = by_length (nat_lt (length bytes) len) refl
  where
    read_by : Bool → TapeRead
    read_by short =
        if short then behind_parts (map RecordByte bytes) (nothing Inside)
        else behind_parts (map RecordByte (take len bytes) ++ RecordEnd ∷ []) others

    by_length : (short : Bool) → nat_lt (length bytes) len ≡ short → Reads (inside t len) bytes (read_by short)
    by_length true e =
        let cut = within_short len t bytes (grind (arith, nat_tests)) in
        record { parts = cut.0 ∙ sym (append-nil (map RecordByte bytes)); ending = cut.1 }
    by_length false e =
        let enough : len ≤ length bytes = grind (arith, nat_tests) in
        let few : len ≡ length (take len bytes) + 0 = let n = length-take-le len bytes enough in omega (arith, n) in
        let joined : take len bytes ++ drop len bytes ≡ bytes = take-append-drop len bytes in
        record {
          parts =
              ap (parts_from (inside t len)) (sym joined) ∙
              (within_parts len (inside t len) (take len bytes) (drop len bytes) 0 few ∙
              (ap (λ ps. map RecordByte (take len bytes) ++ ps) (end_parts (inside t len) (drop len bytes)) ∙
              (sym (append_assoc (map RecordByte (take len bytes)) (RecordEnd ∷ []) (parts_from (at_header t [])
              (drop len bytes))) ∙
              ap (λ ps. (map RecordByte (take len bytes) ++ RecordEnd ∷ []) ++ ps) rest.parts)));
          ending =
              ap (ending_from (inside t len)) (sym joined) ∙
              (ap ending_at (within_after len (inside t len) (take len bytes) (drop len bytes) 0 few ∙
              end_after (inside t len) (drop len bytes)) ∙ rest.ending);
        }

-- a whole header, and what follows it

abbrev behind_header : TapeState → RecordHeader → TapeState
behind_header t h = record t { place = place.Header; head = []; last = h.moment; track = h.track }

record-reads : (t : TapeState) (head bytes : List ℕ) (others : TapeRead) → length head ≡ header_size t.second →
    Reads (behind_header t (header_of t.second head)) (drop (header_of t.second head).len bytes) others →
    Reads (at_header t []) (head ++ bytes) (record_read t.second (header_fault t.second t.last
    (header_of t.second head)) (header_of t.second head) bytes others)
record-reads t head bytes others is rest =
    let h : RecordHeader = header_of t.second head in
    by_fault h (header_fault t.second t.last h) refl rest
  where
    run : (f : Option TapeFault) (h : RecordHeader) → headed t head ≡ begun (at_header t []) h f →
        parts_from (at_header t []) (head ++ bytes) ≡
        begin_by (begun (at_header t []) h f).place (begun (at_header t []) h f) ++
        parts_from (begun (at_header t []) h f) bytes
    run f h e = run_of t head bytes is ∙ ap (λ (z : TapeState). begin_by z.place z ++ parts_from z bytes) e

    end : (f : Option TapeFault) (h : RecordHeader) → headed t head ≡ begun (at_header t []) h f →
        ending_from (at_header t []) (head ++ bytes) ≡ ending_from (begun (at_header t []) h f) bytes
    end f h e = ap ending_at (after_of t head bytes is) ∙ ap (λ (z : TapeState). ending_from z bytes) e

    by_fault : (h : RecordHeader) (f : Option TapeFault) → headed t head ≡ begun (at_header t []) h f →
        Reads (behind_header t h) (drop h.len bytes) others → Reads (at_header t []) (head ++ bytes)
        (record_read t.second f h bytes others)
    by_fault h (Some f) e rest =
        let stays = broken-reads f (at_header t []) bytes in
        record { parts = run (Some f) h e ∙ stays.parts; ending = end (Some f) h e ∙ stays.ending }
    by_fault h None e rest =
        let goes = content-reads (behind_header t h) h.len bytes others rest in
        record {
          parts = run None h e ∙ ap (λ ps. RecordBegin (microseconds t.second h.moment) h.track h.len ∷ ps) goes.parts;
          ending = end None h e ∙ goes.ending;
        }

-- all records

abbrev between : (second : Bool) → (last track : ℕ) → TapeState
between second last track = record { place = place.Header; head = []; second = second; last = last; track = track }

records-reads : (most : ℕ) (second : Bool) (last track : ℕ) (bytes : List ℕ) → length bytes ≤ most →
    Reads (between second last track) bytes (records_read most second last bytes)
records-reads most second last track [] few = record { parts = refl; ending = refl }
records-reads zero second last track (b ∷ bs) few = absurd (omega (arith, few))
records-reads (suc most) second last track (b ∷ bs) few =
    by_length (nat_lt (length (b ∷ bs)) size) refl (records-reads most second h.moment h.track (drop h.len behind_it))
  where
    size : ℕ
    size = header_size second

    h : RecordHeader
    h = header_of second (take size (b ∷ bs))

    behind_it : List ℕ
    behind_it = drop size (b ∷ bs)

    read_by : Bool → TapeRead
    read_by short =
        if short then nothing Inside
        else record_read second (header_fault second last h) h behind_it (records_read most second h.moment
        (drop h.len behind_it))

    at_least : (second : Bool) → 1 ≤ header_size second
    at_least true = omega arith
    at_least false = omega arith

    Others : Type 0
    Others =
        length (drop h.len behind_it) ≤ most →
        Reads (between second h.moment h.track) (drop h.len behind_it) (records_read most second h.moment
        (drop h.len behind_it))

    by_length : (short : Bool) → nat_lt (length (b ∷ bs)) size ≡ short → Others →
        Reads (between second last track) (b ∷ bs) (read_by short)
    by_length true e others = short-reads (between second last track) b bs (grind (arith, nat_tests))
    by_length false e others =
        let enough : size ≤ length (b ∷ bs) = grind (arith, nat_tests) in
        let fewer : length (drop h.len behind_it) ≤ most =
        let n = length-drop h.len behind_it in let m = length-drop size (b ∷ bs) in let l = at_least second in
        omega (arith, few, n, m, l) in
        subst (λ (z : List ℕ). Reads (between second last track) z (read_by false)) (take-append-drop size (b ∷ bs))
        (record-reads (between second last track) (take size (b ∷ bs)) behind_it
        (records_read most second h.moment (drop h.len behind_it)) (length-take-le size (b ∷ bs) enough)
        (others fewer))

-- the magic

abbrev in_magic : List ℕ → TapeState
in_magic head = record fresh { head = head }

abbrev no_magic : List ℕ → TapeState
no_magic head = record fresh { place = place.Broken fault.Magic; head = head }

abbrev behind_tests : (fits last : Bool) → (head : List ℕ) → (byte : ℕ) → TapeState
behind_tests fits last head byte =
    if not fits then no_magic head
    else (if last then between (byte == 0x32) 0 0 else in_magic (head ++ byte ∷ []))

behind_in_magic : (fits last : Bool) (at : ℕ) (head : List ℕ) (byte : ℕ) → length head ≡ at →
    fits_magic at byte ≡ fits → (at == 3) ≡ last → tape_behind (in_magic head) byte ≡ behind_tests fits last head byte
behind_in_magic fits last at head byte is f l =
    ap (λ n. behind_tests (fits_magic n byte) (n == 3) head byte) is ∙
    (ap (λ (z : Bool). behind_tests z (at == 3) head byte) f ∙ ap (λ (z : Bool). behind_tests fits z head byte) l)

-- the magic's bytes from a place on, so many before its last
abbrev magic_read : (left at : ℕ) → List ℕ → TapeRead
magic_read left at bytes =
    if all_fit_magic at (take (suc left) bytes) then form_read (drop left bytes) else nothing (Faulty fault.Magic)

magic_step : (left at : ℕ) (head : List ℕ) → length head ≡ at → (at == 3) ≡ false →
    ((b : ℕ) (bs : List ℕ) → Reads (in_magic (head ++ b ∷ [])) bs (magic_read left (suc at) bs)) →
    (bytes : List ℕ) → Reads (in_magic head) bytes (magic_read (suc left) at bytes)
magic_step left at head is inner next [] = record { parts = refl; ending = refl }
magic_step left at head is inner next (b ∷ bs) = by (fits_magic at b) refl
  where
    by : (fits : Bool) → fits_magic at b ≡ fits → Reads (in_magic head) (b ∷ bs)
        (if fits && all_fit_magic (suc at) (take (suc left) bs) then form_read (drop left bs) else
        nothing (Faulty fault.Magic))
    by true f =
        let e : tape_behind (in_magic head) b ≡ in_magic (head ++ b ∷ []) = behind_in_magic true false at head b is f
        inner in
        let n = next b bs in
        record {
          parts = ap (λ (z : TapeState). parts_from z bs) e ∙ n.parts;
          ending = ap (λ (z : TapeState). ending_from z bs) e ∙ n.ending;
        }
    by false f =
        let e : tape_behind (in_magic head) b ≡ no_magic head = behind_in_magic false false at head b is f inner in
        let n = broken-reads fault.Magic (in_magic head) bs in
        record {
          parts = ap (λ (z : TapeState). parts_from z bs) e ∙ n.parts;
          ending = ap (λ (z : TapeState). ending_from z bs) e ∙ n.ending;
        }

magic_last : (head : List ℕ) → length head ≡ 3 → (bytes : List ℕ) → Reads (in_magic head) bytes (magic_read 0 3 bytes)
magic_last head is [] = record { parts = refl; ending = refl }
magic_last head is (b ∷ bs) = by (fits_magic 3 b) refl
  where
    by : (fits : Bool) → fits_magic 3 b ≡ fits → Reads (in_magic head) (b ∷ bs)
        (if fits && true then form_read (b ∷ bs) else nothing (Faulty fault.Magic))
    by true f =
        let e : tape_behind (in_magic head) b ≡ between (b == 0x32) 0 0 = behind_in_magic true true 3 head b is f
        refl in
        let n = records-reads (length bs) (b == 0x32) 0 0 bs (omega arith) in
        record {
          parts = ap (λ (z : TapeState). parts_from z bs) e ∙ n.parts;
          ending = ap (λ (z : TapeState). ending_from z bs) e ∙ n.ending;
        }
    by false f =
        let e : tape_behind (in_magic head) b ≡ no_magic head = behind_in_magic false true 3 head b is f refl in
        let n = broken-reads fault.Magic (in_magic head) bs in
        record {
          parts = ap (λ (z : TapeState). parts_from z bs) e ∙ n.parts;
          ending = ap (λ (z : TapeState). ending_from z bs) e ∙ n.ending;
        }

pub tape-reads : (bytes : List ℕ) → Reads fresh bytes (tape_read bytes)
tape-reads =
    magic_step 2 0 [] refl refl (λ m. magic_step 1 1 (m ∷ []) refl refl
    (λ b. magic_step 0 2 (m ∷ b ∷ []) refl refl (λ t. magic_last (m ∷ b ∷ t ∷ []) refl)))

pub fresh-stands : TapeStands fresh [] []
fresh-stands = record { parts = λ more. sym (tape-reads more).parts; ending = λ more. sym (tape-reads more).ending }
