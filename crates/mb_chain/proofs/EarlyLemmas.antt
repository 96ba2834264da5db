-- All that crosses a chain of specs is short, by the laws of carriers alone: at most one mark more a hop, at most
-- 1,024 bytes a mark.
use Rattle.std.proofs.Common.{◌≡◌, ℕ, ◌+◌, ◌*◌, ◌≤◌, ◌^◌, Bool, true, false, ◌&&◌, List, [], ◌∷◌, ◌++◌, length, refl}
use Rattle.std.proofs.Common.{sym, ◌∙◌, ap, arith, length-append}
use Rattle.std.specs.List.{list_all}
use Rattle.mb_message.specs.Signs.{Sign}
use Rattle.mb_stream.specs.Puts.{Put, signs_in}
use Rattle.mb_stream.specs.Standing.{suited, is_valid, AreValid}
use Rattle.mb_stream.proofs.StandingLemmas.{both}
use Rattle.mb_message.specs.Front.{IsFront}
use Rattle.mb_stream.specs.Reading.{told_signs}
use Rattle.mb_carrier.specs.Carrier.{known, end_told, marks_of, marks_so_far, puts_so_far, puts_of, known_signs, live}
use Rattle.mb_carrier.specs.Carrier.{written}
use Rattle.mb_carrier.specs.Word.{IsSpec, AreSpecs}
use Rattle.mb_carrier.specs.declared.spec.Spec.{Spec}
use Rattle.mb_carrier.proofs.ConversionLemmas.{laws, hop-in, hop-suits, hop-valid}
use Rattle.mb_carrier.proofs.GrowSpecs.{grows}
use Rattle.mb_carrier.proofs.PutLemmas.{known_signs-append, so_far-in}
use Rattle.mb_carrier.proofs.ReadingLemmas.{suited-so_far}
use Rattle.mb_carrier.proofs.SpecLaws.{reads}
use Rattle.mb_chain.specs.Row.{Link, links_from, moments_on, hands_on, moments_all, writes_all, IsEarly, EndsEarly}

-- lengths

valid-front : (ms ns : List Sign) → AreValid (ms ++ ns) → AreValid ms
valid-front [] ns h = refl
valid-front (m ∷ ms) ns h =
    let e = both (is_valid m) (list_all is_valid (ms ++ ns)) h in
    with_both (is_valid m) (list_all is_valid ms) e.0 (valid-front ms ns e.1)
  where
    with_both : (a b : Bool) → a ≡ true → b ≡ true → (a && b) ≡ true
    with_both true true e f = refl
    with_both true false e f = f
    with_both false b e f = e

front-length : {A : Type 0} (xs ys : List A) → IsFront xs ys → length xs ≤ length ys
front-length xs ys f = omega (arith, ap length f.1, length-append xs f.0)

marks-front : (s : Spec) (bytes : List ℕ) → IsFront (marks_so_far s bytes) (marks_of s bytes)
marks-front s bytes = (told_signs (end_told s bytes), (reads s).ends bytes)

so_far-valid : (s : Spec) (moments : ℕ → ℕ) (bytes : List ℕ) → AreValid (signs_in (puts_so_far s moments bytes))
so_far-valid s moments bytes =
    valid_at (marks_so_far s bytes) (signs_in (puts_so_far s moments bytes)) (sym (so_far-in s moments bytes))
    (valid-front (marks_so_far s bytes) (told_signs (end_told s bytes))
    (valid_at (marks_of s bytes) (marks_so_far s bytes ++ told_signs (end_told s bytes)) ((reads s).ends bytes)
    ((laws s).valid bytes)))
  where
    valid_at : (ms ns : List Sign) → ms ≡ ns → AreValid ms → AreValid ns
    valid_at ms ns e h = ap (list_all is_valid) (sym e) ∙ h

known-front : (s : Spec) (xs ys : List ℕ) → IsFront xs ys → IsFront (marks_so_far s xs) (marks_so_far s ys)
known-front s xs ys f =
    let g = (reads s).stays xs f.0 in
    (known_signs g.0, ap (marks_so_far s) f.1 ∙ (ap known_signs g.1 ∙ known_signs-append (known s xs) g.0))

live-short : (t : Spec) (ps : List Put) → IsSpec t → suited (signs_in ps) ≡ true →
    length (live t ps) ≤ 1024 * length (signs_in ps) + 1024
live-short t ps is suits = omega (
  arith,
  front-length (live t ps) (written t ps) ((grows t).closes ps suits),
  (laws t).size is ps suits,
)

-- what is known of what is written so far is at most one mark more
live-one_more : (t : Spec) (ps : List Put) → IsSpec t → suited (signs_in ps) ≡ true → AreValid (signs_in ps) →
    length (marks_so_far t (live t ps)) ≤ length (signs_in ps) + 1
live-one_more t ps is suits valid =
    omega (
      arith,
      front-length (marks_so_far t (live t ps)) (marks_so_far t (written t ps))
          (known-front t (live t ps) (written t ps) ((grows t).closes ps suits)),
      front-length (marks_so_far t (written t ps)) (marks_of t (written t ps)) (marks-front t (written t ps)),
      (laws t).one_more is ps suits valid,
    )

pub early-by : (s : Spec) (specs : List Spec) (moments : ℕ → ℕ) (bytes : List ℕ) → AreSpecs specs →
    length (marks_so_far s bytes) + length specs ≤ 2 ^ 41 + 10 →
    length bytes ≤ 2 ^ 51 + 2 ^ 14 → IsEarly (links_from s specs) moments bytes
early-by s [] moments bytes are few short = short
early-by s (t ∷ ts) moments bytes are few short =
    let l : Link = record { reads = s; writes = t } in
    let ps : List Put = puts_so_far s moments bytes in
    let suits : suited (signs_in ps) ≡ true = suited-so_far s moments (reads s) bytes in
    let same : length (signs_in ps) ≡ length (marks_so_far s bytes) = ap length (so_far-in s moments bytes) in (
      short,
      early-by t ts (moments_on l moments bytes) (live t ps) are.1
          (omega (arith, live-one_more t ps are.0 suits (so_far-valid s moments bytes), few, same))
          (omega (arith, live-short t ps are.0 suits, few, same)),
    )

pub ends-early-by : (s : Spec) (specs : List Spec) (moments : ℕ → ℕ) (bytes : List ℕ) → AreSpecs specs →
    length (marks_of s bytes) + length specs ≤ 2 ^ 41 + 10 → EndsEarly (links_from s specs) moments bytes
ends-early-by s [] moments bytes are few = tt
ends-early-by s (t ∷ ts) moments bytes are few =
    let l : Link = record { reads = s; writes = t } in
    let ps : List Put = puts_of s moments bytes in
    let suits : suited (signs_in ps) ≡ true = hop-suits s moments bytes in
    let same : length (signs_in ps) ≡ length (marks_of s bytes) = ap length (hop-in s moments bytes) in
    let more : length (marks_of t (written t ps)) ≤ length (signs_in ps) + 1 = (laws t).one_more are.0 ps suits
    (hop-valid s moments bytes) in (
      early-by t ts (moments_all l moments bytes) (written t ps) are.1
          (omega (
            arith,
            front-length (marks_so_far t (written t ps)) (marks_of t (written t ps))
                (marks-front t (written t ps)),
            more,
            few,
            same,
          ))
          (omega (arith, (laws t).size are.0 ps suits, few, same)),
      ends-early-by t ts (moments_all l moments bytes) (written t ps) are.1 (omega (arith, more, few, same)),
    )

-- of an input of at most 2^40 bytes
pub chain-early : (s : Spec) (specs : List Spec) (moments : ℕ → ℕ) (bytes : List ℕ) → AreSpecs specs →
    length specs ≤ 10 → length bytes ≤ 2 ^ 40 → IsEarly (links_from s specs) moments bytes
chain-early s specs moments bytes are few short =
    early-by s specs moments bytes are (omega (
      arith,
      front-length (marks_so_far s bytes) (marks_of s bytes)
          (marks-front s bytes),
      (laws s).few bytes,
      few,
      short,
    )) (omega (arith, short))

pub chain-ends_early : (s : Spec) (specs : List Spec) (moments : ℕ → ℕ) (bytes : List ℕ) → AreSpecs specs →
    length specs ≤ 10 → length bytes ≤ 2 ^ 40 → EndsEarly (links_from s specs) moments bytes
chain-ends_early s specs moments bytes are few short = ends-early-by s specs moments bytes are
    (omega (arith, (laws s).few bytes, few, short))
