-- The parts by counting, and that they are those of the frames that a list is cut into.
use Rattle.std.proofs.Common.{◌≡◌, ℕ, zero, suc, ◌+◌, ◌*◌, ◌≤◌, ◌==◌, Bool, false, if◌then◌else◌, List, [], ◌∷◌, ◌++◌}
use Rattle.std.proofs.Common.{length, map, take, drop, refl, sym, ◌∙◌, ap, arith, append_assoc}
use Rattle.std.proofs.lemmas.Bool.Decides.{nat_tests}
use Rattle.std.proofs.lemmas.List.{length-drop}
use Rattle.std.specs.List.{flat_map}
use Rattle.mb_frames.specs.Frames.{FramePart, FrameBegin, FrameByte, FrameEnd, framed_from, framed_parts, parts}
use Rattle.mb_frames.specs.Counting.{counted_parts, rest_parts}

pub rest_parts-zero : (bytes : List ℕ) → rest_parts 0 bytes ≡ FrameEnd ∷ counted_parts bytes
rest_parts-zero [] = refl
rest_parts-zero (high ∷ []) = refl
rest_parts-zero (high ∷ low ∷ bytes) = refl

pub rest_parts-append : (left : ℕ) (content more : List ℕ) (further : ℕ) → left ≡ length content + further →
    rest_parts left (content ++ more) ≡ map FrameByte content ++ rest_parts further more
rest_parts-append left [] more further is = ap (λ n. rest_parts n more) (is ∙ omega arith)
rest_parts-append zero (b ∷ bs) more further is = absurd (omega (arith, is))
rest_parts-append (suc left) (b ∷ bs) more further is =
    ap (λ z. FrameByte b ∷ z) (rest_parts-append left bs more further (omega (arith, is)))

-- a content of this length, as far as it stands there, its end, and what follows
abbrev ends : Bool → List FramePart
ends t = if t then FrameEnd ∷ [] else []

rest_parts-cut : (left : ℕ) (bytes : List ℕ) →
    rest_parts left bytes ≡ map FrameByte (take left bytes) ++ (ends (length (take left bytes) == left) ++
    counted_parts (drop left bytes))
rest_parts-cut zero bytes = rest_parts-zero bytes
rest_parts-cut (suc left) [] =
    let short : (0 == suc left) ≡ false = grind (arith, nat_tests) in
    ap (λ t. ends t ++ []) (sym short)
rest_parts-cut (suc left) (b ∷ bytes) =
    let same : (length (take left bytes) == left) ≡ (suc (length (take left bytes)) == suc left) =
    grind (arith, nat_tests) in
    ap (λ z. FrameByte b ∷ z)
    (rest_parts-cut left bytes ∙ ap (λ t. map FrameByte (take left bytes) ++
    (ends t ++ counted_parts (drop left bytes))) same)

by_most : (most : ℕ) (bytes : List ℕ) → length bytes ≤ most → flat_map framed_parts (framed_from most bytes) ≡
    counted_parts bytes
by_most zero [] few = refl
by_most zero (b ∷ bytes) few = absurd (omega (arith, few))
by_most (suc most) [] few = refl
by_most (suc most) (high ∷ []) few = refl
by_most (suc most) (high ∷ low ∷ bytes) few =
    let n = 256 * high + low in
    let content = map FrameByte (take n bytes) in
    let end = ends (length (take n bytes) == n) in
    let later = flat_map framed_parts (framed_from most (drop n bytes)) in
    let rest : later ≡ counted_parts (drop n bytes) = by_most most (drop n bytes)
    (omega (arith, few, length-drop n bytes)) in
    ap (λ z. FrameBegin n ∷ z)
    (append_assoc content end later ∙ (ap (λ z. content ++ (end ++ z)) rest ∙ sym (rest_parts-cut n bytes)))

pub parts-counted : (bytes : List ℕ) → parts bytes ≡ counted_parts bytes
parts-counted bytes = by_most (length bytes) bytes (omega arith)
