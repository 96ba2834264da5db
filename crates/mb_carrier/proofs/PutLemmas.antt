-- Marks with their moments, and without.
use Rattle.std.proofs.Common.{◌≡◌, ℕ, ◌+◌, List, [], ◌∷◌, ◌++◌, map, length, refl, sym, ◌∙◌, ap, ap₂, subst}
use Rattle.std.proofs.Common.{append_assoc, arith, length-append}
use Rattle.mb_message.specs.Signs.{Sign}
use Rattle.mb_stream.specs.Told.{Known, Told, Marks, Notes}
use Rattle.mb_stream.specs.Reading.{sign_in}
use Rattle.mb_stream.specs.Appended.{Appended}
use Rattle.mb_stream.proofs.AppendedLemmas.{Appended-behind, Appended-nothing}
use Rattle.mb_stream.specs.Puts.{Put, At, Flush, signs_in, puts_at}
use Rattle.mb_stream.specs.Order.{Each}
use Rattle.mb_stream.proofs.PutsLemmas.{signs_in-append, signs_in-at, signs_in-more, signs_in-flush}
use Rattle.mb_stream.specs.Reading.{told_signs}
use Rattle.mb_carrier.specs.Carrier.{known, known_signs, end_told, marks_of, marks_so_far, moment_of, put_in}
use Rattle.mb_carrier.specs.Carrier.{puts_known, puts_so_far, puts_of, end_moment}
use Rattle.mb_carrier.specs.Hop.{IsAtMoment, HaveMoment, Puts}
use Rattle.mb_carrier.specs.declared.spec.Spec.{Spec}

pub puts_known-append : (s : Spec) (moments : ℕ → ℕ) (xs ys : List Known) →
    puts_known s moments (xs ++ ys) ≡ puts_known s moments xs ++ puts_known s moments ys
puts_known-append s moments [] ys = refl
puts_known-append s moments (x ∷ xs) ys =
    ap (λ ps. put_in (moment_of s moments x) x.told ++ ps) (puts_known-append s moments xs ys)
    ∙ sym (append_assoc (put_in (moment_of s moments x) x.told) (puts_known s moments xs) (puts_known s moments ys))

one_at : (m n : ℕ) (t : Told) → IsAtMoment m n t → put_in n t ≡ puts_at m (sign_in t)
one_at m n (Marks s) e = ap (λ k. At k s ∷ []) e
one_at m n (Notes at kind) e = refl

pub puts_at-append : (m : ℕ) (xs ys : List Sign) → puts_at m (xs ++ ys) ≡ puts_at m xs ++ puts_at m ys
puts_at-append m [] ys = refl
puts_at-append m (x ∷ xs) ys = ap (λ ps. At m x ∷ ps) (puts_at-append m xs ys)

-- all of one moment
pub puts_known-at : (s : Spec) (moments : ℕ → ℕ) (m : ℕ) (ks : List Known) →
    Each (λ k. IsAtMoment m (moment_of s moments k) k.told) ks →
    puts_known s moments ks ≡ puts_at m (told_signs (map (λ k. k.told) ks))
puts_known-at s moments m [] e = refl
puts_known-at s moments m (k ∷ ks) e =
    ap₂ (λ xs ys. xs ++ ys) (one_at m (moment_of s moments k) k.told e.0) (puts_known-at s moments m ks e.1)
    ∙ sym (puts_at-append m (sign_in k.told) (told_signs (map (λ k. k.told) ks)))

pub known_signs-append : (xs ys : List Known) → known_signs (xs ++ ys) ≡ known_signs xs ++ known_signs ys
known_signs-append [] ys = refl
known_signs-append (x ∷ xs) ys = ap (λ ms. sign_in x.told ++ ms) (known_signs-append xs ys)
    ∙ sym (append_assoc (sign_in x.told) (known_signs xs) (known_signs ys))

sign_in-put : (n : ℕ) (t : Told) → signs_in (put_in n t) ≡ sign_in t
sign_in-put n (Marks s) = refl
sign_in-put n (Notes at kind) = refl

pub known_signs-in : (s : Spec) (moments : ℕ → ℕ) (ks : List Known) →
    signs_in (puts_known s moments ks) ≡ known_signs ks
known_signs-in s moments [] = refl
known_signs-in s moments (k ∷ ks) =
    signs_in-append (put_in (moment_of s moments k) k.told) (puts_known s moments ks)
    ∙ ap₂ (λ xs ys. xs ++ ys) (sign_in-put (moment_of s moments k) k.told) (known_signs-in s moments ks)

pub so_far-in : (s : Spec) (moments : ℕ → ℕ) (bytes : List ℕ) →
    signs_in (puts_so_far s moments bytes) ≡ marks_so_far s bytes
so_far-in s moments bytes = known_signs-in s moments (known s bytes)

-- the marks of the reading, where they are those that are known and those of its end
pub puts_of-in : (s : Spec) (moments : ℕ → ℕ) (bytes : List ℕ) →
    marks_of s bytes ≡ marks_so_far s bytes ++ told_signs (end_told s bytes) →
    signs_in (puts_of s moments bytes) ≡ marks_of s bytes
puts_of-in s moments bytes ends =
    signs_in-append (puts_so_far s moments bytes) (puts_at (end_moment s moments bytes) (told_signs (end_told s bytes)))
    ∙ (ap₂ (λ xs ys. xs ++ ys) (so_far-in s moments bytes)
    (signs_in-at (end_moment s moments bytes) (told_signs (end_told s bytes))) ∙ sym ends)

-- what is left of a piece has its moment
pub moments-left : (moments : ℕ → ℕ) (moment : ℕ) (bytes piece taken rest : List ℕ) → piece ≡ taken ++ rest →
    HaveMoment moments (length bytes) (length piece) moment →
    HaveMoment moments (length (bytes ++ taken)) (length rest) moment
moments-left moments moment bytes piece taken rest cut h = λ i low high.
    let a : length piece ≡ length taken + length rest = ap length cut ∙ length-append taken rest in
    let b : length (bytes ++ taken) ≡ length bytes + length taken = length-append bytes taken in
    h i (omega (arith, b, low)) (omega (arith, a, b, high))

-- what a writer that knows no moments says of its marks
pub stands-by : (was now : List Sign → Type 0) (moment : ℕ) (signs : List Sign) →
    ((marks : List Sign) → was marks → now (marks ++ signs)) →
    (puts : List Put) → was (signs_in puts) → now (signs_in (puts ++ puts_at moment signs))
stands-by was now moment signs says puts w = subst now (sym (signs_in-more puts moment signs)) (says (signs_in puts) w)

pub written-by : (live : List Sign → List ℕ) (was : List Sign → Type 0) (moment : ℕ) (signs : List Sign)
    (held kept : List ℕ) →
    ((marks : List Sign) → was marks → Appended held kept (live marks) (live (marks ++ signs))) →
    (puts : List Put) → was (signs_in puts) →
    Appended held kept (live (signs_in puts)) (live (signs_in (puts ++ puts_at moment signs)))
written-by live was moment signs held kept says puts w =
    subst (λ (marks : List Sign). Appended held kept (live (signs_in puts)) (live marks))
    (sym (signs_in-more puts moment signs)) (says (signs_in puts) w)

-- a flush that does nothing
pub flush_stands-by : (was : List Sign → Type 0) (puts : List Put) → was (signs_in puts) →
    was (signs_in (puts ++ Flush ∷ []))
flush_stands-by was puts w = subst was (sym (signs_in-flush puts)) w

pub flush_written-by : (live : List Sign → List ℕ) (held : List ℕ) (puts : List Put) →
    Appended held held (live (signs_in puts)) (live (signs_in (puts ++ Flush ∷ [])))
flush_written-by live held puts =
    subst (λ (marks : List Sign). Appended held held (live (signs_in puts)) (live marks)) (sym (signs_in-flush puts))
    (Appended-nothing held (live (signs_in puts)))

-- what a writer says of its puts, from any bytes that were handed on before
pub puts-all : (live : List Put → List ℕ) (was now : List Put → Type 0) (puts : List Put) (held kept : List ℕ) →
    ((before : List Put) → was before → now (before ++ puts)) →
    ((before : List Put) → was before → Appended held kept (live before) (live (before ++ puts))) →
    (before : List Put) (base : List ℕ) → was before → live before ≡ base ++ held →
    Puts live was now puts held kept before base
puts-all live was now puts held kept stands appends before base w e = record {
  stands = stands before w;
  bytes = sym (Appended-behind base held kept (live before) (live (before ++ puts)) (sym e) (appends before w));
}
