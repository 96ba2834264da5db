-- What was taken in two steps was taken; and parts of lists.
use Rattle.std.proofs.Common.{◌≡◌, ℕ, Bool, List, [], ◌++◌, length, IsTrue, refl, sym, ◌∙◌, ap, append_assoc}
use Rattle.std.proofs.Common.{take, drop, arith, length-append}
use Rattle.std.proofs.lemmas.List.{take-append-drop}
use Rattle.mb_outside.specs.Contents.{Contents, after_write}
use Rattle.mb_outside.specs.ContentsLaws.{after_write-none, after_write-twice}
use Rattle.mb_message.specs.Front.{IsFront, IsPart}
use Rattle.mb_outside.specs.Taking.{Wrote}

pub Wrote-nothing : {S : Type 0} (tells : Bool) (contents : S → Contents) (read_faults : S → ℕ) (handle : ℕ)
    (at : S) → Wrote tells contents read_faults handle at [] at
Wrote-nothing tells contents read_faults handle at =
    record { contents_are = λ _. sym (after_write-none handle (contents at)); reads_same = refl }

pub Wrote-both : {S : Type 0} (tells : Bool) (contents : S → Contents) (read_faults : S → ℕ) (handle : ℕ) (a b c : S)
    (x y : List ℕ) → Wrote tells contents read_faults handle a x b → Wrote tells contents read_faults handle b y c →
    Wrote tells contents read_faults handle a (x ++ y) c
Wrote-both tells contents read_faults handle a b c x y ab bc =
    record {
      contents_are = λ told. bc.contents_are told
          ∙ (ap (after_write handle y) (ab.contents_are told) ∙ after_write-twice handle x y (contents a));
      reads_same = bc.reads_same ∙ ab.reads_same;
    }

-- one more write of some first bytes of what is left
pub Wrote-more : {S : Type 0} (tells : Bool) (contents : S → Contents) (read_faults : S → ℕ) (handle : ℕ)
    (start mid after : S) (piece rest left : List ℕ) (count : ℕ) →
    ((done : List ℕ) × (piece ≡ done ++ rest) × Wrote tells contents read_faults handle start done mid) →
    left ≡ drop count rest →
    (IsTrue tells → contents after ≡ after_write handle (take count rest) (contents mid)) →
    read_faults after ≡ read_faults mid →
    (done : List ℕ) × (piece ≡ done ++ left) × Wrote tells contents read_faults handle start done after
Wrote-more tells contents read_faults handle start mid after piece rest left count so_far left_is wrote reads = (
  so_far.0 ++ take count rest,
  so_far.1 ∙ (ap (λ xs. so_far.0 ++ xs) (sym (take-append-drop count rest) ∙ ap (λ xs. take count rest ++ xs)
      (sym left_is)) ∙ sym (append_assoc so_far.0 (take count rest) left)),
  Wrote-both tells contents read_faults handle start mid after so_far.0 (take count rest) so_far.2
      (record { contents_are = wrote; reads_same = reads }),
)

-- parts

pub part-front : {A : Type 0} (xs ys : List A) → IsPart xs ys → IsFront xs ys
part-front xs ys p = (p.0, p.1)

pub part-within : {A : Type 0} (xs ys zs : List A) → IsPart xs ys → IsFront ys zs → IsPart xs zs
part-within xs ys zs p f = (
  p.0 ++ f.0,
  f.1
      ∙ (ap (λ us. us ++ f.0) p.1 ∙ append_assoc xs p.0 f.0),
  omega (arith, length-append p.0 f.0, p.2),
)

pub part-behind : {A : Type 0} (start xs ys : List A) → IsPart xs ys → IsPart (start ++ xs) (start ++ ys)
part-behind start xs ys p = (p.0, ap (λ us. start ++ us) p.1 ∙ sym (append_assoc start xs p.0), p.2)

pub part-differs : {A : Type 0} (xs ys : List A) → IsPart xs ys → xs ≡ ys → ⊥
part-differs xs ys p e = omega (arith, ap length p.1, length-append xs p.0, ap length e, p.2)
