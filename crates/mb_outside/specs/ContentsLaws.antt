-- Laws of a desk's contents: equal entry by entry is equal, and two steps are one.
use Rattle.std.proofs.Common.{◌≡◌, ℕ, ◌+◌, List, [], ◌++◌, take, drop, refl, sym, ◌∙◌, ap, append_assoc, arith}
use Rattle.std.proofs.lemmas.List.{append-nil, drop-drop}
use Rattle.std.proofs.Math.Seq.{take-add}
use Rattle.std.proofs.lemmas.Bool.Decides.{nat_tests}
use Rattle.mb_outside.specs.Contents.{Contents, with_entry, after_read, after_write}

pub same_contents : (a b : Contents) → ((h : ℕ) → a.left h ≡ b.left h) → ((h : ℕ) → a.taken h ≡ b.taken h) →
    ((h : ℕ) → a.written h ≡ b.written h) → a.given ≡ b.given → a ≡ b
same_contents a b left taken written given = λ i. record {
  left = λ h. left h i;
  taken = λ h. taken h i;
  written = λ h. written h i;
  given = given i;
}

-- an entry that is put where it stands
pub with_entry-same : (entries : ℕ → List ℕ) (handle : ℕ) (bytes : List ℕ) (other : ℕ) → bytes ≡ entries handle →
    with_entry entries handle bytes other ≡ entries other
with_entry-same entries handle bytes other e = grind (arith, nat_tests)

-- the second of two that are put at one handle stays
pub with_entry-twice : (entries : ℕ → List ℕ) (handle : ℕ) (first second : List ℕ) (other : ℕ) →
    with_entry (with_entry entries handle first) handle second other ≡ with_entry entries handle second other
with_entry-twice entries handle first second other = grind (arith, nat_tests)

pub with_entry-here : (entries : ℕ → List ℕ) (handle : ℕ) (bytes : List ℕ) →
    with_entry entries handle bytes handle ≡ bytes
with_entry-here entries handle bytes = grind (arith, nat_tests)

pub after_write-none : (handle : ℕ) (c : Contents) → after_write handle [] c ≡ c
after_write-none handle c =
    same_contents (after_write handle [] c) c (λ h. refl) (λ h. refl)
    (λ h. with_entry-same c.written handle _ h (append-nil (c.written handle)))
    refl

pub after_write-twice : (handle : ℕ) (x y : List ℕ) (c : Contents) →
    after_write handle y (after_write handle x c) ≡ after_write handle (x ++ y) c
after_write-twice handle x y c =
    same_contents (after_write handle y (after_write handle x c)) (after_write handle (x ++ y) c) (λ h. refl)
    (λ h. refl)
    (λ h.
    with_entry-twice c.written handle (c.written handle ++ x) _ h
    ∙ ap (λ bytes. with_entry c.written handle bytes h)
    (ap (λ before. before ++ y) (with_entry-here c.written handle (c.written handle ++ x))
    ∙ append_assoc (c.written handle) x y))
    refl

-- what was taken in two steps
taken_twice : (m n : ℕ) (taken left all rest : List ℕ) → all ≡ taken ++ take n left → rest ≡ drop n left →
    all ++ take m rest ≡ taken ++ take (n + m) left
taken_twice m n taken left all rest e f =
    ap (λ xs. xs ++ take m rest) e
    ∙ (ap (λ xs. (taken ++ take n left) ++ take m xs) f
    ∙ (append_assoc taken (take n left) (take m (drop n left)) ∙ ap (λ xs. taken ++ xs) (sym (take-add n m left))))

pub after_read-none : (handle : ℕ) (c : Contents) → after_read handle 0 c ≡ c
after_read-none handle c =
    same_contents (after_read handle 0 c) c
    (λ h. with_entry-same c.left handle _ h refl)
    (λ h. with_entry-same c.taken handle _ h (append-nil (c.taken handle)))
    (λ h. refl)
    refl

pub after_read-twice : (handle m n : ℕ) (c : Contents) →
    after_read handle m (after_read handle n c) ≡ after_read handle (n + m) c
after_read-twice handle m n c =
    same_contents (after_read handle m (after_read handle n c)) (after_read handle (n + m) c)
    (λ h.
    with_entry-twice c.left handle (drop n (c.left handle)) _ h
    ∙ ap (λ bytes. with_entry c.left handle bytes h)
    (ap (drop m) (with_entry-here c.left handle (drop n (c.left handle))) ∙ drop-drop m n (c.left handle)))
    (λ h.
    with_entry-twice c.taken handle (c.taken handle ++ take n (c.left handle)) _ h
    ∙ ap (λ bytes. with_entry c.taken handle bytes h)
    (taken_twice m n (c.taken handle) (c.left handle) _ _
    (with_entry-here c.taken handle (c.taken handle ++ take n (c.left handle)))
    (with_entry-here c.left handle (drop n (c.left handle)))))
    (λ h. refl)
    refl
