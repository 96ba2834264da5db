-- Numbers in words: the one that a word is in decimal is found, and it is the only one.
use Rattle.std.proofs.Common.{◌≡◌, ◌≢◌, ℕ, zero, suc, ◌+◌, ◌<◌, ◌≤◌, Bool, true, false, ◌==◌, if◌then◌else◌, List}
use Rattle.std.proofs.Common.{Option}
use Rattle.std.proofs.Common.{Some, None, decimal, refl, sym, ◌∙◌, ap, arith}
use Rattle.std.proofs.lemmas.Bool.Decides.{nat_tests}
use Rattle.std.proofs.lemmas.Slice.Eq.{bytes_eq-Decides}
use Rattle.std.specs.Str.{bytes_eq}
use Rattle.mb_filter.specs.Parsed.{number_from, count_of}

differs : (xs ys : List ℕ) → (xs ≡ ys → ⊥) → bytes_eq xs ys ≡ false
differs xs ys other = by (bytes_eq xs ys) refl where
  by : (t : Bool) → bytes_eq xs ys ≡ t → t ≡ false
  by true h = absurd (other ((bytes_eq-Decides xs ys).0 h))
  by false h = refl

absent : (n many : ℕ) (w : List ℕ) → ((k : ℕ) → n ≤ k → k < n + many → w ≡ decimal k → ⊥) →
    number_from n many w ≡ None
unfolding number_from
absent n zero w none = refl
absent n (suc many) w none =
    let e : bytes_eq w (decimal n) ≡ false = differs w (decimal n) (none n (omega arith) (omega arith)) in
    ap (λ (t : Bool). if t then Some n else number_from (n + 1) many w) e ∙
    absent (n + 1) many w (λ k low high is. none k (omega (arith, low)) (omega (arith, high)) is)

found : (n many k : ℕ) (w : List ℕ) → n ≤ k → k < n + many → w ≡ decimal k →
    ((j : ℕ) → j < n + many → w ≡ decimal j → j ≡ k) → number_from n many w ≡ Some k
unfolding number_from
found n zero k w low high is only = absurd (omega (arith, low, high))
found n (suc many) k w low high is only =
    by (n == k) refl (λ above. found (n + 1) many k w above (omega (arith, high)) is
    (λ j below e. only j (omega (arith, below)) e)) where
      rest : Bool → Option ℕ
      rest t = if t then Some n else number_from (n + 1) many w

      by : (t : Bool) → (n == k) ≡ t → (n + 1 ≤ k → number_from (n + 1) many w ≡ Some k) →
          rest (bytes_eq w (decimal n)) ≡ Some k
      by true h further =
          let same : n ≡ k = grind (arith, nat_tests) in
          ap rest ((bytes_eq-Decides w (decimal n)).1 (is ∙ ap decimal (sym same))) ∙ ap Some same
      by false h further =
          let other : n ≢ k = grind (arith, nat_tests) in
          ap rest (differs w (decimal n) (λ e. other (only n (omega arith) e))) ∙
          further (omega (arith, low, other))

-- what is told of a number that was read: it is the only one up to the most
abbrev IsOnly : (most : ℕ) → List ℕ → Option ℕ → Type 0
IsOnly most w r = (k : ℕ) → k ≤ most → w ≡ decimal k → r ≡ Some k

none-some : (n : ℕ) → None ≡ Some n → ⊥
none-some n h = cc

some-same : (a b : ℕ) → Some a ≡ Some b → a ≡ b
some-same a b h = cc

pub count-none : (most : ℕ) (w : List ℕ) → IsOnly most w None → None ≡ count_of most w
count-none most w only =
    sym (absent 1 most w (λ k low high is. none-some k (only k (omega (arith, high)) is)))

pub count-zero : (most n : ℕ) (w : List ℕ) → n ≡ 0 → IsOnly most w (Some n) → None ≡ count_of most w
count-zero most n w nothing only =
    sym (absent 1 most w (λ k low high is.
    let same : n ≡ k = some-same n k (only k (omega (arith, high)) is) in
    absurd (omega (arith, low, same, nothing))))

pub count-some : (most n : ℕ) (w : List ℕ) → 0 < n → n ≤ most → w ≡ decimal n → IsOnly most w (Some n) →
    Some n ≡ count_of most w
count-some most n w low high is only =
    sym (found 1 most n w (omega (arith, low)) (omega (arith, high)) is
    (λ j below e. sym (some-same n j (only j (omega (arith, below)) e))))
