-- Things at their places, put in order.
--
--   From n xs     all stand at n or after it
use Rattle.std.proofs.Common.{◌≡◌, ℕ, ◌+◌, ◌<◌, ◌≤◌, Bool, true, false, nat_le, nat_lt, List, [], ◌∷◌, ◌++◌}
use Rattle.std.proofs.Common.{if◌then◌else◌, refl, ap, ◌∙◌, arith}
use Rattle.std.proofs.lemmas.Bool.Decides.{nat_tests}
use Rattle.mb_usb.specs.Written.{Placed, at_place, put_at, by_place, before_place}

abbrev pub From : {X : Type 0} → ℕ → List (Placed X) → Type 0
From n [] = Unit {0}
From n (x ∷ xs) = (n ≤ x.place) × From n xs

module _ {X : Type 0} where
  pub From-less : (m n : ℕ) (xs : List (Placed X)) → m ≤ n → From n xs → From m xs
  From-less m n [] le f = tt
  From-less m n (x ∷ xs) le f = (let at : n ≤ x.place = f.0 in omega arith, From-less m n xs le f.1)

  pub From-append : (n : ℕ) (xs ys : List (Placed X)) → From n xs → From n ys → From n (xs ++ ys)
  From-append n [] ys f g = g
  From-append n (x ∷ xs) ys f g = (f.0, From-append n xs ys f.1 g)

  put_at-before : (x y : Placed X) (ys : List (Placed X)) → x.place ≤ y.place → put_at x (y ∷ ys) ≡ x ∷ y ∷ ys
  put_at-before x y ys le =
      let test : nat_le x.place y.place ≡ true = grind (arith, nat_tests) in
      ap (λ (t : Bool). if t then x ∷ y ∷ ys else y ∷ put_at x ys) test

  put_at-behind : (x y : Placed X) (ys : List (Placed X)) → y.place < x.place → put_at x (y ∷ ys) ≡ y ∷ put_at x ys
  put_at-behind x y ys lt =
      let test : nat_le x.place y.place ≡ false = grind (arith, nat_tests) in
      ap (λ (t : Bool). if t then x ∷ y ∷ ys else y ∷ put_at x ys) test

  put_at-first : (x : Placed X) (ys : List (Placed X)) → From x.place ys → put_at x ys ≡ x ∷ ys
  put_at-first x [] f = refl
  put_at-first x (y ∷ ys) f = put_at-before x y ys f.0

  From-put_at : (n : ℕ) (x : Placed X) (ys : List (Placed X)) → n ≤ x.place → From n ys → From n (put_at x ys)
  From-put_at n x [] le f = (le, tt)
  From-put_at n x (y ∷ ys) le f =
      let Goal : Bool → Type 0 = λ t. From n (if t then x ∷ y ∷ ys else y ∷ put_at x ys) in
      elim (nat_le x.place y.place) as Goal [ true ↦ (le, f) | false ↦ (f.0, From-put_at n x ys le f.1) ]

  pub From-by_place : (n : ℕ) (xs : List (Placed X)) → From n xs → From n (by_place xs)
  From-by_place n [] f = tt
  From-by_place n (x ∷ xs) f = From-put_at n x (by_place xs) f.0 (From-by_place n xs f.1)

  pub by_place-first : (x : Placed X) (bs : List (Placed X)) → From x.place bs → by_place (x ∷ bs) ≡ x ∷ by_place bs
  by_place-first x bs f = put_at-first x (by_place bs) (From-by_place x.place bs f)

  -- what stands before all else comes first
  pub by_place-front : (xs : List (Placed X)) (x : Placed X) (bs : List (Placed X)) → From (x.place + 1) xs →
      From x.place bs →
      by_place (xs ++ x ∷ bs) ≡ x ∷ by_place (xs ++ bs)
  by_place-front [] x bs f g = by_place-first x bs g
  by_place-front (y ∷ ys) x bs f g =
      let later : x.place < y.place = (let at : x.place + 1 ≤ y.place = f.0 in omega arith) in
      ap (put_at y) (by_place-front ys x bs f.1 g) ∙ put_at-behind y x (by_place (ys ++ bs)) later

  pub before_place-append : (n : ℕ) (xs ys : List (Placed X)) → before_place n (xs ++ ys) ≡ before_place n xs ++
      before_place n ys
  before_place-append n [] ys = refl
  before_place-append n (x ∷ xs) ys =
      let Goal : Bool → Type 0 = λ t.
      (if t then x ∷ before_place n (xs ++ ys) else before_place n (xs ++ ys)) ≡
      (if t then x ∷ before_place n xs else before_place n xs) ++ before_place n ys in
      elim (nat_lt x.place n) as Goal [
        | true ↦ ap (λ zs. x ∷ zs) (before_place-append n xs ys)
        | false ↦ before_place-append n xs ys
      ]

  -- several things at one place
  abbrev pub all_at : ℕ → List X → List (Placed X)
  all_at i [] = []
  all_at i (x ∷ xs) = at_place i x ∷ all_at i xs

  pub before_place-all : (n i : ℕ) (xs : List X) → i < n → before_place n (all_at i xs) ≡ all_at i xs
  before_place-all n i [] lt = refl
  before_place-all n i (x ∷ xs) lt =
      let test : nat_lt i n ≡ true = grind (arith, nat_tests) in
      ap (λ (t : Bool). if t then at_place i x ∷ before_place n (all_at i xs) else before_place n (all_at i xs)) test ∙
      ap (λ zs. at_place i x ∷ zs) (before_place-all n i xs lt)

  pub before_place-none : (n i : ℕ) (xs : List X) → n ≤ i → before_place n (all_at i xs) ≡ []
  before_place-none n i [] le = refl
  before_place-none n i (x ∷ xs) le =
      let test : nat_lt i n ≡ false = grind (arith, nat_tests) in
      ap (λ (t : Bool). if t then at_place i x ∷ before_place n (all_at i xs) else before_place n (all_at i xs)) test ∙
      before_place-none n i xs le
