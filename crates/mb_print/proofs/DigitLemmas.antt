-- What the digits of a number are, seen from the last one.
use Rattle.std.proofs.Common.{◌≡◌, ℕ, ◌+◌, ◌*◌, ◌/◌, ◌%◌, ◌^◌, ◌<◌, ◌≤◌, List, [], ◌∷◌, ◌++◌, length, decimal, arith}
use Rattle.std.proofs.Common.{refl, ap, sym, ◌∙◌, length-append, ◌⊎◌, inl, inr, Option, Some, None}
use Rattle.std.proofs.lemmas.Fmt.{decimal_digit, decimal_step, decimal_nonempty}

tails : (x y : ℕ) (xs ys : List ℕ) → x ∷ xs ≡ y ∷ ys → xs ≡ ys
tails x y xs ys e = cc

heads : (x y : ℕ) (xs ys : List ℕ) → x ∷ xs ≡ y ∷ ys → x ≡ y
heads x y xs ys e = cc

-- lists that end alike
pub ends_alike : (xs ys : List ℕ) (x y : ℕ) → xs ++ x ∷ [] ≡ ys ++ y ∷ [] → (xs ≡ ys) × (x ≡ y)
ends_alike [] [] x y e = (refl, heads x y [] [] e)
ends_alike [] (b ∷ ys) x y e = absurd (omega (arith, ap length e, length-append ys (y ∷ [])))
ends_alike (a ∷ xs) [] x y e = absurd (omega (arith, ap length e, length-append xs (x ∷ [])))
ends_alike (a ∷ xs) (b ∷ ys) x y e =
    let rest = ends_alike xs ys x y (tails a b (xs ++ x ∷ []) (ys ++ y ∷ []) e) in
    (ap (λ c. c ∷ xs) (heads a b (xs ++ x ∷ []) (ys ++ y ∷ []) e) ∙ ap (λ cs. b ∷ cs) rest.0, rest.1)

-- a number has one digit, or those of its tens and one more
pub record Tens (front : List ℕ) (last n : ℕ) : Type 0 where
  pub some : 10 ≤ n
  pub front_is : front ≡ decimal (n / 10)
  pub last_is : last ≡ 48 + n % 10

pub record Ones (front : List ℕ) (last n : ℕ) : Type 0 where
  pub few : n < 10
  pub front_is : front ≡ []
  pub last_is : last ≡ 48 + n

pub split : (digits front : List ℕ) (last n : ℕ) → digits ≡ front ++ last ∷ [] → n < 2 ^ 64 → digits ≡ decimal n →
    Ones front last n ⊎ Tens front last n
split digits front last n cut small e = elim (decide n 10) [ inl few ↦ inl (one few) | inr some ↦ inr (more some) ]
  where
    decide : (a b : ℕ) → (a < b) ⊎ (b ≤ a)
    decide a b = grind arith

    one : n < 10 → Ones front last n
    one few =
        let same = ends_alike front [] last (48 + n) (sym cut ∙ (e ∙ decimal_digit n few)) in
        record { few = few; front_is = same.0; last_is = same.1 }

    more : 10 ≤ n → Tens front last n
    more some =
        let same = ends_alike front (decimal (n / 10)) last (48 + n % 10) (sym cut ∙ (e ∙ decimal_step n some small)) in
        record { some = some; front_is = same.0; last_is = same.1 }

-- one digit
pub one_digit_is : (digits front : List ℕ) (last n : ℕ) → digits ≡ front ++ last ∷ [] → front ≡ [] → last ≡ 48 + n →
    n < 10 → digits ≡ decimal n
one_digit_is digits front last n cut none is few = cut ∙ (ap (λ xs. xs ++ last ∷ []) none ∙ (ap (λ (d : ℕ). d ∷ []) is ∙
    sym (decimal_digit n few)))

-- one more digit
pub one_more_is : (digits front : List ℕ) (last tens ones : ℕ) → digits ≡ front ++ last ∷ [] → front ≡ decimal tens →
    last ≡ 48 + ones → 0 < tens → ones < 10 → 10 * tens + ones < 2 ^ 64 →
    digits ≡ decimal (10 * tens + ones)
one_more_is digits front last tens ones cut is last_is some few small =
    let n = 10 * tens + ones in
    let quotient : tens ≡ n / 10 = omega arith in
    let rest : ones ≡ n % 10 = omega arith in
    cut
    ∙ (ap (λ xs. xs ++ last ∷ []) (is ∙ ap decimal quotient)
    ∙ (ap (λ (d : ℕ). decimal (n / 10) ++ d ∷ []) (last_is ∙ ap (λ (d : ℕ). 48 + d) rest) ∙
    sym (decimal_step n (omega arith) small)))

pub decimal-some : (n : ℕ) → n < 2 ^ 64 → 0 < length (decimal n)
decimal-some n small = decimal_nonempty n small

pub none_left : (xs : List ℕ) → length xs ≡ 0 → xs ≡ []
none_left [] e = refl
none_left (x ∷ xs) e = absurd (omega (arith, e))

-- a single digit isn't two
pub not_tens : (front : List ℕ) (last n : ℕ) → n < 2 ^ 64 → length front ≡ 0 → Tens front last n → ⊥
not_tens front last n small none m = omega (
  arith,
  none,
  ap length m.front_is,
  decimal-some (n / 10) (omega (arith, small)),
)

pub not_ones : (front : List ℕ) (last n : ℕ) → 0 < length front → Ones front last n → ⊥
not_ones front last n some o = omega (arith, some, ap length o.front_is)

pub none_some : (r : Option ℕ) (n : ℕ) → r ≡ None → r ≡ Some n → ⊥
none_some r n e f = let same = sym e ∙ f in cc

pub some_is : (r : Option ℕ) (m n : ℕ) → r ≡ Some m → r ≡ Some n → m ≡ n
some_is r m n e f = let same = sym e ∙ f in cc
