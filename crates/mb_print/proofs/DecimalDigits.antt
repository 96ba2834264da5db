-- A number's digits: the last one stands behind those of the number without it, and there are at most 20.
use Rattle.std.proofs.Common.{◌≡◌, ℕ, ◌+◌, ◌/◌, ◌%◌, ◌^◌, ◌<◌, ◌≤◌, List, [], ◌∷◌, ◌++◌, length, decimal, arith, ap}
use Rattle.std.proofs.Common.{sym, ◌∙◌, length-append}
use mathlib.Core.List.{append_assoc}
use Rattle.std.proofs.lemmas.Fmt.{decimal_digit, decimal_step, length-decimal-le}

-- a number's last digit stands behind the number of the others
pub last_digit : (before : List ℕ) (n : ℕ) → 10 ≤ n → n < 2 ^ 64 → before ++ decimal (n / 10) ++ (48 + n % 10) ∷ [] ≡
    before ++ decimal n
last_digit before n two_digits small =
    append_assoc before (decimal (n / 10)) ((48 + n % 10) ∷ []) ∙
    ap (λ ds. before ++ ds) (sym (decimal_step n two_digits small))

pub only_digit : (before : List ℕ) (n : ℕ) → n < 10 → before ++ (48 + n) ∷ [] ≡ before ++ decimal n
only_digit before n small = ap (λ ds. before ++ ds) (sym (decimal_digit n small))

pub one_digit_more : (n : ℕ) → 10 ≤ n → n < 2 ^ 64 → length (decimal n) ≡ length (decimal (n / 10)) + 1
one_digit_more n two_digits small = ap length (decimal_step n two_digits small) ∙ length-append (decimal (n / 10))
    ((48 + n % 10) ∷ [])

pub one_digit : (n : ℕ) → n < 10 → length (decimal n) ≡ 1
one_digit n small = ap length (decimal_digit n small)

-- the digits of 2 ^ 64 - 1
pub at_most_20 : (n : ℕ) → n < 2 ^ 64 → length (decimal n) ≤ 20
at_most_20 n small = length-decimal-le 20 n (omega arith) (omega arith) small
