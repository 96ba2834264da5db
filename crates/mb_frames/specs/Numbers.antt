-- Numbers as the project's file forms have them: bytes, the most significant first.
--
--   number bytes         what bytes say
--   spelled count n      a number in so many bytes
use Rattle.std.specs.Prelude.{ℕ, zero, suc, ◌+◌, ◌*◌, ◌/◌, ◌%◌, List, [], ◌∷◌, ◌++◌}

-- the bytes before are known
abbrev pub number_from : ℕ → List ℕ → ℕ
number_from n [] = n
number_from n (b ∷ bs) = number_from (256 * n + b) bs

abbrev pub number : List ℕ → ℕ
number bytes = number_from 0 bytes

abbrev pub spelled : (count n : ℕ) → List ℕ
spelled zero n = []
spelled (suc count) n = spelled count (n / 256) ++ (n % 256) ∷ []
