-- A number in eight bytes, each by its own power of 256.
use Rattle.std.proofs.Common.{◌≡◌, ℕ, ◌/◌, ◌%◌, ◌<◌, List, [], ◌∷◌, ◌++◌, arith, append_assoc}
use Rattle.mb_frames.specs.Numbers.{spelled}

abbrev pub eight : ℕ → List ℕ
eight n =
    (n / 0x100000000000000 % 256) ∷ (n / 0x1000000000000 % 256) ∷ (n / 0x10000000000 % 256) ∷ (n / 0x100000000 % 256) ∷
    (n / 0x1000000 % 256) ∷ (n / 0x10000 % 256) ∷ (n / 0x100 % 256) ∷ (n % 256) ∷ []

pub eight-spelled : (n : ℕ) → eight n ≡ spelled 8 n
eight-spelled n =
    let two : n / 0x10000 ≡ n / 256 / 256 = omega arith in
    let three : n / 0x1000000 ≡ n / 256 / 256 / 256 = omega arith in
    let four : n / 0x100000000 ≡ n / 256 / 256 / 256 / 256 = omega arith in
    let five : n / 0x10000000000 ≡ n / 256 / 256 / 256 / 256 / 256 = omega arith in
    let six : n / 0x1000000000000 ≡ n / 256 / 256 / 256 / 256 / 256 / 256 = omega arith in
    let seven : n / 0x100000000000000 ≡ n / 256 / 256 / 256 / 256 / 256 / 256 / 256 = omega arith in
    λ i. (seven i % 256) ∷ (six i % 256) ∷ (five i % 256) ∷ (four i % 256) ∷ (three i % 256) ∷ (two i % 256) ∷
    (n / 256 % 256) ∷ (n % 256) ∷ []

pub three-more : (out e : List ℕ) (a b c : ℕ) → out ++ e ++ a ∷ [] ++ b ∷ [] ++ c ∷ [] ≡ out ++ (e ++ a ∷ b ∷ c ∷ [])
three-more out e a b c = simp append_assoc

pub two-bytes : (n : ℕ) → n / 256 < 256 → (n / 256) ∷ (n % 256) ∷ [] ≡ spelled 2 n
two-bytes n small = let high : n / 256 ≡ n / 256 % 256 = omega (arith, small) in λ i. high i ∷ (n % 256) ∷ []
