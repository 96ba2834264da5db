-- Hexadecimal digits, from the last one on.
use Rattle.std.proofs.Common.{◌≡◌, ℕ, zero, suc, ◌-◌, ◌/◌, ◌%◌, ◌<◌, ◌≤◌, List, [], ◌∷◌, ◌++◌, sym, ◌∙◌, ap, arith}
use Rattle.std.proofs.Common.{append_assoc}
use Rattle.std.proofs.lemmas.List.{append-nil}
use Rattle.mb_smoke.specs.Texts.{hexadecimal, lower_digit}

pub hexadecimal_put : (line before now : List ℕ) (digits n digit : ℕ) → 0 < digits →
    before ≡ line ++ hexadecimal (digits - 1) (n / 16) → digit ≡ lower_digit (n % 16) → now ≡ before ++ digit ∷ [] →
    now ≡ line ++ hexadecimal digits n
unfolding hexadecimal
hexadecimal_put line before now zero n digit some before_is digit_is now_is = absurd (omega arith)
hexadecimal_put line before now (suc digits) n digit some before_is digit_is now_is =
    let e : suc digits - 1 ≡ digits = omega arith in
    now_is
    ∙ (ap (λ xs. xs ++ digit ∷ []) (before_is ∙ ap (λ d. line ++ hexadecimal d (n / 16)) e)
    ∙ (ap (λ d. (line ++ hexadecimal digits (n / 16)) ++ d ∷ []) digit_is
    ∙ append_assoc line (hexadecimal digits (n / 16)) (lower_digit (n % 16) ∷ [])))

pub hexadecimal_end : (line : List ℕ) (digits n : ℕ) → digits ≤ 0 → line ≡ line ++ hexadecimal digits n
unfolding hexadecimal
hexadecimal_end line zero n none = sym (append-nil line)
hexadecimal_end line (suc digits) n none = absurd (omega arith)
