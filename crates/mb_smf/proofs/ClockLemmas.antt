-- The sum is the division times the moment, and a rest.
use Rattle.std.proofs.Common.{◌≡◌, ℕ, ◌+◌, ◌*◌, ◌/◌, ◌%◌, ◌<◌, true, false, nat_lt, sym, ◌∙◌, ap, arith}
use Rattle.std.proofs.lemmas.Bool.Decides.{nat_tests}
use Rattle.std.proofs.Math.Nat.{mul-add-div, div-add-mod}
use Rattle.mb_smf.specs.TrackTime.{TrackTime, track_moment, ticks_later}

pub moment-later : (d m r x : ℕ) → 0 < d → (d * m + r + x) / d ≡ m + (x + r) / d
moment-later d m r x some =
    let e : d * m + r + x ≡ d * m + (x + r) = omega arith in
    ap (λ n. n / d) e ∙ mul-add-div some m (x + r)

pub sum-later : (d m r x : ℕ) → d * (m + (x + r) / d) + (x + r) % d ≡ d * m + r + x
sum-later d m r x = omega (arith, div-add-mod (x + r) d)

pub pass-moment : (time : TrackTime) (d t m r k q : ℕ) → record { division = d; tempo = t; sum = d * m + r } ≡ time → r
    < d → q ≡ (k * t + r) / d →
    track_moment (ticks_later time k) ≡ m + q
pass-moment time d t m r k q is low q_is =
    ap (λ z. track_moment (ticks_later z k)) (sym is) ∙ (moment-later d m r (k * t) (omega (arith, low)) ∙ ap (λ n. m +
    n) (sym q_is))

pub pass-state : (time : TrackTime) (d t m r k q : ℕ) → record { division = d; tempo = t; sum = d * m + r } ≡ time → q ≡
    (k * t + r) / d → (rest now : ℕ) →
    rest ≡ (k * t + r) % d → now ≡ m + q → record { division = d; tempo = t; sum = d * now + rest } ≡ ticks_later time k
pass-state time d t m r k q is q_is rest now rest_is now_is =
    let e : d * now + rest ≡ d * m + r + k * t =
    ap (λ n. d * n + rest) (now_is ∙ ap (λ n. m + n) q_is) ∙ (ap (λ n. d * (m + (k * t + r) / d) + n) rest_is ∙
    sum-later d m r (k * t)) in
    ap (λ n. record { division = d; tempo = t; sum = n }) e ∙ ap (λ z. ticks_later z k) is

pub lower : (a b n : ℕ) → a ≡ b → b < n → true ≡ nat_lt a n
lower a b n is low = grind (arith, nat_tests)

pub not-lower : (a b n : ℕ) → a ≡ b → (b < n → ⊥) → false ≡ nat_lt a n
not-lower a b n is high = grind (arith, nat_tests)
