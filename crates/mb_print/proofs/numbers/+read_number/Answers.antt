use Rattle.std.proofs.Common.{◌<◌, ◌^◌, ◌/◌, length, ap, arith, inl, inr, Some}
use Rattle.std.proofs.lemmas.Grind.{common_steps}
use Rattle.mb_print.proofs.DigitLemmas.{split, one_digit_is, one_more_is, decimal-some, none_left, not_tens, not_ones}
use Rattle.mb_print.proofs.DigitLemmas.{none_some, some_is}
use Rattle.mb_print.proofs.numbers.+read_number.Goals as goal
use Rattle.mb_print.proofs.numbers.+read_number.Goals.{then-tens-eq0-via-then-tens-eq0}
use Rattle.mb_print.proofs.numbers.+read_number.Goals.{then-tens-eq0-via-else-tens-eq0+then-most-tens}

pub returns-in_default-clause-only : goal.returns-in_default-clause-only
returns-in_default-clause-only t c = λ n most e.
    absurd (omega (
      arith,
      c.in_default.ensures.cases,
      ap length e,
      decimal-some n (omega (arith, most, c.ranges.most.fits)),
    ))

pub returns-then-not-is_ascii_digit-clause-only : goal.returns-then-not-is_ascii_digit-clause-only
returns-then-not-is_ascii_digit-clause-only t c = λ n most e.
    elim (split _ _ _ n c.in-Some.ensures.cases.0 (omega (arith, most, c.ranges.most.fits)) e) [
      | inl o ↦ absurd (grind (arith, common_steps, o.last_is, o.few))
      | inr m ↦ absurd (grind (arith, common_steps, m.last_is))
    ]

pub returns-then-ones-most-clause-digits : goal.returns-then-ones-most-clause-digits
returns-then-ones-most-clause-digits t c =
    one_digit_is _ _ _ _ c.in-Some.ensures.cases.0 (none_left _ (grind (arith, common_steps)))
    (grind (arith, common_steps)) (grind (arith, common_steps))

pub returns-then-ones-most-clause-only : goal.returns-then-ones-most-clause-only
returns-then-ones-most-clause-only t c = λ n most e.
    let small : n < 2 ^ 64 = omega (arith, most, c.ranges.most.fits) in
    elim (split _ _ _ n c.in-Some.ensures.cases.0 small e) [
      | inl o ↦ ap Some (grind (arith, common_steps, o.last_is, o.few))
      | inr m ↦ absurd (not_tens _ _ n small (grind (arith, common_steps)) m)
    ]

pub returns-else-ones-most-clause-only : goal.returns-else-ones-most-clause-only
returns-else-ones-most-clause-only t c = λ n most e.
    let small : n < 2 ^ 64 = omega (arith, most, c.ranges.most.fits) in
    elim (split _ _ _ n c.in-Some.ensures.cases.0 small e) [
      | inl o ↦ absurd (grind (arith, common_steps, o.last_is, o.few, most))
      | inr m ↦ absurd (not_tens _ _ n small (grind (arith, common_steps)) m)
    ]

pub returns-in_default-read_number-clause-only : goal.returns-in_default-read_number-clause-only
returns-in_default-read_number-clause-only t c = λ n most e.
    let small : n < 2 ^ 64 = omega (arith, most, c.ranges.most.fits) in
    elim (split _ _ _ n c.in-Some.ensures.cases.0 small e) [
      | inl o ↦ absurd (not_ones _ _ n (grind (arith, common_steps)) o)
      | inr m ↦ absurd (none_some _ _ c.in_default-read_number.is (c.read_number.ensures.only (n / 10)
          (omega (arith, most)) m.front_is))
    ]

pub returns-then-tens-eq0-clause-only : goal.returns-then-tens-eq0-clause-only
returns-then-tens-eq0-clause-only t c = λ n most e.
    let small : n < 2 ^ 64 = omega (arith, most, c.ranges.most.fits) in
    elim (split _ _ _ n c.in-Some.ensures.cases.0 small e) [
      | inl o ↦ absurd (not_ones _ _ n (grind (arith, common_steps)) o)
      | inr m ↦ let tens = some_is _ _ _ c.in-Some-read_number.is (c.read_number.ensures.only (n / 10)
          (omega (arith, most)) m.front_is) in elim c.then-tens-eq0.branch [
            | then-tens-eq0-via-then-tens-eq0 w ↦ absurd
                (grind (arith, common_steps, w, m.some, m.last_is, tens))
            | then-tens-eq0-via-else-tens-eq0+then-most-tens w ↦
                absurd (grind (arith, common_steps, w, m.last_is, tens))
          ]
    ]

pub returns-clause-digits : goal.returns-clause-digits
returns-clause-digits t c =
    one_more_is _ _ _ _ _ c.in-Some.ensures.cases.0 c.in-Some-read_number.ensures.digits (grind (arith, common_steps))
    (grind (arith, common_steps)) (grind (arith, common_steps)) (grind (arith, common_steps))

pub returns-clause-only : goal.returns-clause-only
returns-clause-only t c = λ n most e.
    let small : n < 2 ^ 64 = omega (arith, most, c.ranges.most.fits) in
    elim (split _ _ _ n c.in-Some.ensures.cases.0 small e) [
      | inl o ↦ absurd (not_ones _ _ n (grind (arith, common_steps)) o)
      | inr m ↦ ap Some (grind (
        arith,
        common_steps,
        m.last_is,
        some_is _ _ _ c.in-Some-read_number.is
            (c.read_number.ensures.only (n / 10) (omega (arith, most)) m.front_is),
      ))
    ]
