-- Of the first held marks that may pass, which is first.
use Rattle.std.proofs.Common.{◌≡◌, ℕ, zero, suc, ◌<◌, ◌≤◌, ◌⊎◌, inl, inr, Bool, true, false, nat_lt, if◌then◌else◌}
use Rattle.std.proofs.Common.{List, [], length, Option, Some, None, refl, sym, ◌∙◌, ap, subst, arith}
use Rattle.std.proofs.lemmas.Bool.Decides.{nat_tests}
use Rattle.std.proofs.lemmas.Option.{none-some}
use Rattle.mb_merge.specs.declared.source.Held.{Held}
use Rattle.mb_merge.specs.declared.waiting.Head.{Head}
use Rattle.std.specs.Prelude.{slice_get}
use Rattle.mb_merge.specs.Links.{Link, link_at}
use Rattle.mb_merge.specs.Passing.{better, least, least_below, may_pass, ready_by, ready_head}
use Rattle.mb_merge.specs.Calls.{IsLeast}

-- one comes before another
abbrev Before : (best other : Head) → (source : ℕ) → Type 0
Before best other source = (best.arrival < other.arrival) ⊎ ((best.arrival ≡ other.arrival) × (best.source ≤ source))

abbrev pub LeastBelow : List Link → ℕ → Option Head → Type 0
LeastBelow links count None = (source : ℕ) → source < count → ready_head links source ≡ None
LeastBelow links count (Some best) =
    (ready_head links best.source ≡ Some best)
    × (best.source < count)
    × ((source : ℕ) (other : Head) → source < count → ready_head links source ≡ Some other → Before best other source)

below_or_same : (at n : ℕ) → at < suc n → (at < n) ⊎ (at ≡ n)
below_or_same at n below = grind arith

-- a ready head names its source
ready_by-source : (links : List Link) (source : ℕ) (held : Option Held) (head : Head) → ready_by links source held ≡
    Some head → head.source ≡ source
ready_by-source links source None head is = absurd (none-some head is)
ready_by-source links source (Some h) head is = by_test (may_pass links source h.mark) is where
  by_test : (passes : Bool) → (if passes then Some (record { arrival = h.arrival; source = source }) else None) ≡
      Some head → head.source ≡ source
  by_test true same = let e : record { arrival = h.arrival; source = source } ≡ head = cc in ap (λ z. z.source) (sym e)
  by_test false same = absurd (none-some head same)

ready-source : (links : List Link) (source : ℕ) (head : Head) → ready_head links source ≡ Some head →
    head.source ≡ source
ready-source links source head is = ready_by-source links source (slice_get (link_at links source).held 0) head is

same_some : (a b : Head) → Some a ≡ Some b → a ≡ b
same_some a b h = cc

earlier_or_same : (a b : ℕ) → nat_lt b a ≡ false → (a < b) ⊎ (a ≡ b)
earlier_or_same a b h = grind (arith, nat_tests)

-- one more source
least-step : (links : List Link) (n : ℕ) (best next : Option Head) → ready_head links n ≡ next →
    LeastBelow links n best → LeastBelow links (suc n) (better best next)
least-step links n None None is none = λ source below. by_place source (below_or_same source n below) where
  by_place : (source : ℕ) → (source < n) ⊎ (source ≡ n) → ready_head links source ≡ None
  by_place source (inl earlier) = none source earlier
  by_place source (inr same) = subst (λ s. ready_head links s ≡ None) (sym same) is
least-step links n None (Some head) is none =
    let here : head.source ≡ n = ready-source links n head is in (
      subst (λ s. ready_head links s ≡ Some head) (sym here) is,
      omega (arith, here),
      λ source other below other_is.
          by_place source other other_is (below_or_same source n below),
    ) where
      by_place : (source : ℕ) (other : Head) → ready_head links source ≡ Some other → (source < n) ⊎ (source ≡ n) →
          Before head other source
      by_place source other other_is (inl earlier) = absurd (none-some other (sym (none source earlier) ∙ other_is))
      by_place source other other_is (inr same) =
          let equal : head ≡ other = same_some head other (sym is ∙ (ap (ready_head links) (sym same) ∙ other_is)) in
          inr (ap (λ z. z.arrival) equal, omega (arith, ready-source links n head is, same))
least-step links n (Some best) None is h = (
  h.0,
  omega (arith, h.1),
  λ source other below other_is. by_place source other other_is
      (below_or_same source n below),
) where
  by_place : (source : ℕ) (other : Head) → ready_head links source ≡ Some other → (source < n) ⊎ (source ≡ n) →
      Before best other source
  by_place source other other_is (inl earlier) = h.2 source other earlier other_is
  by_place source other other_is (inr same) = absurd (none-some other (sym is ∙ (ap (ready_head links) (sym same) ∙
      other_is)))
least-step links n (Some best) (Some head) is h = by_test (nat_lt head.arrival best.arrival) refl where
  here : head.source ≡ n
  here = ready-source links n head is

  earlier_ones : head.arrival < best.arrival → (source : ℕ) (other : Head) → Before best other source →
      Before head other source
  earlier_ones less source other b = elim b [ inl more ↦ inl (omega arith) | inr same ↦ inl (omega (arith, same.0)) ]

  first : head.arrival < best.arrival → (source : ℕ) (other : Head) → ready_head links source ≡ Some other →
      (source < n) ⊎ (source ≡ n) → Before head other source
  first less source other other_is (inl earlier) = earlier_ones less source other (h.2 source other earlier other_is)
  first less source other other_is (inr same) =
      let equal : head ≡ other = same_some head other (sym is ∙ (ap (ready_head links) (sym same) ∙ other_is)) in
      inr (ap (λ z. z.arrival) equal, omega (arith, here, same))

  later : nat_lt head.arrival best.arrival ≡ false → (source : ℕ) (other : Head) → ready_head links source ≡
      Some other → (source < n) ⊎ (source ≡ n) → Before best other source
  later not_less source other other_is (inl earlier) = h.2 source other earlier other_is
  later not_less source other other_is (inr same) =
      let equal : head.arrival ≡ other.arrival = ap (λ z. z.arrival) (same_some head other (sym is ∙
      (ap (ready_head links) (sym same) ∙ other_is))) in
      elim (earlier_or_same best.arrival head.arrival not_less) [
        | inl less ↦ inl (omega (arith, equal))
        | inr tied ↦ inr (tied ∙ equal, omega (arith, h.1, same))
      ]

  by_test : (less : Bool) → nat_lt head.arrival best.arrival ≡ less →
      LeastBelow links (suc n) (if less then Some head else Some best)
  by_test true is_less =
      let less : head.arrival < best.arrival = grind (arith, nat_tests) in (
        subst (λ s. ready_head links s ≡ Some head) (sym here) is,
        omega (arith, here),
        λ source other below other_is.
            first less source other other_is (below_or_same source n below),
      )
  by_test false not_less = (
    h.0,
    omega (arith, h.1),
    λ source other below other_is. later not_less source other other_is
        (below_or_same source n below),
  )

least_below-is : (links : List Link) (count : ℕ) → LeastBelow links count (least_below links count)
least_below-is links zero = λ source below. absurd (omega arith)
least_below-is links (suc n) = least-step links n (least_below links n) (ready_head links n) refl
    (least_below-is links n)

pub least-IsLeast : (links : List Link) → IsLeast links (least links)
least-IsLeast links = by_case (least links) (least_below-is links (length links)) where
  by_case : (best : Option Head) → LeastBelow links (length links) best → IsLeast links best
  by_case None h = h
  by_case (Some best) h = h

-- where nothing is held nothing is first
pub least_below-none : (links : List Link) (count : ℕ) → ((source : ℕ) → source < count → (link_at links source).held ≡
    []) → least_below links count ≡ None
least_below-none links zero none = refl
least_below-none links (suc n) none =
    let here : ready_head links n ≡ None = ap (λ z. ready_by links n (slice_get z 0)) (none n (omega arith)) in
    ap (λ z. better z (ready_head links n)) (least_below-none links n (λ source below. none source (omega arith))) ∙
    here
