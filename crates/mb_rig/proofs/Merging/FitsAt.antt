-- From what is known of overtaken marks to the third part of merged, line by line.
use Rattle.std.proofs.Common.{◌≡◌, ℕ, suc, Bool, true, false, Some, List, [], ◌∷◌, take, refl, sym, subst}
use Rattle.std.specs.Prelude.{not, ◌&&◌, ◌||◌, ◌==◌, nat_lt, slice_get, if◌then◌else◌}
use Rattle.mb_rig.specs.Merging.Lines.{is_realtime, Line}
use Rattle.mb_rig.specs.Merging.Report.{Passing, may_hold}
use Rattle.mb_rig.specs.Merging.Merged.{realtimes_fit, overtakes}
use Rattle.mb_rig.proofs.Merging.Lateness.{true≢false}

-- whether a line before x fits, by the lines between them
abbrev pub fits_at : List (ℕ × ℕ) → Line → Bool → Passing → Bool
fits_at routes x held p =
    not (p.line.source == x.source)
    || (if is_realtime x.event
    then is_realtime p.line.event || nat_lt p.line.place x.place
    else not (is_realtime p.line.event) || (nat_lt p.line.place x.place || held))

and_true : (a b : Bool) → a ≡ true → b ≡ true → (a && b) ≡ true
and_true true b e f = f
and_true false b e f = absurd (true≢false (sym e))

turned : (a b c : Bool) → ((a || b) || c) ≡ (b || (a || c))
turned true true c = refl
turned true false c = refl
turned false true c = refl
turned false false c = refl

none_or : (a : Bool) → (false || a) ≡ a
none_or a = refl

pub fits_all : (routes : List (ℕ × ℕ)) (x : Line) (before between : List Passing)
    → ((k : ℕ) (p : Passing) → slice_get before k ≡ Some p → fits_at routes x
    (overtakes routes (take k before) x || overtakes routes between x) p ≡ true)
    → realtimes_fit routes x between before ≡ true
fits_all routes x [] between each = refl
fits_all routes x (p ∷ before) between each = and_true _ _ (each 0 p refl)
    (fits_all routes x before (p ∷ between) (λ k q at. subst (λ b. fits_at routes x b q ≡ true)
    (turned (may_hold routes p.line x) (overtakes routes (take k before) x) (overtakes routes between x))
    (each (suc k) q at)))
