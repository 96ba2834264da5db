-- Opening a router over routes, pairs of a source and an out: the project's own.
--
--   first_fault sources outs routes     Count where a number isn't 1 to 16; else by the first faulty route Index where
--                                       one of its numbers isn't below its count, or Twice where it stood before
--   FaultIs sources outs routes f       what each answer means of the numbers and of the first faulty route
--   opened sources outs routes          the router at first
use Rattle.std.specs.Prelude.{◌≡◌, ◌<◌, ◌≤◌, ◌⊎◌, ℕ, Bool, true, false, not, ◌&&◌, ◌==◌, nat_lt, nat_le, if◌then◌else◌}
use Rattle.std.specs.Prelude.{List, [], ◌∷◌, ◌++◌, map, Option, Some, None}
use Rattle.std.specs.List.{list_any, range_with_len}
use Rattle.mb_merge.specs.Links.{Link, Merger, closed_link}
use Rattle.mb_merge.specs.declared.opening.RouterFault.{RouterFault}
use Rattle.mb_merge.specs.declared.opening.RouterFault.TheVariants as fault

abbrev pub is_count : ℕ → Bool
is_count n = nat_le 1 n && nat_le n 16

abbrev pub is_same : (ℕ × ℕ) → (ℕ × ℕ) → Bool
is_same r q = (r.0 == q.0) && (r.1 == q.1)

abbrev pub stands_in : (ℕ × ℕ) → List (ℕ × ℕ) → Bool
stands_in r routes = list_any (λ q. is_same q r) routes

abbrev pub route_fault : (sources outs : ℕ) → (before routes : List (ℕ × ℕ)) → Option RouterFault
route_fault sources outs before [] = None
route_fault sources outs before (r ∷ rs) =
    if not (nat_lt r.0 sources && nat_lt r.1 outs) then Some fault.Index
    else (if stands_in r before then Some fault.Twice else route_fault sources outs (before ++ r ∷ []) rs)

abbrev pub first_fault : (sources outs : ℕ) → (routes : List (ℕ × ℕ)) → Option RouterFault
first_fault sources outs routes =
    if is_count sources && is_count outs then route_fault sources outs [] routes else Some fault.Count

-- Said of the routes: each of these, which stand behind others, has its numbers below the counts, and didn't stand
-- before.
abbrev pub AreRoutes : (sources outs : ℕ) → (before routes : List (ℕ × ℕ)) → Type 0
AreRoutes sources outs before [] = Unit {0}
AreRoutes sources outs before (r ∷ rs) =
    ((r.0 < sources) × (r.1 < outs) × (stands_in r before ≡ false)) × AreRoutes sources outs (before ++ r ∷ []) rs

abbrev pub IsWrongBy : (sources outs : ℕ) → (before : List (ℕ × ℕ)) → (r : ℕ × ℕ) → RouterFault → Type 0
IsWrongBy sources outs before r fault.Count = ⊥
IsWrongBy sources outs before r fault.Index = (sources ≤ r.0) ⊎ (outs ≤ r.1)
IsWrongBy sources outs before r fault.Twice = (r.0 < sources) × (r.1 < outs) × (stands_in r before ≡ true)
IsWrongBy sources outs before r (fault.Memory memory) = ⊥

-- of these routes, which stand behind others
pub record IsFirstWrong (sources outs : ℕ) (before routes : List (ℕ × ℕ)) (wrong : RouterFault) : Type 0 where
  pub front : List (ℕ × ℕ)
  pub route : ℕ × ℕ
  pub back : List (ℕ × ℕ)
  pub joined : routes ≡ front ++ route ∷ back
  pub right : AreRoutes sources outs before front
  pub why : IsWrongBy sources outs (before ++ front) route wrong

abbrev pub AreCounts : (sources outs : ℕ) → Type 0
AreCounts sources outs = (1 ≤ sources) × (sources ≤ 16) × (1 ≤ outs) × (outs ≤ 16)

abbrev pub FaultIs : (sources outs : ℕ) → (routes : List (ℕ × ℕ)) → Option RouterFault → Type 0
FaultIs sources outs routes None = AreCounts sources outs × AreRoutes sources outs [] routes
FaultIs sources outs routes (Some fault.Count) = AreCounts sources outs → ⊥
FaultIs sources outs routes (Some fault.Index) = AreCounts sources outs ×
    IsFirstWrong sources outs [] routes fault.Index
FaultIs sources outs routes (Some fault.Twice) = AreCounts sources outs ×
    IsFirstWrong sources outs [] routes fault.Twice
FaultIs sources outs routes (Some (fault.Memory memory)) = ⊥

abbrev pub outs_of : (source : ℕ) → (routes : List (ℕ × ℕ)) → List Bool
outs_of source routes = map (λ out. stands_in (source, out) routes) (range_with_len 0 16)

abbrev pub links_of : (sources : ℕ) → (routes : List (ℕ × ℕ)) → List Link
links_of sources routes = map (λ source. closed_link (outs_of source routes)) (range_with_len 0 sources)

abbrev pub opened : (sources outs : ℕ) → (routes : List (ℕ × ℕ)) → Merger
opened sources outs routes = record {
  links = links_of sources routes;
  outs = outs;
  offered = None;
  draining = false;
}

abbrev pub Opens : (sources outs : ℕ) → (routes : List (ℕ × ℕ)) → Merger → Type 0
Opens sources outs routes m = (first_fault sources outs routes ≡ None) × (m ≡ opened sources outs routes)

-- Memory comes only where nothing is wrong.
abbrev pub Refuses : (sources outs : ℕ) → (routes : List (ℕ × ℕ)) → RouterFault → Type 0
Refuses sources outs routes fault.Count = first_fault sources outs routes ≡ Some fault.Count
Refuses sources outs routes fault.Index = first_fault sources outs routes ≡ Some fault.Index
Refuses sources outs routes fault.Twice = first_fault sources outs routes ≡ Some fault.Twice
Refuses sources outs routes (fault.Memory memory) = first_fault sources outs routes ≡ None
