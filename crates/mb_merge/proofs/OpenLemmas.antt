-- Opening: the faults, and the links at first.
use Rattle.std.proofs.Common.{◌≡◌, ℕ, ◌<◌, ◌≤◌, inl, inr, Bool, true, false, not, ◌&&◌, nat_lt, if◌then◌else◌, List, []}
use Rattle.std.proofs.Common.{◌∷◌, ◌++◌, length, map, get_or, Option, Some, None, refl, sym, ◌∙◌, ap, subst, arith}
use Rattle.std.proofs.Common.{append-nil, append_assoc}
use Rattle.std.specs.List.{range_with_len}
use Rattle.std.proofs.lemmas.List.{same_lists}
use Rattle.std.proofs.lemmas.List.FromFn.{get_or-map-range_with_len, length-map-range_with_len}
use Rattle.std.proofs.lemmas.Bool.Decides.{nat_tests}
use Rattle.std.proofs.lemmas.List.{get_or_default}
use Rattle.mb_message.specs.declared.Memory.{Memory}
use Rattle.mb_merge.specs.Opening.{is_count, stands_in, route_fault, first_fault, Refuses, AreRoutes, IsWrongBy}
use Rattle.mb_merge.specs.Opening.{IsFirstWrong, AreCounts, FaultIs}
use Rattle.mb_merge.specs.declared.opening.RouterFault.{RouterFault}
use Rattle.mb_merge.specs.declared.opening.RouterFault.TheVariants as fault

-- a list of sixteen, place by place
pub sixteen : (outs : List Bool) (f : ℕ → Bool) → length outs ≡ 16 → ((k : ℕ) → k < 16 → get_or outs k false ≡ f k) →
    outs ≡ map f (range_with_len 0 16)
sixteen outs f len each =
    same_lists outs (map f (range_with_len 0 16)) (len ∙ sym (length-map-range_with_len f 0 16))
    (λ k d below.
    let small : k < 16 = omega (arith, len) in
    get_or_default outs k d false below ∙ (each k small ∙ sym (get_or-map-range_with_len f 0 16 k k d small
    (omega arith))))

route-not_memory : (sources outs : ℕ) (before routes : List (ℕ × ℕ)) (memory : Memory) → route_fault sources outs before
    routes ≡ Some (fault.Memory memory) → ⊥
route-not_memory sources outs before [] memory is = cc
route-not_memory sources outs before (r ∷ rs) memory is =
    by_test (not (nat_lt r.0 sources && nat_lt r.1 outs)) (stands_in r before) is (route-not_memory sources outs
    (before ++ r ∷ []) rs memory) where
      by_test : (wrong twice : Bool) → (if wrong then Some fault.Index else (if twice then Some fault.Twice else
          route_fault sources outs (before ++ r ∷ []) rs)) ≡ Some (fault.Memory memory) →
          (route_fault sources outs (before ++ r ∷ []) rs ≡ Some (fault.Memory memory) → ⊥) → ⊥
      by_test true twice h rest = cc
      by_test false true h rest = cc
      by_test false false h rest = rest h

not_memory : (sources outs : ℕ) (routes : List (ℕ × ℕ)) (memory : Memory) → first_fault sources outs routes ≡
    Some (fault.Memory memory) → ⊥
not_memory sources outs routes memory is = by_test (is_count sources && is_count outs) is where
  by_test : (good : Bool) → (if good then route_fault sources outs [] routes else Some fault.Count) ≡
      Some (fault.Memory memory) → ⊥
  by_test true h = route-not_memory sources outs [] routes memory h
  by_test false h = cc

pub refuses : (sources outs : ℕ) (routes : List (ℕ × ℕ)) (f : RouterFault) → first_fault sources outs routes ≡ Some f →
    Refuses sources outs routes f
refuses sources outs routes fault.Count is = is
refuses sources outs routes fault.Index is = is
refuses sources outs routes fault.Twice is = is
refuses sources outs routes (fault.Memory memory) is = absurd (not_memory sources outs routes memory is)

-- where nothing is wrong, the numbers are counts
pub counts : (sources outs : ℕ) (routes : List (ℕ × ℕ)) → first_fault sources outs routes ≡ None →
    (sources ≤ 16) × (outs ≤ 16)
counts sources outs routes is = by_test (is_count sources) (is_count outs) refl refl is where
  by_test : (s o : Bool) → is_count sources ≡ s → is_count outs ≡ o →
      (if s && o then route_fault sources outs [] routes else Some fault.Count) ≡ None → (sources ≤ 16) × (outs ≤ 16)
  by_test true true hs ho h = (grind (arith, nat_tests), grind (arith, nat_tests))
  by_test true false hs ho h = absurd (cc)
  by_test false o hs ho h = absurd (cc)

-- the first faulty route

lt-true : (a b : ℕ) → nat_lt a b ≡ true → a < b
lt-true a b h = grind (arith, nat_tests)

lt-false : (a b : ℕ) → nat_lt a b ≡ false → b ≤ a
lt-false a b h = grind (arith, nat_tests)

same_fault : (f g : RouterFault) → Some f ≡ Some g → f ≡ g
same_fault f g h = cc

first_here : (sources outs : ℕ) (before : List (ℕ × ℕ)) (r : ℕ × ℕ) (rs : List (ℕ × ℕ)) (wrong f : RouterFault) →
    Some f ≡ Some wrong → IsWrongBy sources outs before r f → IsFirstWrong sources outs before (r ∷ rs) wrong
first_here sources outs before r rs wrong f is why = record {
  front = [];
  route = r;
  back = rs;
  joined = refl;
  right = tt;
  why = subst (λ z. IsWrongBy sources outs z r wrong) (sym (append-nil before)) (subst (IsWrongBy sources outs before r)
      (same_fault f wrong is) why);
}

first_later : (sources outs : ℕ) (before : List (ℕ × ℕ)) (r : ℕ × ℕ) (rs : List (ℕ × ℕ)) (wrong : RouterFault) →
    r.0 < sources → r.1 < outs → stands_in r before ≡ false →
    IsFirstWrong sources outs (before ++ r ∷ []) rs wrong → IsFirstWrong sources outs before (r ∷ rs) wrong
first_later sources outs before r rs wrong s o new w = record {
  front = r ∷ w.front;
  route = w.route;
  back = w.back;
  joined = ap (λ z. r ∷ z) w.joined;
  right = ((s, o, new), w.right);
  why = subst (λ z. IsWrongBy sources outs z w.route wrong) (append_assoc before (r ∷ []) w.front) w.why;
}

route-wrong : (sources outs : ℕ) (before routes : List (ℕ × ℕ)) (wrong : RouterFault) → route_fault sources outs before
    routes ≡ Some wrong → IsFirstWrong sources outs before routes wrong
route-wrong sources outs before [] wrong is = absurd (none_some is) where
  none_some : None ≡ Some wrong → ⊥
  none_some h = cc
route-wrong sources outs before (r ∷ rs) wrong is =
    by_test (nat_lt r.0 sources) (nat_lt r.1 outs) (stands_in r before) refl refl refl is (route-wrong sources outs
    (before ++ r ∷ []) rs wrong) where
      by_test : (s o twice : Bool) → nat_lt r.0 sources ≡ s → nat_lt r.1 outs ≡ o → stands_in r before ≡ twice →
          (if not (s && o) then Some fault.Index else (if twice then Some fault.Twice else route_fault sources outs
          (before ++ r ∷ []) rs)) ≡ Some wrong →
          (route_fault sources outs (before ++ r ∷ []) rs ≡ Some wrong → IsFirstWrong sources outs (before ++ r ∷ []) rs
          wrong) → IsFirstWrong sources outs before (r ∷ rs) wrong
      by_test false o twice hs ho ht h rest = first_here sources outs before r rs wrong fault.Index h
          (inl (lt-false r.0 sources hs))
      by_test true false twice hs ho ht h rest = first_here sources outs before r rs wrong fault.Index h
          (inr (lt-false r.1 outs ho))
      by_test true true true hs ho ht h rest = first_here sources outs before r rs wrong fault.Twice h
          (lt-true r.0 sources hs, lt-true r.1 outs ho, ht)
      by_test true true false hs ho ht h rest = first_later sources outs before r rs wrong (lt-true r.0 sources hs)
          (lt-true r.1 outs ho) ht (rest h)

route-right : (sources outs : ℕ) (before routes : List (ℕ × ℕ)) → route_fault sources outs before routes ≡ None →
    AreRoutes sources outs before routes
route-right sources outs before [] is = tt
route-right sources outs before (r ∷ rs) is =
    by_test (nat_lt r.0 sources) (nat_lt r.1 outs) (stands_in r before) refl refl refl is (route-right sources outs
    (before ++ r ∷ []) rs) where
      some_none : (f : RouterFault) → Some f ≡ None → ⊥
      some_none f h = cc

      by_test : (s o twice : Bool) → nat_lt r.0 sources ≡ s → nat_lt r.1 outs ≡ o → stands_in r before ≡ twice →
          (if not (s && o) then Some fault.Index else (if twice then Some fault.Twice else route_fault sources outs
          (before ++ r ∷ []) rs)) ≡ None →
          (route_fault sources outs (before ++ r ∷ []) rs ≡ None → AreRoutes sources outs (before ++ r ∷ []) rs) →
          AreRoutes sources outs before (r ∷ rs)
      by_test false o twice hs ho ht h rest = absurd (some_none fault.Index h)
      by_test true false twice hs ho ht h rest = absurd (some_none fault.Index h)
      by_test true true true hs ho ht h rest = absurd (some_none fault.Twice h)
      by_test true true false hs ho ht h rest = ((lt-true r.0 sources hs, lt-true r.1 outs ho, ht), rest h)

count-true : (n : ℕ) → is_count n ≡ true → (1 ≤ n) × (n ≤ 16)
count-true n h = (grind (arith, nat_tests), grind (arith, nat_tests))

count-false : (n : ℕ) → is_count n ≡ false → 1 ≤ n → n ≤ 16 → ⊥
count-false n h low high = grind (arith, nat_tests)

pub fault-is : (sources outs : ℕ) (routes : List (ℕ × ℕ)) → FaultIs sources outs routes (first_fault sources outs
    routes)
fault-is sources outs routes = by_test (is_count sources) (is_count outs) refl refl where
  by_route : (f : Option RouterFault) → AreCounts sources outs → route_fault sources outs [] routes ≡ f →
      FaultIs sources outs routes f
  by_route None are is = (are, route-right sources outs [] routes is)
  by_route (Some fault.Count) are is = absurd (route-wrong sources outs [] routes fault.Count is).why
  by_route (Some fault.Index) are is = (are, route-wrong sources outs [] routes fault.Index is)
  by_route (Some fault.Twice) are is = (are, route-wrong sources outs [] routes fault.Twice is)
  by_route (Some (fault.Memory memory)) are is = (route-wrong sources outs [] routes (fault.Memory memory) is).why

  by_test : (s o : Bool) → is_count sources ≡ s → is_count outs ≡ o → FaultIs sources outs routes (if s && o then
      route_fault sources outs [] routes else Some fault.Count)
  by_test true true hs ho =
      let s = count-true sources hs in
      let o = count-true outs ho in
      by_route (route_fault sources outs [] routes) (s.0, s.1, o.0, o.1) refl
  by_test true false hs ho = λ are. count-false outs ho are.2 are.3
  by_test false o hs ho = λ are. count-false sources hs are.0 are.1
