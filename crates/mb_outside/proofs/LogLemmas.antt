-- The log of a desk in memory: each byte that was written, with its handle.
use Rattle.std.proofs.Common.{◌≡◌, ℕ, ◌<◌, ◌≤◌, Bool, true, false, ◌==◌, if◌then◌else◌, List, [], ◌∷◌, ◌++◌}
use Rattle.std.proofs.Common.{refl, ◌∙◌, ap, arith}
use Rattle.std.proofs.lemmas.Bool.Decides.{nat_tests}
use Rattle.mb_outside.specs.MemoryDesk.{bytes_to, logged, IsLogged}

pub bytes_to-append : (h : ℕ) (xs ys : List (ℕ × ℕ)) → bytes_to h (xs ++ ys) ≡ bytes_to h xs ++ bytes_to h ys
bytes_to-append h [] ys = refl
bytes_to-append h (x ∷ xs) ys = choice (x.0 == h) x.1 _ _ _ (bytes_to-append h xs ys) where
  choice : (c : Bool) (b : ℕ) (all front back : List ℕ) → all ≡ front ++ back →
      (if c then b ∷ all else all) ≡ (if c then b ∷ front else front) ++ back
  choice true b all front back e = ap (λ bs. b ∷ bs) e
  choice false b all front back e = e

pub bytes_to-logged : (h handle : ℕ) (bytes : List ℕ) →
    bytes_to h (logged handle bytes) ≡ (if h == handle then bytes else [])
bytes_to-logged h handle [] = grind (arith, nat_tests)
bytes_to-logged h handle (b ∷ bytes) =
    choice (handle == h) (h == handle) b bytes _ (grind (arith, nat_tests)) (bytes_to-logged h handle bytes)
  where
    choice : (c d : Bool) (b : ℕ) (bytes all : List ℕ) → c ≡ d → all ≡ (if d then bytes else []) →
        (if c then b ∷ all else all) ≡ (if d then b ∷ bytes else [])
    choice true true b bytes all same e = ap (λ bs. b ∷ bs) e
    choice true false b bytes all same e = cc
    choice false true b bytes all same e = cc
    choice false false b bytes all same e = e

-- a log has nothing of a handle that was not given
pub bytes_to-none : (n h : ℕ) (log : List (ℕ × ℕ)) → IsLogged n log → n ≤ h → bytes_to h log ≡ []
bytes_to-none n h [] logged_is past = refl
bytes_to-none n h (x ∷ log) logged_is past =
    let other : (x.0 == h) ≡ false = grind (arith, nat_tests, logged_is.0) in
    ap (λ (b : Bool). if b then x.1 ∷ bytes_to h log else bytes_to h log) other ∙ bytes_to-none n h log logged_is.1 past

-- a log under more handles, and one that goes on
pub IsLogged-more : (n m : ℕ) (log : List (ℕ × ℕ)) → IsLogged n log → n ≤ m → IsLogged m log
IsLogged-more n m [] logged_is le = tt
IsLogged-more n m (x ∷ log) logged_is le = (omega (arith, logged_is.0), IsLogged-more n m log logged_is.1 le)

IsLogged-piece : (n handle : ℕ) (piece : List ℕ) → handle < n → IsLogged n (logged handle piece)
IsLogged-piece n handle [] lt = tt
IsLogged-piece n handle (x ∷ xs) lt = (lt, IsLogged-piece n handle xs lt)

IsLogged-append : (n : ℕ) (xs ys : List (ℕ × ℕ)) → IsLogged n xs → IsLogged n ys → IsLogged n (xs ++ ys)
IsLogged-append n [] ys p q = q
IsLogged-append n (x ∷ xs) ys p q = (p.0, IsLogged-append n xs ys p.1 q)

pub IsLogged-write : (n handle : ℕ) (log : List (ℕ × ℕ)) (piece : List ℕ) → IsLogged n log → handle < n →
    IsLogged n (log ++ logged handle piece)
IsLogged-write n handle log piece logged_is lt =
    IsLogged-append n log (logged handle piece) logged_is (IsLogged-piece n handle piece lt)
