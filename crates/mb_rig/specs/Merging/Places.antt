-- The places of what is held and of what has passed, `next` being how many marks of each source were taken.
use Rattle.std.specs.Prelude.{◌≡◌, ◌≢◌, ℕ, ◌<◌, List, [], ◌∷◌, Some, slice_get}
use Rattle.mb_rig.specs.Merging.Report.{Passing}
use Rattle.mb_rig.specs.Merging.Playing.{Play}
use Rattle.mb_rig.specs.Merging.Order.{newest}
use Rattle.mb_rig.specs.Merging.Realtimes.{places_of}

abbrev pub AreAbove : ℕ → List ℕ → Type 0
AreAbove n ns = (j m : ℕ) → slice_get ns j ≡ Some m → n < m

abbrev pub AreBelow : List ℕ → ℕ → Type 0
AreBelow ns n = (j m : ℕ) → slice_get ns j ≡ Some m → m < n

abbrev pub IsRising : List ℕ → Type 0
IsRising [] = Unit {0}
IsRising (n ∷ ns) = AreAbove n ns × IsRising ns

pub record Places (p : Play) (next : ℕ → ℕ) : Type 0 where
  pub below : (k : ℕ) (z : Passing) → slice_get (newest p) k ≡ Some z → z.line.place < next z.line.source
  pub held : (x : ℕ) → AreBelow (places_of p x) (next x)
  pub rising : (x : ℕ) → IsRising (places_of p x)
  pub apart : (x j n k : ℕ) (z : Passing) → slice_get (places_of p x) j ≡ Some n → slice_get (newest p) k ≡ Some z →
      z.line.source ≡ x → z.line.place ≢ n
