-- What holds of a run in which no link was ever stalled.
use Rattle.std.specs.Prelude.{◌≡◌, ◌⊎◌, ℕ, ◌<◌, Bool, true, false, List, [], take, Some, slice_get}
use Rattle.mb_rig.specs.Merging.Lines.{Key, is_realtime}
use Rattle.mb_rig.specs.Merging.Report.{Passing}
use Rattle.mb_rig.specs.Merging.Run.{Run, AtMost, Stood}

-- it is closed, and another that shares is open, holds nothing, and P holds of it
abbrev pub HasOwner : (ℕ → ℕ → Bool) → Run → ℕ → (ℕ → Type 0) → Type 0
HasOwner shares r x P = (r.is_open x ≡ false) × ((o : ℕ) × (r.is_open o ≡ true) × (r.held o ≡ []) × (shares o x ≡ true)
    × P o)

abbrev pub IsHeld : Run → ℕ → Key → Type 0
IsHeld r x h = (i : ℕ) × (slice_get (r.held x) i ≡ Some h)

-- At each key from a held mark's own to the greatest a SysEx line of another that shares had begun and not ended
-- before, or has begun. `begin_of` is the key of an open source's start.
pub record Unbroken (shares : ℕ → ℕ → Bool) (begin_of : ℕ → Key) (r : Run) : Type 0 where
  pub held : (x : ℕ) (h : Key) → IsHeld r x h → (k : Key) → AtMost h k → AtMost k r.greatest
      → Stood shares r.report x (λ y. AtMost y.begin k × AtMost k y.key) ⊎ HasOwner shares r x
      (λ o. AtMost (begin_of o) k)
  pub begun : (o : ℕ) → r.is_open o ≡ true → AtMost (begin_of o) r.greatest
  pub within : (x : ℕ) (h : Key) → IsHeld r x h → AtMost h r.greatest

-- Behind a real-time line that overtook a held mark of its source stands a SysEx line of another that shares, or one is
-- open. `places` are the places of the held marks in their source's reading.
abbrev pub Overtaken : (ℕ → ℕ → Bool) → (ℕ → List ℕ) → Run → Type 0
Overtaken shares places r = (x j n i : ℕ) (p : Passing) → slice_get (places x) j ≡ Some n →
    slice_get r.report i ≡ Some p → p.line.source ≡ x → is_realtime p.line.event ≡ true → n < p.line.place
    → Stood shares (take i r.report) x (λ y. Unit {0}) ⊎ HasOwner shares r x (λ o. Unit {0})
