-- What holds of a run between any two marks that pass.
--
-- Run of each source: whether it is open, the keys of its held marks, the key of its record under
-- way or else of its next, and whether it is stalled; the greatest key of any step so far; the
--                            report, newest first
--   AtMost a b               a key isn't above another
--   Stood shares report x P  a SysEx line of another source that shares, of which P holds, stands in the report
--   Lateness shares r        a source that is late waits for an owner, or was held by a line of the greatest key
--   Drained shares r         what a drained router is, and what the choice of a step knows
use Rattle.std.specs.Prelude.{◌≡◌, ◌≢◌, ◌⊎◌, ℕ, Bool, true, false, List, [], Option, Some, slice_get}
use Rattle.mb_rig.specs.Merging.Lines.{Key, is_below, is_sysex, Line}
use Rattle.mb_rig.specs.Merging.Report.{Passing}

pub record Run : Type 0 where
  pub is_open : ℕ → Bool
  pub held : ℕ → List Key
  pub present : ℕ → Option Key
  pub stalled : ℕ → Bool
  pub greatest : Key
  pub report : List Passing

abbrev pub AtMost : Key → Key → Type 0
AtMost a b = is_below b a ≡ false

-- a SysEx line of another source that shares, of which P holds, stands in the report
abbrev pub Stood : (ℕ → ℕ → Bool) → List Passing → ℕ → (Line → Type 0) → Type 0
Stood shares report x P = (i : ℕ) × (p : Passing) × (slice_get report i ≡ Some p) × (is_sysex p.line.event ≡ true) ×
    (shares p.line.source x ≡ true) × P p.line

abbrev pub IsPresent : Run → ℕ → (Key → Type 0) → Type 0
IsPresent r x P = (k : Key) × (r.present x ≡ Some k) × P k

-- the first held mark, or the present record, has a key below the greatest
abbrev pub IsLate : Run → ℕ → Type 0
IsLate r x = ((k : Key) × (slice_get (r.held x) 0 ≡ Some k) × (is_below k r.greatest ≡ true)) ⊎ IsPresent r x
    (λ k. is_below k r.greatest ≡ true)

-- it is closed, holds marks, and another that shares is open, holds nothing, and is not below the greatest key
abbrev pub Waits : (ℕ → ℕ → Bool) → Run → ℕ → Type 0
Waits shares r x = (r.is_open x ≡ false) × (r.held x ≢ []) ×
    ((o : ℕ) × (r.is_open o ≡ true) × (r.held o ≡ []) × (shares o x ≡ true) × IsPresent r o (λ k. AtMost r.greatest k))

-- a SysEx line of another that shares, with the greatest key, stands in the report
abbrev pub WasHeld : (ℕ → ℕ → Bool) → Run → ℕ → Type 0
WasHeld shares r x = Stood shares r.report x (λ y. y.key ≡ r.greatest)

pub record Lateness (shares : ℕ → ℕ → Bool) (r : Run) : Type 0 where
  pub late : (x : ℕ) → IsLate r x → Waits shares r x ⊎ WasHeld shares r x
  pub on_time : (x : ℕ) → r.stalled x ≡ false → IsPresent r x (λ k. is_below k r.greatest ≡ true) → WasHeld shares r x

-- what a drained router is, and what the choice of a step knows
pub record Drained (shares : ℕ → ℕ → Bool) (r : Run) : Type 0 where
  pub waits : (x : ℕ) → r.held x ≢ [] → (r.is_open x ≡ false) × ((o : ℕ) × (r.is_open o ≡ true) × (shares o x ≡ true))
  pub owners : (o : ℕ) → r.is_open o ≡ true → (r.held o ≡ []) × (r.stalled o ≡ false) ×
      ((k : Key) × (r.present o ≡ Some k))
  pub stalled : (x : ℕ) → r.stalled x ≡ true → r.held x ≢ []
