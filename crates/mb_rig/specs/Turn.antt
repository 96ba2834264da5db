-- Whose turn it is among links of which each tells the moment of its record, if it may step: that of the least key, the
-- moment and then the number of the link.
--
--   MayStep turns link moment     the link may step, and this is its record's moment
--   IsTurn turns link moment      and of those that may its key is the least
--   TurnIs turns answer           the link whose turn it is, or none may step
use Rattle.std.specs.Prelude.{◌≡◌, ℕ, ◌<◌, ◌≤◌, List, Option, Some, None, slice_get}
use Rattle.mb_rig.specs.declared.turn.Turn.{Turn}

abbrev pub MayStep : (turns : List (Option ℕ)) → (link moment : ℕ) → Type 0
MayStep turns link moment = slice_get turns link ≡ Some (Some moment)

pub record IsTurn (turns : List (Option ℕ)) (link moment : ℕ) : Type 0 where
  pub may : MayStep turns link moment
  pub least : (other m : ℕ) → MayStep turns other m → moment ≤ m
  pub first : (other m : ℕ) → other < link → MayStep turns other m → moment < m

abbrev pub TurnIs : (turns : List (Option ℕ)) → Option Turn → Type 0
TurnIs turns None = (link moment : ℕ) → MayStep turns link moment → ⊥
TurnIs turns (Some t) = IsTurn turns t.link t.moment
