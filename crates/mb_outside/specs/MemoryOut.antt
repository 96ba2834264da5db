-- A taker of bytes in memory, as contracts see it.
--
--   TakenState            the bytes that it took, the room for them, and how often it refused
--   Took before xs after  it took these bytes between two of its states
use Rattle.std.specs.Prelude.{◌≡◌, ℕ, List, ◌++◌}

pub record TakenState : Type 0 where
  pub list : List ℕ
  pub room : ℕ
  pub refusals : ℕ

pub record Took (before : TakenState) (bytes : List ℕ) (after : TakenState) : Type 0 where
  pub list : after.list ≡ before.list ++ bytes
  pub room : after.room ≡ before.room
