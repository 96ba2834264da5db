-- What is held in a buffer before it is handed on.
--
--   Holds took bytes held   some of the bytes were handed on, and the others are held
use Rattle.std.specs.Prelude.{◌≡◌, ℕ, List, ◌++◌}

pub record Holds (took : List ℕ → Type 0) (bytes held : List ℕ) : Type 0 where
  pub given : List ℕ
  pub took_it : took given
  pub all : given ++ held ≡ bytes
