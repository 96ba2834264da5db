-- What a writer is handed: marks with their moments, and flushes between them. A flush ends the packet under way on a
-- carrier whose packets hold several marks, and is nothing on the others. Both are the project's own; how a carrier
-- spells a moment is its standard's.
--
--   Put                a mark at its moment in milliseconds, or a flush
--   signs_in puts      the marks alone
--   puts_at m signs    marks of one moment
--   last_put m puts    the moment of the last mark, or the one given
use Rattle.std.specs.Prelude.{ℕ, List, [], ◌∷◌, map}
use Rattle.mb_message.specs.Signs.{Sign}

pub data Put : Type 0 where
  At : (moment : ℕ) → (sign : Sign) → Put
  Flush : Put

abbrev pub signs_in : List Put → List Sign
signs_in [] = []
signs_in (At m s ∷ puts) = s ∷ signs_in puts
signs_in (Flush ∷ puts) = signs_in puts

abbrev pub puts_at : (moment : ℕ) → List Sign → List Put
puts_at m signs = map (At m) signs

abbrev pub last_put : ℕ → List Put → ℕ
last_put m [] = m
last_put m (At n s ∷ puts) = last_put n puts
last_put m (Flush ∷ puts) = last_put m puts
