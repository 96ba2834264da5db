-- A handle that a desk in memory gave.
--
--   Opened file at     to read the file of this number, of which so much was taken
--   Created name       to write under this name
--   moved_on n place   so many bytes more were taken
use Rattle.std.specs.Prelude.{ℕ, ◌+◌, List}

pub data Place : Type 0 where
  Opened : (file at : ℕ) → Place
  Created : (name : List ℕ) → Place

abbrev pub moved_on : ℕ → Place → Place
moved_on n (Opened file at) = Opened file (at + n)
moved_on n (Created name) = Created name
