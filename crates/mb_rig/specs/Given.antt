-- Files that are given.
--
--   Apart first count h     a handle is none of these, which are one behind the other
--   OpenedMore c d files    these were opened to read, and nothing else of the desk changed
--   CreatedMore c d files   these were created to write, and nothing else of the desk changed
--   OpensPart, CreatesPart  some of these, and not all
use Rattle.std.specs.Prelude.{◌≡◌, ℕ, ◌+◌, ◌<◌, ◌≤◌, Bool, List, [], ◌++◌, length}
use Rattle.mb_message.specs.Front.{IsPart}
use Rattle.mb_outside.specs.Contents.{Contents, next_handle}

abbrev pub Apart : (first count h : ℕ) → Type 0
Apart first count h = first ≤ h → h < first + count → ⊥

pub record OpenedMore (c d : Contents) (files : List (List ℕ × Bool)) : Type 0 where
  pub given : d.given ≡ c.given ++ files
  pub left : (h : ℕ) → Apart (next_handle c) (length files) h → d.left h ≡ c.left h
  pub taken : (h : ℕ) → Apart (next_handle c) (length files) h → d.taken h ≡ c.taken h
  pub unread : (place : ℕ) → place < length files → d.taken (next_handle c + place) ≡ []
  pub written : d.written ≡ c.written

pub record CreatedMore (c d : Contents) (files : List (List ℕ × Bool)) : Type 0 where
  pub given : d.given ≡ c.given ++ files
  pub left : d.left ≡ c.left
  pub taken : d.taken ≡ c.taken
  pub written : (h : ℕ) → Apart (next_handle c) (length files) h → d.written h ≡ c.written h
  pub empty : (place : ℕ) → place < length files → d.written (next_handle c + place) ≡ []

pub record OpensPart (c d : Contents) (files : List (List ℕ × Bool)) : Type 0 where
  pub front : List (List ℕ × Bool)
  pub part : IsPart front files
  pub more : OpenedMore c d front

pub record CreatesPart (c d : Contents) (files : List (List ℕ × Bool)) : Type 0 where
  pub front : List (List ℕ × Bool)
  pub part : IsPart front files
  pub more : CreatedMore c d front
