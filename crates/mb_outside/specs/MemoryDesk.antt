-- A desk in memory, as contracts see it.
--
--   MemoryState              what it holds: the input and how much of it was taken, the files, the handles that were
--                            given, each byte that was written with its handle, the room for these, which calls are to
--                            fail, and the counts
--   contents_of m            its contents, as every desk tells them
--   IsCalled before after    one more call was counted; the files, what is planned, the size of a piece and the room
--                            stay
--   is_planned, is_full      whether the next call is to fail; whether there is no room for one more byte
--   IsNew files name         no file has the name
--   GivesOpened, GivesCreated  a call gave a handle, and was free to
use Rattle.std.specs.Prelude.{◌≡◌, ℕ, ◌+◌, ◌-◌, ◌^◌, ◌<◌, Bool, true, false, ◌==◌, nat_le, if◌then◌else◌, min, List}
use Rattle.std.specs.Prelude.{[], ◌∷◌, ◌++◌, ◌≤◌, length, map, take, drop, Option, Some, None, slice_get}
use Rattle.std.specs.List.{list_any}
use Rattle.mb_outside.specs.Contents.{Contents}
use Rattle.mb_outside.specs.Place.{Place, Opened, Created}

pub record MemoryState : Type 0 where
  pub input : List ℕ
  pub at : ℕ
  pub files : List (List ℕ × List ℕ)
  pub places : List Place
  pub log : List (ℕ × ℕ)
  pub room : ℕ
  pub planned : List ℕ
  pub calls : ℕ
  pub piece : ℕ
  pub read_faults : ℕ
  pub write_faults : ℕ

-- the bytes of one handle
abbrev pub bytes_to : (handle : ℕ) → List (ℕ × ℕ) → List ℕ
bytes_to handle [] = []
bytes_to handle (e ∷ es) = if e.0 == handle then e.1 ∷ bytes_to handle es else bytes_to handle es

-- each entry of the log has a handle below n
abbrev pub IsLogged : (n : ℕ) → List (ℕ × ℕ) → Type 0
IsLogged n [] = Unit {0}
IsLogged n (e ∷ es) = (e.0 < n) × IsLogged n es

-- the name and the bytes of a file
abbrev pub name_in : Option (List ℕ × List ℕ) → List ℕ
name_in None = []
name_in (Some file) = file.0

abbrev pub bytes_in : Option (List ℕ × List ℕ) → List ℕ
bytes_in None = []
bytes_in (Some file) = file.1

-- what a handle that was given has left, what was taken off it, and its name
abbrev pub left_at : List (List ℕ × List ℕ) → Option Place → List ℕ
left_at files None = []
left_at files (Some (Opened file at)) = drop at (bytes_in (slice_get files file))
left_at files (Some (Created name)) = []

abbrev pub taken_at : List (List ℕ × List ℕ) → Option Place → List ℕ
taken_at files None = []
taken_at files (Some (Opened file at)) = take at (bytes_in (slice_get files file))
taken_at files (Some (Created name)) = []

abbrev pub given_as : List (List ℕ × List ℕ) → Place → List ℕ × Bool
given_as files (Opened file at) = (name_in (slice_get files file), false)
given_as files (Created name) = (name, true)

-- an entry of handle 0, and of one that was given
abbrev pub at_handle : (input : List ℕ) (given : Option Place → List ℕ) (places : List Place) (handle : ℕ) → List ℕ
at_handle input given places handle =
    if handle == 0 then input else (if nat_le 3 handle then given (slice_get places (handle - 3)) else [])

abbrev pub told : (files : List (List ℕ × List ℕ)) (input : List ℕ) (at : ℕ) (places : List Place)
    (log : List (ℕ × ℕ)) → Contents
told files input at places log =
    record {
      left = at_handle (drop at input) (left_at files) places;
      taken = at_handle (take at input) (taken_at files) places;
      written = λ handle. bytes_to handle log;
      given = map (given_as files) places;
    }

abbrev pub contents_of : MemoryState → Contents
contents_of m = told m.files m.input m.at m.places m.log

-- a count stands still at its last value
abbrev pub one_more : ℕ → ℕ
one_more n = min (n + 1) (2 ^ 64 - 1)

-- calls are counted from 1
abbrev pub is_planned : MemoryState → Bool
is_planned m = list_any (λ call. call == one_more m.calls) m.planned

abbrev pub is_full : MemoryState → Bool
is_full m = length m.log == m.room

-- the next read of a handle gives this many bytes to a buffer of so many
abbrev pub count_of_read : MemoryState → (handle size : ℕ) → ℕ
count_of_read m handle size = min (min (length ((contents_of m).left handle)) size) m.piece

-- the next write takes this many bytes of so many
abbrev pub count_of_write : MemoryState → (size : ℕ) → ℕ
count_of_write m size = min size (m.room - length m.log)

abbrev pub logged : (handle : ℕ) → List ℕ → List (ℕ × ℕ)
logged handle bytes = map (λ b. (handle, b)) bytes

pub record IsCalled (before after : MemoryState) : Type 0 where
  pub calls : after.calls ≡ one_more before.calls
  pub files : after.files ≡ before.files
  pub planned : after.planned ≡ before.planned
  pub piece : after.piece ≡ before.piece
  pub room : after.room ≡ before.room

abbrev pub IsNew : List (List ℕ × List ℕ) → (name : List ℕ) → Type 0
IsNew files name = (i : ℕ) → i < length files → name_in (slice_get files i) ≡ name → ⊥

-- how many handles can be given
abbrev pub most_given : ℕ
most_given = 61

-- what holds of the handles that were given, of which at most so many have room: a log has nothing of the next one
pub record GivenFits (given capacity : ℕ) (log : List (ℕ × ℕ)) : Type 0 where
  pub fewer : given ≤ most_given
  pub room : most_given ≤ capacity
  pub logged : IsLogged (3 + given) log

-- a file of this name was opened
pub record GivesOpened (old new : MemoryState) (name : List ℕ) : Type 0 where
  pub free : is_planned old ≡ false
  pub fewer : length old.places < most_given
  pub file : ℕ
  pub stands : file < length old.files
  pub named : name_in (slice_get old.files file) ≡ name
  pub state : new ≡ record old { calls = one_more old.calls; places = old.places ++ Opened file 0 ∷ [] }

-- a name has at most 255 bytes
pub record GivesCreated (old new : MemoryState) (name : List ℕ) : Type 0 where
  pub free : is_planned old ≡ false
  pub fewer : length old.places < most_given
  pub short : length name ≤ 255
  pub state : new ≡ record old { calls = one_more old.calls; places = old.places ++ Created name ∷ [] }
