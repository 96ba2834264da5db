-- What a desk holds, for a desk that tells it: of each handle the bytes that are left to read, those that were taken,
-- and those that were written; and which files were opened and created. Handles are 0 standard input, 1 standard output
-- and 2 standard error; from 3 on they are the files that were given, in their order.
--
--   after_read handle n c          the first n bytes of a handle were taken
--   after_write handle bytes c     these bytes were written to a handle
--   next_handle c                  the handle of the file that is given next
--   after_open name content c      a file with this content was opened to read
--   after_create name c            a file was created to write
--   Reads, Writes, Opens, Creates  what a call did, by its answer
--   SameAt before now handle       a handle stands as it stood
use Rattle.std.specs.Prelude.{◌≡◌, ℕ, ◌+◌, ◌-◌, ◌<◌, ◌≤◌, Bool, true, false, not, ◌&&◌, ◌||◌, ◌==◌, nat_le}
use Rattle.std.specs.Prelude.{if◌then◌else◌, List, [], ◌∷◌, ◌++◌, length, take, drop, Option, Some, None, slice_get}
use Rattle.std.specs.Prelude.{Result, MatchResult}

pub record Contents : Type 0 where
  pub left : ℕ → List ℕ
  pub taken : ℕ → List ℕ
  pub written : ℕ → List ℕ
  -- the names, each with whether it is to write
  pub given : List (List ℕ × Bool)

-- the same but for one entry
abbrev pub with_entry : (entries : ℕ → List ℕ) (handle : ℕ) (bytes : List ℕ) → ℕ → List ℕ
with_entry entries handle bytes other = if other == handle then bytes else entries other

abbrev pub after_read : (handle n : ℕ) → Contents → Contents
after_read handle n c =
    record c {
      left = with_entry c.left handle (drop n (c.left handle));
      taken = with_entry c.taken handle (c.taken handle ++ take n (c.left handle));
    }

abbrev pub after_write : (handle : ℕ) (bytes : List ℕ) → Contents → Contents
after_write handle bytes c = record c { written = with_entry c.written handle (c.written handle ++ bytes) }

abbrev pub next_handle : Contents → ℕ
next_handle c = 3 + length c.given

abbrev pub after_open : (name content : List ℕ) → Contents → Contents
after_open name content c =
    record c {
      left = with_entry c.left (next_handle c) content;
      taken = with_entry c.taken (next_handle c) [];
      given = c.given ++ (name, false) ∷ [];
    }

abbrev pub after_create : (name : List ℕ) → Contents → Contents
after_create name c =
    record c {
      written = with_entry c.written (next_handle c) [];
      given = c.given ++ (name, true) ∷ [];
    }

-- what was given is to read, or to write
abbrev pub reads_given : Option (List ℕ × Bool) → Bool
reads_given None = false
reads_given (Some g) = not g.1

abbrev pub writes_given : Option (List ℕ × Bool) → Bool
writes_given None = false
writes_given (Some g) = g.1

abbrev pub is_readable : Contents → (handle : ℕ) → Bool
is_readable c handle = (handle == 0) || (nat_le 3 handle && reads_given (slice_get c.given (handle - 3)))

abbrev pub is_writable : Contents → (handle : ℕ) → Bool
is_writable c handle =
    (handle == 1) || (handle == 2) || (nat_le 3 handle && writes_given (slice_get c.given (handle - 3)))

-- a read gave the first n bytes that were left; where the buffer has room it gives none at the end alone
pub record Gives (old new : Contents) (handle n : ℕ) (buffer : List ℕ) : Type 0 where
  pub contents : new ≡ after_read handle n old
  pub within : n ≤ length (old.left handle)
  pub bytes : take n buffer ≡ take n (old.left handle)
  pub ends : n ≡ 0 → 0 < length buffer → old.left handle ≡ []

-- after a failure all is as before
abbrev pub Reads : {E : Type 0} → (old new : Contents) (handle : ℕ) → Result ℕ E → (buffer : List ℕ) → Type 0
Reads old new handle result buffer = MatchResult result (λ n. Gives old new handle n buffer) (λ _. new ≡ old)

abbrev pub Writes : {E : Type 0} → (old new : Contents) (handle : ℕ) → Result ℕ E → (piece : List ℕ) → Type 0
Writes old new handle result piece = MatchResult result (λ n. new ≡ after_write handle (take n piece) old)
    (λ _. new ≡ old)

-- the trait says nothing of what a file has that is opened
abbrev pub Opens : {E : Type 0} → (old new : Contents) → Result ℕ E → (name : List ℕ) → Type 0
Opens old new result name = MatchResult result
    (λ handle. (handle ≡ next_handle old) × (content : List ℕ) × (new ≡ after_open name content old)) (λ _. new ≡ old)

abbrev pub Creates : {E : Type 0} → (old new : Contents) → Result ℕ E → (name : List ℕ) → Type 0
Creates old new result name = MatchResult result
    (λ handle. (handle ≡ next_handle old) × (new ≡ after_create name old)) (λ _. new ≡ old)

-- a handle stands as it stood, and is for the same
pub record SameAt (before now : Contents) (handle : ℕ) : Type 0 where
  pub left : now.left handle ≡ before.left handle
  pub taken : now.taken handle ≡ before.taken handle
  pub written : now.written handle ≡ before.written handle
  pub readable : is_readable now handle ≡ is_readable before handle
  pub writable : is_writable now handle ≡ is_writable before handle

-- a write takes no more than there is, and some of what there is
pub record TakesSome (n : ℕ) (piece : List ℕ) : Type 0 where
  pub within : n ≤ length piece
  pub some : 0 < length piece → 0 < n

-- the handle of a file that is kept behind so many others
pub record IsNextHandle (before now handle : ℕ) : Type 0 where
  pub place : handle ≡ 3 + before
  pub more : now ≡ before + 1

-- of a desk that tells nothing
abbrev pub nothing_told : Contents
nothing_told = record { left = λ _. []; taken = λ _. []; written = λ _. []; given = [] }
