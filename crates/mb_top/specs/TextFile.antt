-- A text that is read from a file, which has the next handle: to its end, or to the byte that is one too many.
--
--   text_taken before after        what was taken of it
--   Opened before start file       it was opened, and some of it was read
--   TextRead handle before ..      a text was taken off a handle
--   FileRead file most ..          it was opened, and this text was read of it
use Rattle.std.specs.Prelude.{◌≡◌, ℕ, ◌⊎◌, List, [], length}
use Rattle.mb_message.specs.Front.{IsFront}
use Rattle.mb_outside.specs.Contents.{Contents, after_open, after_read, next_handle}

abbrev pub text_taken : (before after : Contents) → List ℕ
text_taken before after = after.taken (next_handle before)

pub record Opened (before start : Contents) (file : List ℕ) : Type 0 where
  pub content : List ℕ
  pub count : ℕ
  pub contents : start ≡ after_read (next_handle before) count (after_open file content before)

pub record TextRead (handle : ℕ) (before after : Contents) (text : List ℕ) : Type 0 where
  pub front : IsFront text (before.left handle)
  pub contents : after ≡ after_read handle (length text) before

-- this is one byte more than it may have
pub record FileRead (file : List ℕ) (most : ℕ) (before after : Contents) (text : List ℕ) : Type 0 where
  pub opened : Opened before after file
  pub text_is : text_taken before after ≡ text
  pub all : (after.left (next_handle before) ≡ []) ⊎ (length text ≡ most)
