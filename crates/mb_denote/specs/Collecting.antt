-- A collector's value with one mark more, for the proofs: what callers are told is `Collected`.
use Rattle.std.specs.Prelude.{ℕ, suc, List, [], ◌∷◌, ◌++◌, Option, Some, None}
use Rattle.mb_message.specs.Signs.{Sign, ShortSign, RtSign, OpenSign, ByteSign, EndSign, AbortSign}
use Rattle.mb_stream.specs.Denotation.{Meant, Message, Syx, Broken}
use Rattle.mb_denote.specs.Collected.{Collected}

-- a data byte of the open SysEx
abbrev pub with_byte : ℕ → Option (List ℕ) → Option (List ℕ)
with_byte b None = None
with_byte b (Some ds) = Some (ds ++ b ∷ [])

-- the open SysEx, if one is open, as an item
abbrev pub with_item : (List ℕ → Meant) → Option (List ℕ) → List Meant → List Meant
with_item ended None items = items
with_item ended (Some ds) items = items ++ ended ds ∷ []

-- the open SysEx, if one is open, is one more that ended by F7
abbrev pub with_end : Option (List ℕ) → ℕ → ℕ
with_end None ended = ended
with_end (Some ds) ended = suc ended

abbrev pub with_mark : Collected → Sign → Collected
with_mark c (ShortSign s d1 d2) = record c { items = c.items ++ Message s d1 d2 ∷ []; ended = suc c.ended }
with_mark c (RtSign b) = record c { realtimes = c.realtimes ++ record { byte = b; after = c.ended } ∷ [] }
with_mark c OpenSign = record c { open_data = Some [] }
with_mark c (ByteSign b) = record c { open_data = with_byte b c.open_data }
with_mark c EndSign =
    record c { items = with_item Syx c.open_data c.items; ended = with_end c.open_data c.ended; open_data = None }
with_mark c AbortSign = record c { items = with_item Broken c.open_data c.items; open_data = None }
