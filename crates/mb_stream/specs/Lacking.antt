-- How the meaning of what is written so far may lag behind that of all (MIDI 1.0 Detailed Specification 4.2, "System
-- Exclusive Messages"): bytes of SysEx at its end may be missing. That SysEx without an end, broken off or open yet,
-- are looked at as one row of bytes is the project's own. Data bytes are below F0, so a row says which SysEx has which.
--
--   row broken           the bytes of SysEx without an end, each from its F0 on, one behind the other
--   Lacks n less full    the same, but that at most n bytes are missing at the end of the row with which the items end
use Rattle.std.specs.Prelude.{◌≡◌, ℕ, ◌≤◌, List, ◌∷◌, ◌++◌, length, map, flat_map}
use Rattle.mb_stream.specs.Denotation.{Meant, Broken, Denotation}

abbrev pub row : (broken : List (List ℕ)) → List ℕ
row broken = flat_map (λ data_bytes. 0xf0 ∷ data_bytes) broken

-- Real-time messages are the same. So are the items, up to broken SysEx that stand at their end.
pub record Lacks (n : ℕ) (less full : Denotation) : Type 0 where
  pub realtimes : less.realtimes ≡ full.realtimes
  pub items : List Meant
  pub broken_less : List (List ℕ)
  pub broken_full : List (List ℕ)
  pub less_is : less.items ≡ items ++ map Broken broken_less
  pub full_is : full.items ≡ items ++ map Broken broken_full
  pub missing : List ℕ
  pub row_is : row broken_full ≡ row broken_less ++ missing
  pub few : length missing ≤ n
