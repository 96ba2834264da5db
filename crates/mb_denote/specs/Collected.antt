-- A collector, as callers see it.
--
--   Collected          its value
--   in_sysex c         whether a SysEx is open
--   Stands c marks     the collector was given these marks since it was new
use Rattle.std.specs.Prelude.{◌≡◌, ℕ, Bool, false, List, ◌++◌, Option, None, is_some}
use Rattle.mb_message.specs.Signs.{Sign}
use Rattle.mb_stream.specs.Denotation.{Meant, Timed, items_from, realtimes_from}
use Rattle.mb_stream.specs.Standing.{is_open}

-- what ended, the real-time messages, how many messages and whole SysEx ended, and the data of the open SysEx, if one
-- is open
pub record Collected : Type 0 where
  pub items : List Meant
  pub realtimes : List Timed
  pub ended : ℕ
  pub open_data : Option (List ℕ)

abbrev pub in_sysex : Collected → Bool
in_sysex c = is_some c.open_data

-- Whatever marks follow, what it holds and what they add to it is what all the marks mean.
pub record Stands (c : Collected) (marks : List Sign) : Type 0 where
  pub open_too : in_sysex c ≡ is_open marks
  pub items_hold : (more : List Sign) → items_from None (marks ++ more) ≡ c.items ++ items_from c.open_data more
  pub realtimes_hold : (more : List Sign) →
      realtimes_from false 0 (marks ++ more) ≡ c.realtimes ++ realtimes_from (in_sysex c) c.ended more
