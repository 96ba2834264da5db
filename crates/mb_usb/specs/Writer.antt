-- A writer of one cable, as callers see it.
--
--   Writer            its value
--   fresh cable       a new one
--   Stands w marks    the writer was given these marks since it was new
use Rattle.std.specs.Prelude.{◌≡◌, ℕ, Bool, true, false, List, []}
use Rattle.mb_message.specs.Signs.{Sign}
use Rattle.mb_stream.specs.Standing.{suited, is_open}
use Rattle.mb_usb.specs.Running.{pending_from}

-- its cable, whether a SysEx is open, and the bytes of it that fill no packet yet
pub record Writer : Type 0 where
  pub cable : ℕ
  pub in_sysex : Bool
  pub pending : List ℕ

abbrev pub fresh : (cable : ℕ) → Writer
fresh cable = record { cable = cable; in_sysex = false; pending = [] }

pub record Stands (w : Writer) (marks : List Sign) : Type 0 where
  pub each_suits : suited marks ≡ true
  pub open_now : w.in_sysex ≡ is_open marks
  pub left : w.pending ≡ pending_from [] marks
