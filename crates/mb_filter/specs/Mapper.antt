-- A mapper, as callers see it.
--
--   Mapping               its rules, whether a SysEx is open, and whether that one is dropped
--   drops rules event     whether an event is dropped
--   kept answer           the marks of an answer
--   IsLeft event left     what stands for an event that isn't dropped: of a short message one, else the event itself
use Rattle.std.specs.Prelude.{◌≡◌, Bool, ◌&&◌, not, List, [], Option, Some, None, is_none}
use Rattle.mb_message.specs.Signs.{Sign, ShortSign, signs_of_event}
use Rattle.mb_message.specs.declared.event.Ev.{Ev}
use Rattle.mb_message.specs.declared.event.Ev.TheVariants as event
use Rattle.mb_message.specs.declared.short.Short.{Short}
use Rattle.mb_filter.specs.declared.rule.Rule.{Rule}
use Rattle.mb_filter.specs.Mapped.{keeps_realtime, keeps_sysex, mapped_short}

pub record Mapping : Type 0 where
  pub rules : List Rule
  pub in_sysex : Bool
  pub dropped : Bool

abbrev pub mapping : List Rule → Bool → Mapping
mapping rules in_sysex = record { rules = rules; in_sysex = in_sysex; dropped = in_sysex && not (keeps_sysex rules) }

abbrev pub drops : List Rule → Ev → Bool
drops rules (event.Short s) = is_none (mapped_short rules s.status s.data1 s.data2)
drops rules (event.Rt r) = not (keeps_realtime rules r.byte)
drops rules event.Open = not (keeps_sysex rules)
drops rules (event.Run bytes) = not (keeps_sysex rules)
drops rules event.End = not (keeps_sysex rules)
drops rules event.Abort = not (keeps_sysex rules)

abbrev pub IsLeft : Ev → Ev → Type 0
IsLeft (event.Short s) left = (t : Short) × (left ≡ event.Short t)
IsLeft e left = left ≡ e

abbrev pub kept : Option Ev → List Sign
kept None = []
kept (Some e) = signs_of_event e

abbrev pub short_sign : Option Short → Option Sign
short_sign None = None
short_sign (Some s) = Some (ShortSign s.status s.data1 s.data2)

abbrev pub short_event : Option Short → Option Ev
short_event None = None
short_event (Some s) = Some (event.Short s)
