-- How much any reader may tell before it takes a byte.
use Rattle.std.proofs.Common.{ℕ, zero, suc, ◌+◌, ◌≤◌, Bool, true, false, arith, Option, Some, None}
use Rattle.std.specs.Prelude.{◌==◌, if◌then◌else◌}
use Rattle.mb_message.specs.declared.note.Note.{Note}
use Rattle.mb_fire.proofs.OnlyPort.{owed-reader, owed_by-two}
use Rattle.mb_usb.specs.State as usb_state
use Rattle.mb_ble.specs.State as ble_state
use Rattle.mb_ble.specs.declared.content.Head.{Head}
use Rattle.mb_ble.specs.declared.content.Head.TheVariants as head
use Rattle.mb_carrier.specs.Port.{reader_owed, reader_owed_by}
use Rattle.mb_carrier.specs.declared.reader.PortReader.{PortReader}
use Rattle.mb_carrier.specs.declared.reader.ReaderOf.{ReaderOf}
use Rattle.mb_carrier.specs.declared.reader.ReaderOf.TheVariants as reader

owed-cable : (due : Option Note) (left owed : ℕ) → owed ≤ 1 → usb_state.owed_by due left owed ≤ 2
owed-cable (Some n) left owed few = omega arith
owed-cable None left owed few = by (left == 0) where
  by : (t : Bool) → (if t then 0 else owed) ≤ 2
  by true = omega arith
  by false = omega (arith, few)

owed-stamp : (h : Head) → ble_state.stamp_owed h ≤ 1
owed-stamp head.Between = omega arith
owed-stamp head.Header = omega arith
owed-stamp head.Skip = omega arith
owed-stamp head.Inside = omega arith
owed-stamp (head.Stamped at) = omega arith
owed-stamp head.Spent = omega arith

owed-by : (r : ReaderOf) → reader_owed_by r ≤ 2
owed-by (reader.Din r) = omega (arith, owed-reader r.progress)
owed-by (reader.Usb r) = owed-cable r.packet.due _ _ (owed-reader r.reader.progress)
owed-by (reader.Fire r) = owed_by-two r.packet.due _ _ (owed-reader r.reader.progress)
owed-by (reader.Ble r) =
    omega (arith, owed-reader r.packets.content.din.progress, owed-stamp r.packets.content.head)

pub owed-few : (r : PortReader) → reader_owed r ≤ 2
owed-few r = owed-by r.carrier
