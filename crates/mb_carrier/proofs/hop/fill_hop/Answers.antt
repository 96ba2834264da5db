use Rattle.std.proofs.Common.{Some}
use Rattle.mb_carrier.specs.Port.{WriterStands}
use Rattle.mb_carrier.specs.declared.reader.ReaderOf.TheVariants as reader
use Rattle.mb_carrier.proofs.PortLemmas.{ways-read}
use Rattle.mb_carrier.proofs.hop.fill_hop.Goals as goal

pub returns-in-Din-clause-goes_on : goal.returns-in-Din-clause-goes_on
returns-in-Din-clause-goes_on c =
    ways-read _ (reader.Din c.in-Din.reader) _ _ _ (WriterStands c.args.writer.now) _ c.args.apart c.args.piece.moment
    (Some c.args.piece) _ c.args.held.now.items _
    c.in-Din.is c.fill_from.ensures.goes_on

pub returns-in-Usb-clause-goes_on : goal.returns-in-Usb-clause-goes_on
returns-in-Usb-clause-goes_on c =
    ways-read _ (reader.Usb c.in-Usb.reader) _ _ _ (WriterStands c.args.writer.now) _ c.args.apart c.args.piece.moment
    (Some c.args.piece) _ c.args.held.now.items _
    c.in-Usb.is c.fill_from-in-Usb.ensures.goes_on

pub returns-in-Fire-clause-goes_on : goal.returns-in-Fire-clause-goes_on
returns-in-Fire-clause-goes_on c =
    ways-read _ (reader.Fire c.in-Fire.reader) _ _ _ (WriterStands c.args.writer.now) _ c.args.apart c.args.piece.moment
    (Some c.args.piece) _ c.args.held.now.items _
    c.in-Fire.is c.fill_from-in-Fire.ensures.goes_on

pub returns-in-Ble-clause-goes_on : goal.returns-in-Ble-clause-goes_on
returns-in-Ble-clause-goes_on c =
    ways-read _ (reader.Ble c.in-Ble.reader) _ _ _ (WriterStands c.args.writer.now) _ c.args.apart c.args.piece.moment
    (Some c.args.piece) _ c.args.held.now.items _
    c.in-Ble.is c.fill_from-in-Ble.ensures.goes_on
