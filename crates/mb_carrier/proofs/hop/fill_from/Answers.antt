use Rattle.std.proofs.Common.{Some}
use Rattle.mb_carrier.specs.declared.writer.WriterOf.TheVariants as writer
use Rattle.mb_carrier.proofs.PortLemmas.{ways-written}
use Rattle.mb_carrier.proofs.hop.fill_from.Goals as goal

pub returns-in-Din-clause-goes_on : goal.returns-in-Din-clause-goes_on
returns-in-Din-clause-goes_on g c =
    ways-written _ _ (writer.Din c.in-Din.writer) (g.R.EventReader.moment c.args.reader.now) _
    (g.R.EventReader.stands c.args.reader.now) _ _ c.args.apart _ (Some c.args.piece) _ c.args.held.now.items _
    c.in-Din.is c.fill_pair.ensures.goes_on

pub returns-in-Usb-clause-goes_on : goal.returns-in-Usb-clause-goes_on
returns-in-Usb-clause-goes_on g c =
    ways-written _ _ (writer.Usb c.in-Usb.writer) (g.R.EventReader.moment c.args.reader.now) _
    (g.R.EventReader.stands c.args.reader.now) _ _ c.args.apart _ (Some c.args.piece) _ c.args.held.now.items _
    c.in-Usb.is c.fill_own_buffer.ensures.goes_on

pub returns-in-Fire-clause-goes_on : goal.returns-in-Fire-clause-goes_on
returns-in-Fire-clause-goes_on g c =
    ways-written _ _ (writer.Fire c.in-Fire.writer) (g.R.EventReader.moment c.args.reader.now) _
    (g.R.EventReader.stands c.args.reader.now) _ _ c.args.apart _ (Some c.args.piece) _ c.args.held.now.items _
    c.in-Fire.is c.fill_pair-in-Fire.ensures.goes_on

pub returns-in-Ble-clause-goes_on : goal.returns-in-Ble-clause-goes_on
returns-in-Ble-clause-goes_on g c =
    ways-written _ _ (writer.Ble c.in-Ble.writer) (g.R.EventReader.moment c.args.reader.now) _
    (g.R.EventReader.stands c.args.reader.now) _ _ c.args.apart _ (Some c.args.piece) _ c.args.held.now.items _
    c.in-Ble.is c.fill_pair-in-Ble.ensures.goes_on
