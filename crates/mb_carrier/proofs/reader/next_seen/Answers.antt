use Rattle.mb_carrier.specs.declared.reader.ReaderOf.TheVariants as reader
use Rattle.mb_carrier.proofs.PortLemmas.{goes-by, told_all-by}
use Rattle.mb_carrier.proofs.reader.next_seen.Goals as goal

pub returns-in-Din-clause-goes : goal.returns-in-Din-clause-goes
returns-in-Din-clause-goes c = goes-by _ (reader.Din c.in-Din.reader) _ _ _ _ _ c.in-Din.is c.next.ensures.goes

pub returns-in-Din-clause-all_told : goal.returns-in-Din-clause-all_told
returns-in-Din-clause-all_told c = told_all-by _ _ (reader.Din c.in-Din.reader) _ c.in-Din.is c.next.ensures.all_told

pub returns-in-Usb-clause-goes : goal.returns-in-Usb-clause-goes
returns-in-Usb-clause-goes c = goes-by _ (reader.Usb c.in-Usb.reader) _ _ _ _ _ c.in-Usb.is c.next-in-Usb.ensures.goes

pub returns-in-Usb-clause-all_told : goal.returns-in-Usb-clause-all_told
returns-in-Usb-clause-all_told c = told_all-by _ _
    (reader.Usb c.in-Usb.reader) _ c.in-Usb.is c.next-in-Usb.ensures.all_told

pub returns-in-Fire-clause-goes : goal.returns-in-Fire-clause-goes
returns-in-Fire-clause-goes c =
    goes-by _ (reader.Fire c.in-Fire.reader) _ _ _ _ _ c.in-Fire.is c.next-in-Fire.ensures.goes

pub returns-in-Fire-clause-all_told : goal.returns-in-Fire-clause-all_told
returns-in-Fire-clause-all_told c = told_all-by _ _
    (reader.Fire c.in-Fire.reader) _ c.in-Fire.is c.next-in-Fire.ensures.all_told

pub returns-in-Ble-clause-goes : goal.returns-in-Ble-clause-goes
returns-in-Ble-clause-goes c =
    goes-by _ (reader.Ble c.in-Ble.reader) _ _ _ _ _ c.in-Ble.is c.next-in-Ble.ensures.goes

pub returns-in-Ble-clause-all_told : goal.returns-in-Ble-clause-all_told
returns-in-Ble-clause-all_told c = told_all-by _ _
    (reader.Ble c.in-Ble.reader) _ c.in-Ble.is c.next-in-Ble.ensures.all_told
