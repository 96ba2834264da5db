use Rattle.mb_ble.specs.Reading.{ble_known}
use Rattle.mb_ble.specs.State.{ble_reader}
use Rattle.mb_carrier.proofs.BleLemmas.{port-ends, port-at, port-once}
use Rattle.mb_carrier.proofs.ble.BlePortEventReader.finish.Goals as goal

pub returns-clause-told : goal.returns-clause-told
returns-clause-told c = λ bytes stands.
    port-ends c.finish.result c.seen_in.result bytes c.seen_in.ensures (c.finish.ensures.told bytes stands)

pub returns-clause-once : goal.returns-clause-once
returns-clause-once c =
    port-once c.finish.result c.seen_in.result (ble_reader c.args.self.now.packets) c.seen_in.ensures
    c.finish.ensures.when

pub returns-clause-at : goal.returns-clause-at
returns-clause-at c = λ bytes stands moments moment_set last.
    port-at c.args.self.now.packets c.finish.new.self c.finish.ensures.last bytes (ble_known bytes) stands
