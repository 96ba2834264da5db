use Rattle.mb_carrier.proofs.BleLemmas.{port-goes, port-all_told}
use Rattle.mb_carrier.proofs.ble.BlePortEventReader.next.Goals as goal

pub returns-clause-goes : goal.returns-clause-goes
returns-clause-goes c =
    port-goes c.args.self.now.size c.args.self.now.packets c.next.new.self c.args.input.now.now c.next.new.input.now
    c.next.result c.seen_in.result c.seen_in.ensures c.next.ensures.tells c.next.ensures.moment

pub returns-clause-all_told : goal.returns-clause-all_told
returns-clause-all_told c =
    port-all_told c.args.self.now.size c.next.result c.seen_in.result c.args.self.now.packets c.args.input.now.now
    c.seen_in.ensures c.next.ensures.all_told
