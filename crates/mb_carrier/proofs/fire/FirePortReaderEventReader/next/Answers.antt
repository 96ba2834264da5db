use Rattle.mb_carrier.proofs.FireLemmas.{port-goes, port-all_told}
use Rattle.mb_carrier.proofs.LineLemmas.{none_weaker}
use Rattle.mb_carrier.proofs.fire.FirePortReaderEventReader.next.Goals as goal

pub returns-clause-goes : goal.returns-clause-goes
returns-clause-goes c =
    port-goes c.args.self.now c.next.new.self c.args.input.now.now c.next.new.input.now _ c.next.ensures.tells

pub returns-clause-all_told : goal.returns-clause-all_told
returns-clause-all_told c = none_weaker _ (port-all_told c.args.self.now c.args.input.now.now) c.next.ensures.all_told
