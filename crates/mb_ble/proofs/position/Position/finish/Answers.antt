use Rattle.std.proofs.Common.{ap, refl}
use Rattle.mb_ble.specs.declared.content.Content.{Content}
use Rattle.mb_ble.proofs.Ends.{finish_tells, finish_fit}
use Rattle.mb_ble.proofs.position.Position.finish.Goals as goal

pub returns-clause-told : goal.returns-clause-told
returns-clause-told c = finish_tells c.args.self.now _ _ _ c.requires.fit (ap (λ (k : Content). k.clock.moment)
    c.finish.ensures.state) c.finish.ensures.told refl

pub returns-clause-fit : goal.returns-clause-fit
returns-clause-fit c = finish_fit c.args.self.now c.finish.new.self c.finish.ensures.state
    (ap (λ s. s.offset) c.finish.ensures.as_fresh) c.requires.fit
