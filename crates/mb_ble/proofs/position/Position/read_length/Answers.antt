use Rattle.std.proofs.Common.{◌∙◌, ap, refl, sym, map}
use Rattle.mb_ble.specs.declared.content.Content.{Content}
use Rattle.mb_ble.proofs.Whole.{length_first, length_second}
use Rattle.mb_ble.proofs.position.Position.read_length.Goals as goal

pub returns-in_default-length-clause-tells : goal.returns-in_default-length-clause-tells
returns-in_default-length-clause-tells c = length_first c.args.self.now _ c.args.input.now.now c.in-Some.rest.now
    c.in-Some.byte.now c.in-Some.ensures.cases.0 refl c.length.ensures.place (sym c.length.ensures.length ∙
    c.in_default-length.is) c.requires.end c.requires.between

pub returns-clause-tells : goal.returns-clause-tells
returns-clause-tells c = length_second c.args.self.now _ c.args.input.now.now c.in-Some.rest.now c.in-Some.byte.now
    c.in-Some-length.len _ _ c.in-Some.ensures.cases.0 c.requires.fit c.enter.ensures.state c.length.ensures.place
    (sym c.in-Some-length.ensures.length)
    (ap (λ (k : Content). k.clock.moment) c.enter.ensures.state)
    (ap (λ z. map (λ t. record { moment = c.enter.new.self.clock.moment; told = t }) z) c.enter.ensures.told)

pub returns-clause-longest : goal.returns-clause-longest
returns-clause-longest c = c.enter.ensures.longest
