use Rattle.std.proofs.Common.{[], ◌∷◌}
use Rattle.mb_carrier.specs.declared.spec.Spec.TheVariants.{Din, Usb}
use Rattle.mb_vectors.proofs.chain_calls.a_chain_that_is_refused_is_broken.Goals as goal

pub feed-requires-clause-specs : goal.feed-requires-clause-specs
feed-requires-clause-specs g c = (Din ∷ Usb 3 ∷ Din ∷ [], c.in-Ok.ensures.ok.0, c.in-Ok.ensures.bounds.1)
