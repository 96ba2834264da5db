use Rattle.std.proofs.Common.{[], ◌∷◌, ◌∙◌}
use Rattle.mb_carrier.specs.declared.spec.Spec.TheVariants.{Din, Usb}
use Rattle.mb_vectors.proofs.chain_calls.a_chain_hands_on_what_it_makes_of_each_piece.Goals as goal

pub feed-requires-clause-specs : goal.feed-requires-clause-specs
feed-requires-clause-specs g c = (Din ∷ Usb 3 ∷ Din ∷ [], c.in-Ok.ensures.ok.0, c.in-Ok.ensures.bounds.1)

pub finish-requires-clause-specs : goal.finish-requires-clause-specs
finish-requires-clause-specs g c =
    (Din ∷ Usb 3 ∷ Din ∷ [], c.feed.ensures.links ∙ c.in-Ok.ensures.ok.0, c.in-Ok.ensures.bounds.1)
