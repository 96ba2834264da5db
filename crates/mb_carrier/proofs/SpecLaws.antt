-- The laws of a spec that is read, by its carrier.
use Rattle.mb_carrier.specs.SpecLaws.{known-stays, marks-end, marks-suit}
use Rattle.mb_carrier.specs.declared.spec.Spec.{Spec}
use Rattle.mb_carrier.proofs.ReadingLemmas.{Reads}

pub reads : (s : Spec) → Reads s
reads s = record { stays = known-stays s; ends = marks-end s; suits = marks-suit s }
