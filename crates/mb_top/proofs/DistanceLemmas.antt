-- What a conversion wrote has its messages as far apart as they were read, where the last spec has stamps.
use Rattle.std.proofs.Common.{◌≡◌, ℕ, List, sym, subst}
use Rattle.mb_carrier.specs.Conversion.{through}
use Rattle.mb_carrier.specs.MessageMoments.{KeepsDistances}
use Rattle.mb_carrier.specs.Word.{AreSpecs}
use Rattle.mb_carrier.specs.declared.spec.Spec.{Spec}
use Rattle.mb_carrier.proofs.ChainMoments.{through-keeps}

pub keeps_distances : (first : Spec) (between : List Spec) (last : Spec) (read written : List ℕ) → AreSpecs between →
    written ≡ through first between last read → KeepsDistances first last read written
keeps_distances first between last read written are e =
    subst (KeepsDistances first last read) (sym e) (through-keeps first between last read are)
