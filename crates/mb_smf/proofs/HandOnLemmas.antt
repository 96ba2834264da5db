-- Bytes handed on in pieces.
use Rattle.std.proofs.Common.{◌≡◌, ℕ, List, ◌++◌, refl, subst}
use Rattle.mb_outside.specs.Taking.{TookFront}
use Rattle.mb_outside.specs.TakingLaws.{part-behind, part-within}

-- the first piece was refused
pub front-within : {S : Type 0} (took : S → List ℕ → S → Type 0) (before after : S) (first second : List ℕ) →
    TookFront took before after first → TookFront took before after (first ++ second)
front-within took before after first second f = (f.0, part-within f.0 first (first ++ second) f.1 (second, refl), f.2)

-- the second was
pub front-then : {S : Type 0} (took : S → List ℕ → S → Type 0)
    (both : (a b c : S) (x y : List ℕ) → took a x b → took b y c → took a (x ++ y) c) (before between after : S)
    (first second : List ℕ) → took before first between → TookFront took between after second →
    TookFront took before after (first ++ second)
front-then took both before between after first second t f =
    (first ++ f.0, part-behind first f.0 second f.1, both before between after first f.0 t f.2)

pub front-is : {S : Type 0} (took : S → List ℕ → S → Type 0) (before after : S) (piece whole : List ℕ) →
    piece ≡ whole → TookFront took before after piece → TookFront took before after whole
front-is took before after piece whole e f = subst (TookFront took before after) e f
