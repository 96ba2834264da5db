-- Fronts of lists.
use Rattle.std.proofs.Common.{◌≡◌, List, [], ◌++◌, sym, ◌∙◌, ap, append_assoc}
use Rattle.std.proofs.lemmas.List.{append-nil}
use Rattle.mb_message.specs.Front.{IsFront}

pub front-refl : {A : Type 0} (xs : List A) → IsFront xs xs
front-refl xs = ([], sym (append-nil xs))

pub front-then : {A : Type 0} (xs ys zs : List A) → IsFront xs ys → IsFront ys zs → IsFront xs zs
front-then xs ys zs f g = (f.0 ++ g.0, g.1 ∙ (ap (λ us. us ++ g.0) f.1 ∙ append_assoc xs f.0 g.0))
