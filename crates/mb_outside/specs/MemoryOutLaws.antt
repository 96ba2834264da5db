-- Taking in steps is taking.
use Rattle.std.proofs.Common.{ℕ, List, [], ◌++◌, refl, sym, ◌∙◌, ap, append_assoc}
use Rattle.std.proofs.lemmas.List.{append-nil}
use Rattle.mb_outside.specs.MemoryOut.{TakenState, Took}

pub took-nothing : (out : TakenState) → Took out [] out
took-nothing out = record { list = sym (append-nil out.list); room = refl }

pub took-both : (a b c : TakenState) (x y : List ℕ) → Took a x b → Took b y c → Took a (x ++ y) c
took-both a b c x y first second =
    record {
      list = second.list ∙ (ap (λ xs. xs ++ y) first.list ∙ append_assoc a.list x y);
      room = second.room ∙ first.room;
    }
