use Rattle.std.proofs.Common.{◌≡◌, ℕ, true, List, sym, subst}
use Rattle.mb_outside.specs.Contents.{Contents, after_create, is_writable, next_handle}
use Rattle.mb_outside.proofs.HandleLemmas.{writable-created}
use Rattle.mb_calls.proofs.outside.write_file.Goals as goal

writable : (old new : Contents) (h : ℕ) (name : List ℕ) → h ≡ next_handle old → new ≡ after_create name old →
    is_writable new h ≡ true
writable old new h name e f =
    subst (λ (x : Contents). is_writable x h ≡ true) (sym f)
    (subst (λ (k : ℕ). is_writable (after_create name old) k ≡ true) (sym e) (writable-created name old))

pub write-requires : goal.write-requires
write-requires g c = λ tells.
    let created = c.in-Ok.ensures.contents tells in writable _ _ _ _ created.0 created.1
