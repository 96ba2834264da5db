use Rattle.std.proofs.Common.{◌≡◌, ℕ, true, List, sym, subst}
use Rattle.mb_outside.specs.Contents.{Contents, after_open, is_readable, next_handle}
use Rattle.mb_outside.proofs.HandleLemmas.{readable-opened}
use Rattle.mb_calls.proofs.outside.read_file.Goals as goal

readable : (old new : Contents) (h : ℕ) (name content : List ℕ) → h ≡ next_handle old →
    new ≡ after_open name content old → is_readable new h ≡ true
readable old new h name content e f =
    subst (λ (x : Contents). is_readable x h ≡ true) (sym f)
    (subst (λ (k : ℕ). is_readable (after_open name content old) k ≡ true) (sym e) (readable-opened name content old))

pub read-requires : goal.read-requires
read-requires g c = λ tells.
    let opened = c.in-Ok.ensures.contents tells in
    readable _ _ _ _ opened.1 opened.0 opened.2
