use Rattle.mb_top.proofs.StreamLemmas.{tell-closed, tell-refused}
use Rattle.mb_top.proofs.stream.close.Goals as goal

pub returns-in-Ok-clause-told : goal.returns-in-Ok-clause-told
returns-in-Ok-clause-told g c = λ tells.
    let told = c.in-Ok.ensures.told in
    tell-closed _ _ _ _ _ _ _ _ c.at_end.ensures told (told.took_it.contents_are tells)

pub returns-in-Err-clause-told : goal.returns-in-Err-clause-told
returns-in-Err-clause-told g c = λ tells.
    let halted = c.in-Err.ensures.halted in
    tell-refused _ _ _ _ _ _ _ halted (halted.took_it.contents_are tells)
