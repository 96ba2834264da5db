use Rattle.std.proofs.Common.{true, false, refl, ◌∙◌}
use Rattle.mb_top.proofs.StreamLemmas.{at_end-no_read, at_end-no_write, close-faults, end-ran, end-halted, ended-kept}
use Rattle.mb_top.proofs.StreamLemmas.{ended-noted, ended-quiet, kept-ran, may-kept}
use Rattle.mb_top.proofs.stream.end.Goals as goal

pub returns-in-Ok-Quiet-clause-ran : goal.returns-in-Ok-Quiet-clause-ran
returns-in-Ok-Quiet-clause-ran g c = λ tells bytes stands.
    let ended = ended-quiet _ _ _ _ _ c.in-Ok-Quiet.field-0-is c.in-Ok-Quiet.ensures.ended bytes stands in
    end-ran _ _ _ _ _ bytes _ _ _ _ _ c.finish.ensures.command (c.is_cut-cut.ensures bytes stands) ended
    (ended.took_it.contents_are tells) (c.close.ensures.told tells)

pub returns-in-Ok-Quiet-clause-faults : goal.returns-in-Ok-Quiet-clause-faults
returns-in-Ok-Quiet-clause-faults g c =
    close-faults _ _ _ _ _ _ _ (at_end-no_read c.is_cut-cut.result false) (at_end-no_write c.is_cut-cut.result false)
    c.in-Ok-Quiet.ensures.sound c.close.ensures.how (c.close.ensures.read_faults ∙ c.finish.ensures.read_faults)

pub returns-in-Ok-Noted-clause-ran : goal.returns-in-Ok-Noted-clause-ran
returns-in-Ok-Noted-clause-ran g c = λ tells bytes stands.
    let ended = ended-noted _ _ _ _ _ c.in-Ok-Noted.field-0-is c.in-Ok-Noted.ensures.ended bytes stands in
    end-ran _ _ _ _ _ bytes _ _ _ _ _ c.finish.ensures.command (c.is_cut-cut.ensures bytes stands) ended
    (ended.took_it.contents_are tells) (c.close-in-Ok-Noted.ensures.told tells)

pub returns-in-Ok-Noted-clause-faults : goal.returns-in-Ok-Noted-clause-faults
returns-in-Ok-Noted-clause-faults g c =
    close-faults _ _ _ _ _ _ _ (at_end-no_read c.is_cut-cut.result true) (at_end-no_write c.is_cut-cut.result true)
    c.in-Ok-Noted.ensures.sound c.close-in-Ok-Noted.ensures.how
    (c.close-in-Ok-Noted.ensures.read_faults ∙ c.finish.ensures.read_faults)

pub returns-in-Ok-Kept-clause-ran : goal.returns-in-Ok-Kept-clause-ran
returns-in-Ok-Kept-clause-ran g c = λ tells bytes stands.
    let kept = ended-kept _ _ _ _ c.in-Ok-Kept.fault _ c.in-Ok-Kept.field-0-is c.in-Ok-Kept.ensures.ended in
    kept-ran _ _ _ bytes _ c.in-Ok-Kept.fault _ stands kept (kept.took_none.contents_are tells)

pub returns-in-Ok-Kept-clause-may : goal.returns-in-Ok-Kept-clause-may
returns-in-Ok-Kept-clause-may g c =
    let kept = ended-kept _ _ _ _ c.in-Ok-Kept.fault _ c.in-Ok-Kept.field-0-is c.in-Ok-Kept.ensures.ended in
    may-kept _ _ _ c.in-Ok-Kept.fault _ refl c.requires kept

pub returns-clause-ran : goal.returns-clause-ran
returns-clause-ran g c = λ tells bytes stands.
    let halted = c.in-Err.ensures.halted bytes stands in
    end-halted _ _ _ bytes _ halted (halted.took_it.contents_are tells)
