use Rattle.std.proofs.Common.{List, ◌++◌, sym, ◌∙◌, ap, subst}
use Rattle.mb_message.specs.Signs.{Sign, signs_of_event}
use Rattle.mb_stream.specs.Reading.{told_signs}
use Rattle.mb_stream.specs.ReaderLaw.{told_by}
use Rattle.mb_denote.specs.Counted.{Counted}
use Rattle.mb_smoke.proofs.SumLemmas.{marks-told}
use Rattle.mb_smoke.proofs.sum_out.count_seen.Goals as goal

pub returns-in-Ev : goal.returns-in-Ev
returns-in-Ev c = λ marks h.
    subst (λ (ms : List Sign). Counted c.count_event.new.counts (marks ++ ms))
    (sym (ap (λ x. told_signs (told_by x)) c.in-Ev.is ∙ marks-told (signs_of_event c.in-Ev.ev)))
    (c.count_event.ensures marks h)
