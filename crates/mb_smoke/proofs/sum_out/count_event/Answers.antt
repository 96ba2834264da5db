use Rattle.std.proofs.Common.{List, ◌++◌, sym, ap, subst}
use Rattle.mb_message.specs.Signs.{Sign, signs_of_event}
use Rattle.mb_denote.specs.Counted.{Counted}
use Rattle.mb_smoke.proofs.SumLemmas.{run-counted}
use Rattle.mb_smoke.proofs.sum_out.count_event.Goals as goal

pub returns-in-Run : goal.returns-in-Run
returns-in-Run c = λ marks h.
    subst (λ (ms : List Sign). Counted c.args.counts.now (marks ++ ms)) (sym (ap signs_of_event c.in-Run.is))
    (run-counted c.args.counts.now marks _ h)
