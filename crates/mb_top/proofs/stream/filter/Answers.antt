use Rattle.mb_top.proofs.RulesFileLemmas.{filter-none, filter-ran, filter-task}
use Rattle.mb_top.proofs.stream.filter.Goals as goal

pub returns-in-Ok-clause-ran : goal.returns-in-Ok-clause-ran
returns-in-Ok-clause-ran g c = λ tells.
    filter-ran _ _ _ _ _ _ c.in-Ok.rules _ _ (filter-task c.new.result _ _ c.new.ensures.rules c.new.ensures.spec)
    (c.in-Ok.ensures.read tells) (c.stream.ensures.ran tells)

pub returns-in-Err-clause-ran : goal.returns-in-Err-clause-ran
returns-in-Err-clause-ran g c = λ tells. filter-none _ _ _ _ _ c.in-Err.stop (c.in-Err.ensures.read tells)
