use Rattle.std.proofs.Common.{[], ◌∷◌, ◌++◌, sym, subst}
use Rattle.mb_message.specs.Signs.{sign_of}
use Rattle.mb_denote.specs.declared.counts.Counts.{Counts}
use Rattle.mb_denote.specs.Counted.{Counted}
use Rattle.mb_denote.proofs.CountLemmas.{Counted_put}
use Rattle.mb_denote.proofs.counts.Counts.put.Goals as goal

pub returns-clause-counted : goal.returns-clause-counted
returns-clause-counted c = λ marks h.
    subst (λ (v : Counts). Counted v (marks ++ sign_of c.args.mark ∷ [])) (sym c.with_mark.ensures)
    (Counted_put c.args.self.now (sign_of c.args.mark) marks h)
