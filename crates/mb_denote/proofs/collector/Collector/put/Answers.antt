use Rattle.std.proofs.Common.{[], ◌∷◌, ◌++◌, sym, subst}
use Rattle.std.proofs.lemmas.Result.{on_ok_weaker}
use Rattle.mb_message.specs.Signs.{sign_of}
use Rattle.mb_denote.specs.Collected.{Collected, Stands}
use Rattle.mb_denote.proofs.CollectLemmas.{Stands_put}
use Rattle.mb_denote.proofs.collector.Collector.put.Goals as goal

pub returns-clause-stands : goal.returns-clause-stands
returns-clause-stands c = on_ok_weaker c.collect.result
    (λ taken marks h. subst (λ (v : Collected). Stands v (marks ++ sign_of c.args.mark ∷ [])) (sym taken)
    (Stands_put c.args.self.now (sign_of c.args.mark) marks c.requires.suits h))
    c.collect.ensures.ok
