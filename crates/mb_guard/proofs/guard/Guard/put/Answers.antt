use Rattle.std.proofs.Common.{sym, subst, [], ◌∷◌, ◌++◌}
use Rattle.mb_message.specs.Signs.{sign_of}
use Rattle.mb_guard.specs.Guard.{Stands}
use Rattle.mb_guard.proofs.Sounded.{Stands-after}
use Rattle.mb_guard.proofs.guard.Guard.put.Goals as goal

pub returns-clause-stands : goal.returns-clause-stands
returns-clause-stands c = λ marks h.
    subst (λ z. Stands z (marks ++ sign_of c.args.mark ∷ [])) (sym c.hear.ensures)
    (Stands-after c.args.self.now marks (sign_of c.args.mark) h)
