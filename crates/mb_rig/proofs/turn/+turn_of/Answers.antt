use Rattle.std.proofs.Common.{ℕ, List, Option, sym, subst}
use Rattle.mb_rig.specs.Turn.{TurnIs}
use Rattle.mb_rig.proofs.turn.+turn_of.Goals as goal

pub returns-clause-turn : goal.returns-clause-turn
returns-clause-turn t c =
    subst (λ (turns : List (Option ℕ)). TurnIs turns c.first_or.result) (sym c.in-Some.ensures.cases.0)
    (c.first_or.ensures.turn c.in-Some.behind.now c.turn_of.ensures.turn)
