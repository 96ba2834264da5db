use Rattle.std.proofs.Common.{sym, ◌∙◌, ap, arith}
use Rattle.std.proofs.lemmas.Grind.{common_steps}
use Rattle.mb_clock.specs.Clock.{stamped}
use Rattle.mb_clock.proofs.ClockLemmas.{clock_of-stamp}
use Rattle.mb_clock.proofs.unwrap.Unwrap.stamp.Goals as goal

pub returns-clause-clock : goal.returns-clause-clock
returns-clause-clock c = grind (arith, common_steps)

pub returns-clause-all : goal.returns-clause-all
returns-clause-all c = λ ps p was.
    returns-clause-clock c ∙ (ap (λ s. stamped s c.args.low) was ∙ sym (clock_of-stamp ps p c.args.low))
