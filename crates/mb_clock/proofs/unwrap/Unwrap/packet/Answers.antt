use Rattle.std.proofs.Common.{sym, ◌∙◌, ap}
use Rattle.mb_clock.specs.Clock.{begun}
use Rattle.mb_clock.proofs.ClockLemmas.{clock_of-packet}
use Rattle.mb_clock.proofs.unwrap.Unwrap.packet.Goals as goal

pub returns-clause-all : goal.returns-clause-all
returns-clause-all c = λ ps was.
    ap (λ s. begun s c.args.high) (c.self.view_is ∙ was) ∙ sym (clock_of-packet ps c.args.high c.requires)
