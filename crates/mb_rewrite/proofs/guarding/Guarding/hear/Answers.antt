use Rattle.std.proofs.Common.{ap, subst, sym, ℕ}
use Rattle.std.proofs.lemmas.Result.{on_err_weaker}
use Rattle.mb_message.specs.Signs.{signs_of_event}
use Rattle.mb_stream.specs.Puts.{puts_at}
use Rattle.mb_rewrite.specs.Line.{LineHalted}
use Rattle.mb_rewrite.proofs.guarding.Guarding.hear.Goals as goal

pub returns-clause-err : goal.returns-clause-err
returns-clause-err g c =
    on_err_weaker c.put.result
    (λ halted. subst (λ (m : ℕ). LineHalted c.args.self.now.line (puts_at m (signs_of_event c.args.ev))
    c.args.held.now.items (λ given. g.K.Out.took c.args.out.now given c.put.new.out)) c.moment.ensures halted)
    c.put.ensures.err
