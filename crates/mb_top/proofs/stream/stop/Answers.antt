use Rattle.mb_top.proofs.StreamLemmas.{stop-ran, stop-halted}
use Rattle.mb_top.proofs.stream.stop.Goals as goal

pub returns-in-Ok-clause-ran : goal.returns-in-Ok-clause-ran
returns-in-Ok-clause-ran g c = λ tells bytes stands.
    let stopped = c.in-Ok.ensures.stopped in
    stop-ran _ bytes _ _ _ _ _ stands stopped (stopped.took_it.contents_are tells)

pub returns-clause-ran : goal.returns-clause-ran
returns-clause-ran g c = λ tells bytes stands.
    let halted = c.in-Err.ensures.halted bytes stands in
    stop-halted _ bytes _ _ _ _ halted (halted.took_it.contents_are tells)
