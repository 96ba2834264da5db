use Rattle.std.proofs.Common.{[], sym, subst}
use Rattle.mb_outside.specs.Taking.{TookFront}
use Rattle.mb_top.proofs.RecordLemmas.{at-spec, if-full, if-refused, record-by, recorded-kept, recorded-quiet}
use Rattle.mb_top.proofs.job.record_end.Goals as goal

pub returns-in-Ok-clause-ended : goal.returns-in-Ok-clause-ended
returns-in-Ok-clause-ended g c = λ s bytes h.
    let stands = record-by s c.in-Some.recording bytes _ c.in-Some.is h in
    recorded-quiet s c.in-Some.recording bytes (λ x. g.K.Out.took c.args.out.now x c.finish.new.out) stands
    (c.in-Ok.ensures.took bytes stands.1) (c.in-Ok.ensures.can bytes stands.1)

pub returns-in-Err-Full-clause-ended : goal.returns-in-Err-Full-clause-ended
returns-in-Err-Full-clause-ended g c = λ s bytes h.
    let stands = record-by s c.in-Some.recording bytes _ c.in-Some.is h in
    recorded-kept s c.in-Some.recording bytes (λ x. g.K.Out.took c.args.out.now x c.finish.new.out) c.in-Err-Full.full _
    stands c.of_full.ensures
    (subst (λ o. g.K.Out.took c.args.out.now [] o)
    (sym (if-full _ c.in-Err-Full.full _ c.in-Err-Full.field-0-is c.in-Err-Full.ensures.untouched))
    (g.met.K.Out.nothing c.args.out.now))
    (if-full _ c.in-Err-Full.full _ c.in-Err-Full.field-0-is (c.in-Err-Full.ensures.full bytes stands.1))

pub returns-in-Err-Refused-clause-halted : goal.returns-in-Err-Refused-clause-halted
returns-in-Err-Refused-clause-halted g c = λ s bytes h.
    let stands = record-by s c.in-Some.recording bytes _ c.in-Some.is h in
    at-spec s c.in-Some.recording bytes (TookFront g.K.Out.took c.args.out.now c.finish.new.out) stands
    (if-refused _ c.in-Err-Refused.refused _ c.in-Err-Refused.field-0-is (c.in-Err-Refused.ensures.front bytes stands.1))
