use Rattle.std.proofs.Common.{refl}
use Rattle.mb_top.proofs.JobLemmas.{job-told, job-told_part}
use Rattle.mb_top.proofs.TapeLemmas.{job-tape_told}
use Rattle.mb_top.proofs.RewriteLemmas.{rewrite-told}
use Rattle.mb_top.specs.declared.job.Job.TheVariants as job
use Rattle.mb_top.proofs.job.Job.tell.Goals as goal

pub returns-then-tally-clause-told : goal.returns-then-tally-clause-told
returns-then-tally-clause-told g c =
    job-told _ _ _ _ _ _ _ c.in-Convert.is c.if-tally.true c.requires.done c.as_slice.ensures.value
    c.tell_tally.ensures.told

pub returns-then-tally-clause-halted : goal.returns-then-tally-clause-halted
returns-then-tally-clause-halted g c =
    job-told_part _ _ _ _ _ _ _ c.in-Convert.is c.if-tally.true c.requires.done c.as_slice.ensures.value
    c.tell_tally.ensures.halted

pub returns-in-Migrate-clause-told : goal.returns-in-Migrate-clause-told
returns-in-Migrate-clause-told g c =
    job-tape_told _ c.in-Migrate.field-0 _ c.in-Migrate.is (g.met.K.Out.nothing c.args.out.now)

pub returns-in-Guard-clause-told : goal.returns-in-Guard-clause-told
returns-in-Guard-clause-told g c =
    rewrite-told _ (job.Guard c.in-Guard.field-0) _ c.in-Guard.is (g.met.K.Out.nothing c.args.out.now) (λ bytes. refl)

pub returns-in-Filter-clause-told : goal.returns-in-Filter-clause-told
returns-in-Filter-clause-told g c =
    rewrite-told _ (job.Filter c.in-Filter.field-0) _ c.in-Filter.is (g.met.K.Out.nothing c.args.out.now) (λ bytes. refl)
