use Rattle.std.proofs.lemmas.Result.{on_err_weaker, on_ok_weaker}
use Rattle.mb_top.proofs.RewriteLemmas.{rewrite-stop_halted, rewrite-stopped}
use Rattle.mb_top.specs.declared.job.Job.TheVariants as job
use Rattle.mb_top.proofs.PlayLemmas.{job-play_stop_halted, job-play_stopped}
use Rattle.mb_top.proofs.job.Job.stop.Goals as goal

pub returns-in-Play-clause-stopped : goal.returns-in-Play-clause-stopped
returns-in-Play-clause-stopped g c =
    on_ok_weaker _ (λ given. job-play_stopped _ c.in-Play.playing _ c.in-Play.is given) c.finish.ensures.given

pub returns-in-Play-clause-halted : goal.returns-in-Play-clause-halted
returns-in-Play-clause-halted g c =
    on_err_weaker _ (λ front. job-play_stop_halted _ c.in-Play.playing _ c.in-Play.is front) c.finish.ensures.part

pub returns-in-Guard-clause-stopped : goal.returns-in-Guard-clause-stopped
returns-in-Guard-clause-stopped g c =
    on_ok_weaker _ (λ ended. rewrite-stopped _ (job.Guard c.in-Guard.guarding) _ c.in-Guard.is ended)
    c.finish-in-Guard.ensures.ended

pub returns-in-Guard-clause-halted : goal.returns-in-Guard-clause-halted
returns-in-Guard-clause-halted g c =
    on_err_weaker _ (λ halted. rewrite-stop_halted _ (job.Guard c.in-Guard.guarding) _ c.in-Guard.is halted)
    c.finish-in-Guard.ensures.halted

pub returns-in-Filter-clause-stopped : goal.returns-in-Filter-clause-stopped
returns-in-Filter-clause-stopped g c =
    on_ok_weaker _ (λ ended. rewrite-stopped _ (job.Filter c.in-Filter.filtering) _ c.in-Filter.is ended)
    c.finish-in-Filter.ensures.ended

pub returns-in-Filter-clause-halted : goal.returns-in-Filter-clause-halted
returns-in-Filter-clause-halted g c =
    on_err_weaker _ (λ halted. rewrite-stop_halted _ (job.Filter c.in-Filter.filtering) _ c.in-Filter.is halted)
    c.finish-in-Filter.ensures.halted
