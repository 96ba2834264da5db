use Rattle.std.proofs.Common.{arith}
use Rattle.mb_top.proofs.ChainLemmas.{links-count}
use Rattle.mb_top.proofs.JobLemmas.{chain-stands, job-cut}
use Rattle.mb_top.proofs.TapeLemmas.{job-tape_cut}
use Rattle.mb_top.proofs.RewriteLemmas.{rewrite-cut}
use Rattle.mb_top.specs.declared.job.Job.TheVariants as job
use Rattle.mb_top.proofs.job.Job.is_cut.Goals as goal

pub partial-requires : goal.partial-requires
partial-requires c =
    let chain = (chain-stands _ _ _ _ c.requires.0 c.in-Convert.is c.requires.1).0 in
    omega (arith, links-count _ _ chain.links (omega (arith, chain.some)), chain.some)

pub returns-in-Convert : goal.returns-in-Convert
returns-in-Convert c = λ bytes h. job-cut _ _ _ _ _ bytes c.in-Convert.is h c.partial.ensures

pub returns-in-Migrate : goal.returns-in-Migrate
returns-in-Migrate c = λ bytes h. job-tape_cut _ c.in-Migrate.tape _ bytes c.in-Migrate.is h
    c.partial-in-Migrate.ensures.state

pub returns-in-Guard : goal.returns-in-Guard
returns-in-Guard c = λ bytes h.
    rewrite-cut _ (job.Guard c.in-Guard.guarding) _ bytes c.in-Guard.is h c.partial-in-Guard.ensures.law

pub returns-in-Filter : goal.returns-in-Filter
returns-in-Filter c = λ bytes h.
    rewrite-cut _ (job.Filter c.in-Filter.filtering) _ bytes c.in-Filter.is h c.partial-in-Filter.ensures.law
