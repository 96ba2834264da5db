-- A tape that is written in the second form, as a job says it.
use Rattle.std.proofs.Common.{◌≡◌, ℕ, Bool, not, List, [], ◌++◌, refl, sym, ◌∙◌, ap, subst, append-nil}
use Rattle.std.specs.Prelude.{Option, false}
use Rattle.mb_message.specs.Front.{IsPart}
use Rattle.mb_outside.specs.TakingLaws.{part-behind}
use Rattle.mb_frames.specs.Migrated.{migrated_from, tape2}
use Rattle.mb_frames.specs.Tapes.{fault_in}
use Rattle.mb_frames.specs.Tapes as tapes
use Rattle.mb_frames.specs.TapeSteps.{TapeState, after, ending_at, fresh}
use Rattle.mb_frames.specs.declared.tape.TapeFault.{TapeFault}
use Rattle.mb_frames.proofs.TapeLiteral.{tape-reads}
use Rattle.mb_frames.proofs.MigratingLemmas.{after-split, fault-all, tape2-then}
use Rattle.mb_words.specs.Command.{Migrating}
use Rattle.mb_top.specs.Output.{in_tape, is_whole}
use Rattle.mb_top.specs.declared.fault.Fault.{Fault}
use Rattle.mb_top.specs.Job.{job_task, JobStands, JobStops, JobDone, JobFed, JobHalted, JobEnded, JobTold}
use Rattle.mb_top.proofs.KeptLemmas.{kept-tape}
use Rattle.mb_top.specs.declared.job.Job.{Job}
use Rattle.mb_top.specs.declared.job.Job.TheVariants as job

abbrev Stands : TapeState → List ℕ → Type 0
Stands tape bytes = JobStands (job.Migrate tape) bytes

-- where the tape stands behind a piece
behind : (tape : TapeState) (bytes piece : List ℕ) → tape ≡ after fresh bytes →
    after tape piece ≡ after fresh (bytes ++ piece)
behind tape bytes piece e = ap (λ (t : TapeState). after t piece) e ∙ sym (after-split fresh bytes piece)

fed-by : (tape now : TapeState) (piece : List ℕ) (fault : Option TapeFault) (took : List ℕ → Type 0) →
    now ≡ after tape piece → fault ≡ fault_in (ending_at (after tape piece)) → took (migrated_from tape piece) →
    JobFed Migrating (Stands tape) (Stands now) (Stands now) piece (in_tape fault) took
fed-by tape now piece fault took state told given =
    record {
      given = migrated_from tape piece;
      took_it = given;
      stands = λ none bytes h. state ∙ behind tape bytes piece h;
      may_stop = λ bytes h. state ∙ behind tape bytes piece h;
      beyond = λ bytes h.
          tape2-then bytes piece ∙ ap (λ (t : TapeState). tape2 bytes ++ migrated_from t piece) (sym h);
      kept = λ bytes h. kept-tape Migrating (bytes ++ piece) fault (in_tape fault) refl (ap in_tape (fault_at bytes h));
    }
  where
    fault_at : (bytes : List ℕ) → tape ≡ after fresh bytes → tapes.tape_fault (bytes ++ piece) ≡ fault
    fault_at bytes e =
        fault-all (bytes ++ piece)
        ∙ (ap (λ (t : TapeState). fault_in (ending_at t)) (sym (behind tape bytes piece e)) ∙ sym told)

pub job-tape_fed : (j : Job) (tape now : TapeState) (piece : List ℕ) (told : Option TapeFault) (fault : Option Fault)
    (took : List ℕ → Type 0) → j ≡ job.Migrate tape → fault ≡ in_tape told → now ≡ after tape piece →
    told ≡ fault_in (ending_at (after tape piece)) → took (migrated_from tape piece) →
    JobFed (job_task j) (JobStands j) (JobStands (job.Migrate now)) (JobStops (job.Migrate now)) piece fault took
job-tape_fed j tape now piece told fault took e is state told_is given =
    subst (λ (k : Job). JobFed (job_task k) (JobStands k) (Stands now) (Stands now) piece fault took) (sym e)
    (subst (λ (x : Option Fault). JobFed Migrating (Stands tape) (Stands now) (Stands now) piece x took) (sym is)
    (fed-by tape now piece told took state told_is given))

pub job-tape_halted : (j : Job) (tape : TapeState) (piece : List ℕ) (took : List ℕ → Type 0) → j ≡ job.Migrate tape →
    ((front : List ℕ) × IsPart front (migrated_from tape piece) × took front) →
    JobHalted (job_task j) (JobStands j) piece took
job-tape_halted j tape piece took e front =
    subst (λ (k : Job). JobHalted (job_task k) (JobStands k) piece took) (sym e)
    (record {
      given = front.0;
      took_it = front.2;
      part = λ bytes h.
          subst (IsPart (tape2 bytes ++ front.0))
          (sym (tape2-then bytes piece
          ∙ ap (λ (t : TapeState). tape2 bytes ++ migrated_from t piece) (sym h)))
          (part-behind (tape2 bytes) front.0 (migrated_from tape piece) front.1);
    })

pub job-tape_ended : (j : Job) (tape : TapeState) (took : List ℕ → Type 0) → j ≡ job.Migrate tape → took [] →
    JobEnded (job_task j) (JobStands j) (JobDone j) false took
job-tape_ended j tape took e none =
    subst (λ (k : Job). JobEnded (job_task k) (JobStands k) (JobDone k) false took) (sym e)
    (λ bytes h. record {
      given = [];
      took_it = none;
      stands = tt;
      beyond = sym (append-nil (tape2 bytes));
      can = tt;
      notes = tt;
    })

pub job-tape_cut : (j : Job) (tape : TapeState) (cut : Bool) (bytes : List ℕ) → j ≡ job.Migrate tape →
    JobStands j bytes → cut ≡ not (tapes.is_whole (ending_at tape)) → cut ≡ not (is_whole (job_task j) bytes)
job-tape_cut j tape cut bytes e h told =
    let stands : Stands tape bytes = subst (λ (k : Job). JobStands k bytes) e h in
    told
    ∙ (ap (λ (t : TapeState). not (tapes.is_whole (ending_at t))) stands
    ∙ (ap (λ (x : tapes.TapeEnd). not (tapes.is_whole x)) (tape-reads bytes).ending
    ∙ ap (λ (k : Job). not (is_whole (job_task k) bytes)) (sym e)))

pub job-tape_told : (j : Job) (tape : TapeState) (took : List ℕ → Type 0) → j ≡ job.Migrate tape → took [] →
    JobTold (job_task j) (JobDone j) took
job-tape_told j tape took e none =
    subst (λ (k : Job). JobTold (job_task k) (JobDone k) took) (sym e)
    (record { given = []; took_it = none; tally = λ bytes h. refl })
