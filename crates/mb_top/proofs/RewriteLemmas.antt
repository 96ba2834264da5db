-- A tape that is written again, its notes ended or as rules have it, as a job says it.
use Rattle.std.proofs.Common.{◌≡◌, ℕ, Bool, not, true, false, List, [], ◌∷◌, ◌++◌, refl, sym, ◌∙◌, ap, subst, append_assoc}
use Rattle.std.specs.Prelude.{Option}
use Rattle.std.proofs.lemmas.Grind.{flat_map-append}
use Rattle.mb_message.specs.Front.{IsFront}
use Rattle.mb_stream.specs.Puts.{Put, puts_at, signs_in}
use Rattle.mb_frames.specs.Tapes.{magic, tape_fault}
use Rattle.mb_frames.specs.Gathering.{after_magic}
use Rattle.mb_frames.specs.declared.tape.TapeFault.{TapeFault}
use Rattle.mb_filter.specs.declared.rule.Rule.{Rule}
use Rattle.mb_guard.specs.Sounding.{off_marks}
use Rattle.mb_track.specs.Track.{last_record_moment, track_end, track_marks, track_marks_so_far, track_records}
use Rattle.mb_track.proofs.GrowLemmas.{track-grows}
use Rattle.mb_carrier.specs.declared.spec.Spec.{Spec}
use Rattle.mb_rewrite.specs.Filtered.{filtered_so_far, filtered_tape, mapped_put, mapped_puts}
use Rattle.mb_rewrite.specs.Guarded.{guarded_so_far, guarded_tape}
use Rattle.mb_rewrite.specs.LineTape.{line_beyond, line_ended, line_tape}
use Rattle.mb_rewrite.specs.Guarding.{RewriteHalted, Rewrote, RewroteEnd}
use Rattle.mb_rewrite.proofs.LineLemmas.{ended-more}
use Rattle.mb_rewrite.proofs.EndLemmas.{tape-front}
use Rattle.mb_top.specs.Output.{fault_of, in_tape, is_whole, live_output_of, output_of, stopped_output_of, tally_of}
use Rattle.mb_top.specs.Output.{CanWrite, HasNoNotes}
use Rattle.mb_top.specs.Job.{job_task, JobStands, JobStops, JobDone, JobFed, JobHalted, JobEnded, JobEndHalted, JobStopped}
use Rattle.mb_top.specs.Job.{JobTold}
use Rattle.mb_top.specs.declared.fault.Fault.{Fault}
use Rattle.mb_top.proofs.KeptLemmas.{kept-tape}
use Rattle.mb_top.specs.declared.job.Job.{Job}

-- what is handed on of marks stays where more follow, and stands in the tape

line-stays : (puts more : List Put) → IsFront (after_magic (line_ended puts)) (after_magic (line_ended (puts ++ more)))
line-stays puts more = (
  line_beyond puts more,
  ap after_magic (ended-more puts more)
      ∙ sym (append_assoc (magic true) (line_ended puts) (line_beyond puts more)),
)

pub guarded-stays : (s : Spec) (bytes more : List ℕ) → IsFront (guarded_so_far s bytes) (guarded_so_far s (bytes ++ more))
guarded-stays s [] more = (guarded_so_far s more, refl)
guarded-stays s (b ∷ bs) more =
    let puts = track_marks_so_far s 0 (b ∷ bs) in
    let f = track-grows s 0 (b ∷ bs) more in
    let stays = line-stays puts f.0 in
    (stays.0, ap (λ ps. after_magic (line_ended ps)) f.1 ∙ stays.1)

pub guarded-closes : (s : Spec) (bytes : List ℕ) → IsFront (guarded_so_far s bytes) (guarded_tape s bytes)
guarded-closes s [] = (guarded_tape s [], refl)
guarded-closes s (b ∷ bs) =
    let tape = b ∷ bs in
    let so_far = track_marks_so_far s 0 tape in
    let offs = puts_at (last_record_moment (track_records tape)) (off_marks (signs_in (track_marks s 0 tape))) in
    let f = tape-front so_far (track_end s 0 tape ++ offs) in
    (f.0, ap line_tape (append_assoc so_far (track_end s 0 tape) offs) ∙ f.1)

pub filtered-stays : (rules : List Rule) (s : Spec) (bytes more : List ℕ) →
    IsFront (filtered_so_far rules s bytes) (filtered_so_far rules s (bytes ++ more))
filtered-stays rules s [] more = (filtered_so_far rules s more, refl)
filtered-stays rules s (b ∷ bs) more =
    let puts = track_marks_so_far s 0 (b ∷ bs) in
    let f = track-grows s 0 (b ∷ bs) more in
    let stays = line-stays (mapped_puts rules puts) (mapped_puts rules f.0) in (
      stays.0,
      ap (λ ps. after_magic (line_ended ps))
          (ap (mapped_puts rules) f.1 ∙ flat_map-append (mapped_put rules) puts f.0)
          ∙ stays.1,
    )

pub filtered-closes : (rules : List Rule) (s : Spec) (bytes : List ℕ) →
    IsFront (filtered_so_far rules s bytes) (filtered_tape rules s bytes)
filtered-closes rules s [] = (filtered_tape rules s [], refl)
filtered-closes rules s (b ∷ bs) =
    let tape = b ∷ bs in
    let so_far = track_marks_so_far s 0 tape in
    let f = tape-front (mapped_puts rules so_far) (mapped_puts rules (track_end s 0 tape)) in
    (f.0, ap line_tape (flat_map-append (mapped_put rules) so_far (track_end s 0 tape)) ∙ f.1)

-- a job, told by what it is

pub rewrite-fed : (j k now : Job) (piece : List ℕ) (told : Option TapeFault) (fault : Option Fault)
    (took : List ℕ → Type 0) → j ≡ k → fault ≡ in_tape told →
    ((input : List ℕ) → fault_of (job_task k) input ≡ in_tape (tape_fault input)) →
    ((bytes : List ℕ) → JobStands now bytes → JobStops now bytes) →
    Rewrote (JobStands k) (JobStands now) (live_output_of (job_task k)) piece told took →
    JobFed (job_task j) (JobStands j) (JobStands now) (JobStops now) piece fault took
rewrite-fed j k now piece told fault took e is of_tape stops r =
    subst (λ (x : Job). JobFed (job_task x) (JobStands x) (JobStands now) (JobStops now) piece fault took) (sym e)
    (record {
      given = r.given;
      took_it = r.took_it;
      stands = λ none. r.stands;
      may_stop = λ bytes h. stops (bytes ++ piece) (r.stands bytes h);
      beyond = r.beyond;
      kept = λ bytes h. kept-tape (job_task k) (bytes ++ piece) told fault is
          (of_tape (bytes ++ piece) ∙ ap in_tape (r.fault_is bytes h));
    })

pub rewrite-halted : (j k : Job) (piece : List ℕ) (took : List ℕ → Type 0) → j ≡ k →
    RewriteHalted (JobStands k) (live_output_of (job_task k)) (λ bytes. live_output_of (job_task k) (bytes ++ piece)) took →
    JobHalted (job_task j) (JobStands j) piece took
rewrite-halted j k piece took e r =
    subst (λ (x : Job). JobHalted (job_task x) (JobStands x) piece took) (sym e)
    (record { given = r.given; took_it = r.took_it; part = r.part })

pub rewrite-ended : (j k now : Job) (took : List ℕ → Type 0) → j ≡ k →
    RewroteEnd (JobStands k) (live_output_of (job_task k)) (output_of (job_task k)) took →
    ((bytes : List ℕ) → JobDone now bytes) → ((bytes : List ℕ) → CanWrite (job_task k) bytes) →
    ((bytes : List ℕ) → HasNoNotes (job_task k) bytes) →
    JobEnded (job_task j) (JobStands j) (JobDone now) false took
rewrite-ended j k now took e r done can notes =
    subst (λ (x : Job). JobEnded (job_task x) (JobStands x) (JobDone now) false took) (sym e)
    (λ bytes h. record {
      given = r.given;
      took_it = r.took_it;
      stands = done bytes;
      beyond = r.beyond bytes h;
      can = can bytes;
      notes = notes bytes;
    })

pub rewrite-stopped : (j k : Job) (took : List ℕ → Type 0) → j ≡ k →
    RewroteEnd (JobStops k) (live_output_of (job_task k)) (stopped_output_of (job_task k)) took →
    JobStopped (job_task j) (JobStops j) took
rewrite-stopped j k took e r =
    subst (λ (x : Job). JobStopped (job_task x) (JobStops x) took) (sym e)
    (record { given = r.given; took_it = r.took_it; beyond = r.beyond })

pub rewrite-end_halted : (j k : Job) (took : List ℕ → Type 0) → j ≡ k →
    RewriteHalted (JobStands k) (live_output_of (job_task k)) (output_of (job_task k)) took →
    JobEndHalted (job_task j) (JobStands j) took
rewrite-end_halted j k took e r =
    subst (λ (x : Job). JobEndHalted (job_task x) (JobStands x) took) (sym e)
    (λ bytes h. record { given = r.given; took_it = r.took_it; part = r.part bytes h })

pub rewrite-stop_halted : (j k : Job) (took : List ℕ → Type 0) → j ≡ k →
    RewriteHalted (JobStops k) (live_output_of (job_task k)) (output_of (job_task k)) took →
    JobEndHalted (job_task j) (JobStops j) took
rewrite-stop_halted j k took e r =
    subst (λ (x : Job). JobEndHalted (job_task x) (JobStops x) took) (sym e)
    (λ bytes h. record { given = r.given; took_it = r.took_it; part = r.part bytes h })

pub rewrite-cut : (j k : Job) (cut : Bool) (bytes : List ℕ) → j ≡ k → JobStands j bytes →
    ((all : List ℕ) → JobStands k all → cut ≡ not (is_whole (job_task k) all)) →
    cut ≡ not (is_whole (job_task j) bytes)
rewrite-cut j k cut bytes e h law =
    law bytes (subst (λ (x : Job). JobStands x bytes) e h) ∙ ap (λ (x : Job). not (is_whole (job_task x) bytes)) (sym e)

pub rewrite-told : (j k : Job) (took : List ℕ → Type 0) → j ≡ k → took [] →
    ((bytes : List ℕ) → tally_of (job_task k) bytes ≡ []) → JobTold (job_task j) (JobDone j) took
rewrite-told j k took e none untold =
    subst (λ (x : Job). JobTold (job_task x) (JobDone x) took) (sym e)
    (record { given = []; took_it = none; tally = λ bytes h. sym (untold bytes) })
