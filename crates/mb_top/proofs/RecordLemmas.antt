-- A tape that is recorded, as a job says it.
use Rattle.std.proofs.Common.{◌≡◌, ℕ, ◌≤◌, ◌^◌, Bool, not, List, [], ◌++◌, length, refl, sym, ◌∙◌}
use Rattle.std.proofs.Common.{ap, subst}
use Rattle.std.specs.Prelude.{Option, None, Some, Result, Ok, Err, IfOk, OnErr}
use Rattle.mb_message.specs.Front.{IsPart}
use Rattle.mb_stream.specs.Puts.{Put}
use Rattle.mb_smf.specs.declared.writer.SmfFull.{SmfFull}
use Rattle.mb_smf.specs.declared.writer.SmfFull.TheVariants as full
use Rattle.mb_frames.specs.declared.tape.TapeFault.{TapeFault}
use Rattle.mb_carrier.specs.declared.spec.Spec.{Spec}
use Rattle.mb_carrier.proofs.Fronts.{front-then}
use Rattle.mb_track.specs.Track.{track_end, track_marks, track_marks_so_far, track_whole}
use Rattle.mb_tapes.specs.Recorded.{CanBeRecorded, FirstLeftOut, recorded_file}
use Rattle.mb_tapes.specs.Recording.{IfFull, IfRefused, RecordedOn, RecordingStands, recording_spec}
use Rattle.mb_tapes.specs.declared.recording.RecordingStop.{RecordingStop}
use Rattle.mb_tapes.specs.declared.recording.RecordingStop.TheVariants as stop
use Rattle.mb_outside.specs.declared.out.Refused.{Refused}
use Rattle.mb_tapes.specs.declared.recording.Recording.{Recording}
use Rattle.mb_filter.specs.declared.rule.Rule.{Rule}
use Rattle.mb_words.specs.Command.{RecordingTape}
use Rattle.mb_top.specs.Output.{Shows, in_tape, is_whole}
use Rattle.mb_top.specs.Job.{job_task, JobStands, JobStops, JobDone, JobFed, JobEndedAs}
use Rattle.mb_top.specs.Job.{JobEndHalted, JobStopped, JobTold, KeptBy, PieceRecorded, RecordEnded, RecordStands}
use Rattle.mb_top.specs.Job.{full_fault}
use Rattle.mb_top.specs.declared.ending.Ending.{Ending}
use Rattle.mb_top.specs.declared.ending.Ending.TheVariants as ending
use Rattle.mb_top.specs.declared.fault.Fault.{Fault}
use Rattle.mb_top.specs.declared.job.Job.{Job}
use Rattle.mb_top.specs.declared.job.Job.TheVariants as job

-- a mark that is left out so far is left out of all
pub left_out-later : (marks more : List Put) (why : SmfFull) → FirstLeftOut marks why →
    FirstLeftOut (marks ++ more) why
left_out-later marks more why l =
    record {
      before = l.before;
      moment = l.moment;
      mark = l.mark;
      front = front-then _ marks _ l.front (more, refl);
      can = l.can;
      why = l.why;
    }

shows-full : (s : Spec) (tape : List ℕ) (why : SmfFull) → FirstLeftOut (track_marks s 0 tape) why →
    Shows {R = List Rule} (RecordingTape s) tape (full_fault why)
shows-full s tape (full.Gap was now) l = l
shows-full s tape full.Track l = l
shows-full s tape (full.Memory memory) l = tt

pub record-by : (s : Spec) (r : Recording) (bytes : List ℕ) (told : Option Recording) → told ≡ Some r →
    RecordStands s told bytes → RecordStands s (Some r) bytes
record-by s r bytes told e h = subst (λ (x : Option Recording). RecordStands s x bytes) e h

pub piece-recorded : (s : Spec) (old : Option Recording) (r now : Recording) (bytes piece : List ℕ)
    (told : Option TapeFault) (f : Option Fault) → old ≡ Some r → RecordStands s old bytes → f ≡ in_tape told →
    recording_spec now ≡ recording_spec r → RecordedOn (RecordingStands r) (RecordingStands now) piece told →
    PieceRecorded s (RecordStands s (Some now)) (bytes ++ piece) f
piece-recorded s old r now bytes piece None f e h is same on =
    let stands = record-by s r bytes old e h in
    subst (PieceRecorded s (RecordStands s (Some now)) (bytes ++ piece)) (sym is)
    ((same ∙ stands.0, on.stands bytes stands.1), ap in_tape (on.fault_is bytes stands.1))
piece-recorded s old r now bytes piece (Some g) f e h is same on =
    let stands = record-by s r bytes old e h in
    subst (PieceRecorded s (RecordStands s (Some now)) (bytes ++ piece)) (sym is)
    (ap in_tape (on.fault_is bytes stands.1))

pub piece-full : (s : Spec) (old : Option Recording) (r : Recording) (stands_now : List ℕ → Type 0)
    (bytes piece : List ℕ) (why : SmfFull) (f : Fault) → old ≡ Some r → RecordStands s old bytes → f ≡ full_fault why →
    ((all : List ℕ) → RecordingStands r all →
    FirstLeftOut (track_marks_so_far (recording_spec r) 0 (all ++ piece)) why) →
    PieceRecorded s stands_now (bytes ++ piece) (Some f)
piece-full s old r stands_now bytes piece why f e h is left_out =
    let stands = record-by s r bytes old e h in
    let tape = bytes ++ piece in
    subst (Shows {R = List Rule} (RecordingTape s) tape) (sym is)
    (shows-full s tape why
    (left_out-later (track_marks_so_far s 0 tape) (track_end s 0 tape) why
    (subst (λ (x : Spec). FirstLeftOut (track_marks_so_far x 0 tape) why) (stands.0) (left_out bytes stands.1))))

pub none-recorded : {A : Type 0} (s : Spec) (old : Option Recording) (bytes : List ℕ) → old ≡ None →
    RecordStands s old bytes → A
none-recorded s old bytes e h = absurd (subst (λ (x : Option Recording). RecordStands s x bytes) e h)

pub recorded-quiet : (s : Spec) (r : Recording) (bytes : List ℕ) (took : List ℕ → Type 0) →
    RecordStands s (Some r) bytes → took (recorded_file (recording_spec r) bytes) →
    CanBeRecorded (recording_spec r) bytes → RecordEnded s bytes ending.Quiet took
recorded-quiet s r bytes took h given can =
    (subst (λ (x : Spec). took (recorded_file x bytes)) h.0 given, subst (λ (x : Spec). CanBeRecorded x bytes) h.0 can)

pub recorded-kept : (s : Spec) (r : Recording) (bytes : List ℕ) (took : List ℕ → Type 0) (why : SmfFull) (f : Fault) →
    RecordStands s (Some r) bytes → f ≡ full_fault why → took [] →
    FirstLeftOut (track_marks (recording_spec r) 0 bytes) why → RecordEnded s bytes (ending.Kept f) took
recorded-kept s r bytes took why f h is none left_out = (
  none,
  subst (Shows {R = List Rule} (RecordingTape s) bytes) (sym is)
      (shows-full s bytes why (subst (λ (x : Spec). FirstLeftOut (track_marks x 0 bytes) why) h.0 left_out)),
)

-- a job that records

pub record-at : (j : Job) (s : Spec) (r : Option Recording) (bytes : List ℕ) → j ≡ job.Record s r →
    JobStands j bytes → RecordStands s r bytes
record-at j s r bytes e h = subst (λ (k : Job). JobStands k bytes) e h

pub job-record_given : (j : Job) (s : Spec) (r : Option Recording) (piece : List ℕ) → j ≡ job.Record s r →
    ((bytes : List ℕ) × JobStands j bytes × (length (bytes ++ piece) ≤ 2 ^ 40)) →
    (t : Spec) × (bytes : List ℕ) × RecordStands t r bytes × (length (bytes ++ piece) ≤ 2 ^ 40)
job-record_given j s r piece e w = (s, w.0, record-at j s r w.0 e w.1, w.2)

pub job-record_fed : (j : Job) (s : Spec) (r now : Option Recording) (piece : List ℕ) (f : Option Fault)
    (took : List ℕ → Type 0) → j ≡ job.Record s r → took [] →
    ((t : Spec) (bytes : List ℕ) → RecordStands t r bytes → PieceRecorded t (RecordStands t now) (bytes ++ piece) f) →
    JobFed (job_task j) (JobStands j) (JobStands (job.Record s now)) (JobStops (job.Record s now)) piece f took
job-record_fed j s r now piece f took e none recorded =
    subst (λ (k : Job). JobFed (job_task k) (JobStands k) (JobStands (job.Record s now)) (JobStops
    (job.Record s now)) piece f took) (sym e)
    (record {
      given = [];
      took_it = none;
      stands = λ unkept bytes h. stands_by f unkept bytes (recorded s bytes h);
      may_stop = λ bytes h. tt;
      beyond = λ bytes h. refl;
      kept = λ bytes h. kept_by f bytes (recorded s bytes h);
    })
  where
    stands_by : (g : Option Fault) → g ≡ None → (bytes : List ℕ) →
        PieceRecorded s (RecordStands s now) (bytes ++ piece) g → RecordStands s now (bytes ++ piece)
    stands_by None unkept bytes p = p.0
    stands_by (Some g) unkept bytes p = cc

    kept_by : (g : Option Fault) → (bytes : List ℕ) → PieceRecorded s (RecordStands s now) (bytes ++ piece) g →
        KeptBy (RecordingTape s) (bytes ++ piece) g
    kept_by None bytes p = p.1
    kept_by (Some g) bytes p = p

pub if-full : (x : RecordingStop) (why : SmfFull) (P : SmfFull → Type 0) → x ≡ stop.Full why →
    IfFull (Err x) P → P why
if-full x why P e h = subst (λ (y : RecordingStop). IfFull (Err y) P) e h

pub if-refused : (x : RecordingStop) (refused : Refused) (P : Type 0) → x ≡ stop.Refused refused →
    IfRefused (Err x) P → P
if-refused x refused P e h = subst (λ (y : RecordingStop). IfRefused (Err y) P) e h

-- what was recorded of a spec's tape, at the spec
pub at-spec : (s : Spec) (r : Recording) (bytes : List ℕ) (claim : List ℕ → Type 0) → RecordStands s (Some r) bytes →
    claim (recorded_file (recording_spec r) bytes) → claim (recorded_file s bytes)
at-spec s r bytes claim h c = subst (λ (x : Spec). claim (recorded_file x bytes)) h.0 c

pub job-record_ended : {E : Type 0} (res : Result Ending E) (j : Job) (s : Spec) (r taken now : Option Recording)
    (took : List ℕ → Type 0) → j ≡ job.Record s r → taken ≡ r →
    ((t : Spec) (bytes : List ℕ) → RecordStands t taken bytes → IfOk res (λ told. RecordEnded t bytes told took)) →
    ((bytes : List ℕ) × JobStands j bytes × (length bytes ≤ 2 ^ 40)) →
    IfOk res (λ told. JobEndedAs (job_task j) (JobStands j) (JobDone (job.Record s now)) told took)
job-record_ended (Err x) j s r taken now took e same ended w = tt
job-record_ended (Ok told) j s r taken now took e same ended w =
    subst (λ (k : Job). JobEndedAs (job_task k) (JobStands k) (JobDone (job.Record s now)) told took) (sym e)
    (by told (λ bytes h. ended s bytes (subst (λ (x : Option Recording). RecordStands s x bytes) (sym same) h)))
  where
    by : (x : Ending) → ((bytes : List ℕ) → RecordStands s r bytes → RecordEnded s bytes x took) →
        JobEndedAs (RecordingTape s) (RecordStands s r) (λ bytes. Unit {0}) x took
    by ending.Quiet all = λ bytes h. record {
      given = recorded_file s bytes;
      took_it = (all bytes h).0;
      stands = tt;
      beyond = refl;
      can = (all bytes h).1;
      notes = tt;
    }
    by ending.Noted all = λ bytes h. absurd (all bytes h)
    by (ending.Kept f) all = record {
      took_none = (all w.0 (record-at j s r w.0 e w.1)).0;
      none_live = λ bytes h. refl;
      shows = λ bytes h. (all bytes h).1;
    }

pub record-given : (j : Job) (s : Spec) (r taken : Option Recording) → j ≡ job.Record s r → taken ≡ r →
    ((bytes : List ℕ) × JobStands j bytes × (length bytes ≤ 2 ^ 40)) →
    (t : Spec) × (bytes : List ℕ) × RecordStands t taken bytes
record-given j s r taken e same w =
    (s, w.0, subst (λ (x : Option Recording). RecordStands s x w.0) (sym same) (record-at j s r w.0 e w.1))

pub job-record_end_halted : {T E : Type 0} (res : Result T E) (j : Job) (s : Spec) (r taken : Option Recording)
    (took : List ℕ → Type 0) → j ≡ job.Record s r → taken ≡ r →
    ((t : Spec) (bytes : List ℕ) → RecordStands t taken bytes →
    OnErr res ((front : List ℕ) × IsPart front (recorded_file t bytes) × took front)) →
    OnErr res (JobEndHalted (job_task j) (JobStands j) took)
job-record_end_halted (Ok x) j s r taken took e same halted = tt
job-record_end_halted (Err x) j s r taken took e same halted =
    subst (λ (k : Job). JobEndHalted (job_task k) (JobStands k) took) (sym e)
    (λ bytes h.
    let f = halted s bytes (subst (λ (y : Option Recording). RecordStands s y bytes) (sym same) h) in
    record { given = f.0; took_it = f.2; part = f.1 })

pub job-record_stopped : (j : Job) (s : Spec) (r : Option Recording) (took : List ℕ → Type 0) → j ≡ job.Record s r →
    took [] → JobStopped (job_task j) (JobStops j) took
job-record_stopped j s r took e none =
    subst (λ (k : Job). JobStopped (job_task k) (JobStops k) took) (sym e)
    (record { given = []; took_it = none; beyond = λ bytes h. refl })

pub job-record_cut : (j : Job) (s : Spec) (r : Option Recording) (cut : Bool) (bytes : List ℕ) → j ≡ job.Record s r →
    JobStands j bytes →
    ((t : Spec) (all : List ℕ) → RecordStands t r all → cut ≡ not (track_whole t 0 all)) →
    cut ≡ not (is_whole (job_task j) bytes)
job-record_cut j s r cut bytes e h law =
    law s bytes (record-at j s r bytes e h) ∙ ap (λ (k : Job). not (is_whole (job_task k) bytes)) (sym e)

pub job-record_told : (j : Job) (s : Spec) (r : Option Recording) (took : List ℕ → Type 0) → j ≡ job.Record s r →
    took [] → JobTold (job_task j) (JobDone j) took
job-record_told j s r took e none =
    subst (λ (k : Job). JobTold (job_task k) (JobDone k) took) (sym e)
    (record { given = []; took_it = none; tally = λ bytes h. refl })

pub partial-recorded : (s : Spec) (old : Option Recording) (r : Recording) (bytes : List ℕ) (cut : Bool) →
    old ≡ Some r → RecordStands s old bytes →
    ((all : List ℕ) → RecordingStands r all → cut ≡ not (track_whole (recording_spec r) 0 all)) →
    cut ≡ not (track_whole s 0 bytes)
partial-recorded s old r bytes cut e h law =
    let stands = record-by s r bytes old e h in
    law bytes stands.1 ∙ ap (λ (x : Spec). not (track_whole x 0 bytes)) stands.0
