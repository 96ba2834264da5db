-- A Standard MIDI File that is played onto a tape, as a job says it.
use Rattle.std.proofs.Common.{◌≡◌, ℕ, ◌+◌, ◌<◌, ◌≤◌, ◌^◌, Bool, not, false, List, [], ◌∷◌, ◌++◌, length, refl, sym, ◌∙◌}
use Rattle.std.proofs.Common.{ap, subst, append-nil, length-append, arith}
use Rattle.std.specs.Prelude.{Option, None, Some}
use Rattle.mb_message.specs.Front.{IsFront, IsPart}
use Rattle.mb_outside.specs.TakingLaws.{part-behind}
use Rattle.mb_smf.specs.Smf.{file_fault, is_ended, smf}
use Rattle.mb_smf.specs.declared.fault.SmfFault.{SmfFault}
use Rattle.mb_tapes.specs.Played.{played, played_so_far}
use Rattle.mb_tapes.specs.Playing.{PlayingStands, fresh_playing, playing_behind, playing_end, playing_fault}
use Rattle.mb_tapes.specs.Playing.{playing_given}
use Rattle.mb_tapes.specs.declared.playing.Playing.{Playing}
use Rattle.mb_tapes.proofs.PlayedLaw as law
use Rattle.mb_tapes.proofs.PlayingLemmas.{over-fault}
use Rattle.mb_words.specs.Command.{PlayingFile}
use Rattle.mb_top.specs.Output.{in_file, is_whole}
use Rattle.mb_top.specs.Job.{job_task, JobStands, JobStops, JobDone, JobFed, JobHalted, JobEnded, JobEndHalted, JobStopped}
use Rattle.mb_top.specs.Job.{JobTold}
use Rattle.mb_top.specs.declared.fault.Fault.{Fault}
use Rattle.mb_top.proofs.KeptLemmas.{kept-file}
use Rattle.mb_top.specs.declared.job.Job.{Job}
use Rattle.mb_top.specs.declared.job.Job.TheVariants as job

-- a player that was fed these bytes
abbrev player : List ℕ → Playing
player [] = fresh_playing
player (b ∷ bs) = playing_behind fresh_playing (b ∷ bs)

player-stands : (bytes : List ℕ) → PlayingStands (player bytes) bytes
player-stands [] = refl
player-stands (b ∷ bs) = law.stands fresh_playing [] (b ∷ bs) refl (omega arith)

pub played-stays : (bytes more : List ℕ) → IsFront (played_so_far bytes) (played_so_far (bytes ++ more))
played-stays bytes [] = ([], ap played_so_far (append-nil bytes) ∙ sym (append-nil (played_so_far bytes)))
played-stays bytes (b ∷ more) = (
  playing_given (player bytes) (b ∷ more),
  law.given (player bytes) bytes (b ∷ more) (player-stands bytes) (omega arith),
)

pub played-closes : (bytes : List ℕ) → IsFront (played_so_far bytes) (played bytes)
played-closes bytes = (playing_end (player bytes), law.whole (player bytes) bytes (player-stands bytes))

-- a job that plays

pub player-at : (j : Job) (p : Playing) (bytes : List ℕ) → j ≡ job.Play p → JobStands j bytes → PlayingStands p bytes
player-at j p bytes e h = subst (λ (k : Job). JobStands k bytes) e h

pub job-play_early : (j : Job) (p : Playing) (piece : List ℕ) → j ≡ job.Play p →
    ((bytes : List ℕ) × JobStands j bytes × (length (bytes ++ piece) ≤ 2 ^ 40)) →
    p.file.file.offset + length piece < 2 ^ 63
job-play_early j p piece e w =
    omega (arith, law.offset p w.0 (player-at j p w.0 e w.1), length-append w.0 piece, w.2)

pub job-play_rests : (j : Job) (p : Playing) (piece : List ℕ) → j ≡ job.Play p →
    ((bytes : List ℕ) × JobStands j bytes × (length (bytes ++ piece) ≤ 2 ^ 40)) → p.file.owed ≡ None
job-play_rests j p piece e w = law.rests p w.0 (player-at j p w.0 e w.1)

pub job-play_fed : (j : Job) (p now : Playing) (piece : List ℕ) (told : Option SmfFault) (fault : Option Fault)
    (took : List ℕ → Type 0) → j ≡ job.Play p → 0 < length piece → fault ≡ in_file told →
    now ≡ playing_behind p piece → told ≡ playing_fault now → took (playing_given p piece) →
    JobFed (job_task j) (JobStands j) (JobStands (job.Play now)) (JobStops (job.Play now)) piece fault took
job-play_fed j p now piece told fault took e some is state told_is given =
    subst (λ (k : Job). JobFed (job_task k) (JobStands k) (JobStands (job.Play now)) (JobStops (job.Play now)) piece fault
    took) (sym e)
    (record {
      given = playing_given p piece;
      took_it = given;
      stands = λ none. stands_at;
      may_stop = stands_at;
      beyond = λ bytes h. law.given p bytes piece h some;
      kept = λ bytes h. kept-file PlayingFile (bytes ++ piece) told fault is
          (ap in_file (sym (law.fault now (bytes ++ piece) (stands_at bytes h)) ∙ sym told_is));
    })
  where
    stands_at : (bytes : List ℕ) → PlayingStands p bytes → PlayingStands now (bytes ++ piece)
    stands_at bytes h = state ∙ law.stands p bytes piece h some

pub job-play_halted : (j : Job) (p : Playing) (piece : List ℕ) (took : List ℕ → Type 0) → j ≡ job.Play p →
    0 < length piece → ((front : List ℕ) × IsPart front (playing_given p piece) × took front) →
    JobHalted (job_task j) (JobStands j) piece took
job-play_halted j p piece took e some front =
    subst (λ (k : Job). JobHalted (job_task k) (JobStands k) piece took) (sym e)
    (record {
      given = front.0;
      took_it = front.2;
      part = λ bytes h.
          subst (IsPart (played_so_far bytes ++ front.0)) (sym (law.given p bytes piece h some))
          (part-behind (played_so_far bytes) front.0 (playing_given p piece) front.1);
    })

pub job-play_ended : (j : Job) (p now : Playing) (took : List ℕ → Type 0) → j ≡ job.Play p → took (playing_end p) →
    JobEnded (job_task j) (JobStands j) (JobDone (job.Play now)) false took
job-play_ended j p now took e given =
    subst (λ (k : Job). JobEnded (job_task k) (JobStands k) (JobDone (job.Play now)) false took) (sym e)
    (λ bytes h. record {
      given = playing_end p;
      took_it = given;
      stands = tt;
      beyond = law.whole p bytes h;
      can = tt;
      notes = tt;
    })

pub job-play_stopped : (j : Job) (p : Playing) (took : List ℕ → Type 0) → j ≡ job.Play p → took (playing_end p) →
    JobStopped (job_task j) (JobStops j) took
job-play_stopped j p took e given =
    subst (λ (k : Job). JobStopped (job_task k) (JobStops k) took) (sym e)
    (record { given = playing_end p; took_it = given; beyond = λ bytes h. law.whole p bytes h })

pub job-play_end_halted : (j : Job) (p : Playing) (took : List ℕ → Type 0) → j ≡ job.Play p →
    ((front : List ℕ) × IsPart front (playing_end p) × took front) → JobEndHalted (job_task j) (JobStands j) took
job-play_end_halted j p took e front =
    subst (λ (k : Job). JobEndHalted (job_task k) (JobStands k) took) (sym e)
    (λ bytes h. record {
      given = front.0;
      took_it = front.2;
      part =
          subst (IsPart (played_so_far bytes ++ front.0)) (sym (law.whole p bytes h))
          (part-behind (played_so_far bytes) front.0 (playing_end p) front.1);
    })

pub job-play_stop_halted : (j : Job) (p : Playing) (took : List ℕ → Type 0) → j ≡ job.Play p →
    ((front : List ℕ) × IsPart front (playing_end p) × took front) → JobEndHalted (job_task j) (JobStops j) took
job-play_stop_halted j p took e front =
    subst (λ (k : Job). JobEndHalted (job_task k) (JobStops k) took) (sym e)
    (λ bytes h. record {
      given = front.0;
      took_it = front.2;
      part =
          subst (IsPart (played_so_far bytes ++ front.0)) (sym (law.whole p bytes h))
          (part-behind (played_so_far bytes) front.0 (playing_end p) front.1);
    })

pub job-play_cut : (j : Job) (p : Playing) (ended : Bool) (bytes : List ℕ) → j ≡ job.Play p → JobStands j bytes →
    ended ≡ is_ended p.file.file.place → not ended ≡ not (is_whole (job_task j) bytes)
job-play_cut j p ended bytes e h told =
    ap not (told ∙ law.ended p bytes (player-at j p bytes e h))
    ∙ ap (λ (k : Job). not (is_whole (job_task k) bytes)) (sym e)

pub job-play_told : (j : Job) (p : Playing) (took : List ℕ → Type 0) → j ≡ job.Play p → took [] →
    JobTold (job_task j) (JobDone j) took
job-play_told j p took e none =
    subst (λ (k : Job). JobTold (job_task k) (JobDone k) took) (sym e)
    (record { given = []; took_it = none; tally = λ bytes h. refl })

-- a fault of a file stays its fault, so where all of it has none, no front has one

none-some : {A : Type 0} (told : Option A) (x : A) → told ≡ None → told ≡ Some x → ⊥
none-some told x e f = let same = sym e ∙ f in cc

pub whole-sound_file : (left input : List ℕ) (f : Fault) → (smf left).fault ≡ None → IsFront input left →
    in_file (smf input).fault ≡ Some f → ⊥
whole-sound_file left input f sound front told = by (smf input).fault refl told
  where
    stays : (more : List ℕ) → left ≡ input ++ more → (g : SmfFault) → (smf input).fault ≡ Some g → ⊥
    stays [] is g e =
        none-some (smf input).fault g (ap (λ z. (smf z).fault) (sym (is ∙ append-nil input)) ∙ sound) e
    stays (b ∷ bs) is g e =
        let p = player input in
        let st = player-stands input in
        let o = over-fault p.file (b ∷ bs) g (law.rests p input st) (law.fault p input st ∙ e) in
        none-some (smf left).fault g sound
        (ap (λ z. (smf z).fault) is
        ∙ (sym (law.fault (playing_behind p (b ∷ bs)) (input ++ b ∷ bs)
        (law.stands p input (b ∷ bs) st (omega arith)))
        ∙ (ap file_fault o.state ∙ (law.fault p input st ∙ e))))

    by : (g : Option SmfFault) → (smf input).fault ≡ g → in_file g ≡ Some f → ⊥
    by None e some = cc
    by (Some g) e some = stays front.0 front.1 g e
