-- A command on its way, over a desk that tells its contents.
use Rattle.std.proofs.Common.{◌≡◌, Bool, IsTrue, ℕ, ◌+◌, ◌-◌, ◌<◌, ◌≤◌, ◌^◌, true, false, not, List, ◌++◌, [], length}
use Rattle.std.proofs.Common.{take, drop, refl, inl, inr, sym, ◌∙◌, ap, subst, append_assoc, arith, length-append}
use Rattle.std.proofs.lemmas.List.{append-nil, take-append-drop, drop_at, length-take-le, take-append-le}
use Rattle.mb_outside.specs.Contents.{Contents, Gives, after_read, after_write}
use Rattle.mb_outside.specs.ContentsLaws.{after_read-none, after_read-twice, after_write-none, after_write-twice}
use Rattle.mb_message.specs.Front.{IsFront, IsPart}
use Rattle.mb_outside.specs.Taking.{Wrote}
use Rattle.mb_outside.specs.TakingLaws.{part-front, part-within, part-differs}
use Rattle.mb_carrier.specs.Lines.{lines_known}
use Rattle.mb_carrier.proofs.Fronts.{front-then}
use Rattle.mb_carrier.proofs.GrowSpecs.{grows}
use Rattle.std.specs.Prelude.{Option, Some, None, Result, Ok, Err, IfOk, OnErr}
use Rattle.mb_frames.specs.declared.tape.TapeFault.{TapeFault}
use Rattle.mb_frames.specs.Tapes.{tape_fault}
use Rattle.mb_smf.specs.Smf.{smf}
use Rattle.mb_smf.specs.declared.fault.SmfFault.{SmfFault}
use Rattle.mb_top.specs.declared.fault.Fault.{Fault}
use Rattle.mb_top.specs.declared.fault.Fault.TheVariants as fault
use Rattle.mb_top.specs.declared.status.Stop.{Stop}
use Rattle.mb_top.proofs.ChainLemmas.{chain-none}
use Rattle.mb_top.proofs.JobLemmas.{task-stays, task-closes}
use Rattle.mb_words.specs.Command.{Command, Converting, Listing, Migrating, RecordingTape, PlayingFile, GuardingTape}
use Rattle.mb_words.specs.Command.{FilteringTape, RunningRig, Selftesting}
use Rattle.mb_top.specs.Output.{fault_of, in_file, in_tape, output_of, is_whole, live_output_of, stopped_output_of}
use Rattle.mb_top.specs.Output.{tally_of, may_want_memory, reads_tape, reads_file, records, LeavesOut, Shows, WantsMemory}
use Rattle.mb_smf.specs.declared.writer.SmfFull.{SmfFull}
use Rattle.mb_smf.specs.declared.writer.SmfFull.TheVariants as full
use Rattle.mb_top.specs.Job.{JobFed, JobHalted, JobEndedAt, JobEndHaltedAt, JobStopped, JobKept, JobTold}
use Rattle.mb_top.specs.Job.{JobEnded, JobEndedAs, JobEndHalted, JobStands, JobStops, JobTellHalted, Remarked}
use Rattle.mb_outside.specs.Cause.{Rose}
use Rattle.mb_top.specs.declared.ending.Ending.{Ending}
use Rattle.mb_top.specs.declared.ending.Ending.TheVariants as ending
use Rattle.mb_top.specs.declared.job.Job.{Job}
use Rattle.mb_top.specs.declared.job.Job.TheVariants as job
use Rattle.mb_top.specs.Output.{reads_from, takes_file, writes_at_stop}
use Rattle.mb_top.specs.Task.{Task, with_rules}
use Rattle.mb_top.proofs.RulesLemmas.{written-nothing}
use Rattle.mb_top.proofs.TaskLemmas.{got-plain, memory-task, quiet-task}
use Rattle.mb_top.specs.Answer.{EndsAs, DidAll, WroteFront, all_but_last, PIECE}
use Rattle.mb_top.specs.Ran.{Closed, CommandDid, CommandMay, CommandRan, Faulted, HasClosed, HasStopped, Ran, RanEnd, RanStop}
use Rattle.mb_top.specs.Ran.{MayAnswer, at_end}
use Rattle.mb_top.specs.Ran.{written_of}
use Rattle.mb_top.specs.declared.status.Status.{Status}
use Rattle.mb_top.specs.declared.status.Status.TheVariants.{Stopped}
use Rattle.mb_top.specs.declared.status.Stop.TheVariants.{ReadFault, Refused, TooLong, Faulty}

not-true : (b : Bool) → true ≡ not b → b ≡ false
not-true true e = cc
not-true false e = refl

not-false : (b : Bool) → false ≡ not b → b ≡ true
not-false true e = refl
not-false false e = cc

-- a tape's fault is none of a file, and the other way round
no_file : (told : Option TapeFault) (f : SmfFault) → in_tape told ≡ Some (fault.File f) → ⊥
no_file None f e = cc
no_file (Some g) f e = cc

no_tape : (told : Option SmfFault) (f : TapeFault) → in_file told ≡ Some (fault.Tape f) → ⊥
no_tape None f e = cc
no_tape (Some g) f e = cc

-- these bytes were read, which have no fault, and what is known of them was written
pub record SoFar (c : Task) (before now : Contents) (bytes : List ℕ) : Type 0 where
  pub front : IsFront bytes (before.left 0)
  pub contents : now ≡ after_write 1 (live_output_of c bytes) (after_read 0 (length bytes) before)
  pub sound : fault_of c bytes ≡ None

live-none : (c : Task) → live_output_of c [] ≡ []
live-none (Converting tally first between last) = chain-none first between last
live-none (Listing traced s) = ap (lines_known traced s) (grows s).nothing_known
live-none Migrating = refl
live-none (RecordingTape s) = refl
live-none PlayingFile = refl
live-none (GuardingTape s) = refl
live-none (FilteringTape rules s) = refl
live-none (RunningRig file) = refl
live-none (Selftesting start count) = refl

sound-none : (c : Task) → fault_of c [] ≡ None
sound-none (Converting tally first between last) = refl
sound-none (Listing traced s) = refl
sound-none Migrating = refl
sound-none (RecordingTape s) = refl
sound-none PlayingFile = refl
sound-none (GuardingTape s) = refl
sound-none (FilteringTape rules s) = refl
sound-none (RunningRig file) = refl
sound-none (Selftesting start count) = refl

pub so_far-none : (c : Task) (before : Contents) → SoFar c before before []
so_far-none c before =
    record {
      front = (before.left 0, refl);
      contents =
          sym
          (ap (λ (out : List ℕ). after_write 1 out (after_read 0 0 before)) (live-none c)
          ∙ (after_write-none 1 (after_read 0 0 before) ∙ after_read-none 0 before));
      sound = sound-none c;
    }

-- what is left behind a front
left_behind : (bytes left : List ℕ) → (f : IsFront bytes left) → drop (length bytes) left ≡ f.0
left_behind bytes left f = ap (drop (length bytes)) f.1 ∙ drop_at bytes f.0 (length bytes) refl

pub left-now : (c : Task) (before now : Contents) (bytes : List ℕ) → (s : SoFar c before now bytes) →
    now.left 0 ≡ (s.front).0
left-now c before now bytes s = ap (λ (c : Contents). c.left 0) s.contents ∙ left_behind bytes (before.left 0) s.front

-- a piece was read
pub record Read (c : Task) (before now : Contents) (bytes piece : List ℕ) : Type 0 where
  pub front : IsFront (bytes ++ piece) (before.left 0)
  pub contents : now ≡ after_write 1 (live_output_of c bytes) (after_read 0 (length (bytes ++ piece)) before)

pub read-piece : (c : Task) (before old now : Contents) (bytes buffer piece : List ℕ) (count : ℕ) →
    SoFar c before old bytes → Gives old now 0 count buffer → piece ≡ take count buffer → Read c before now bytes piece
read-piece c before old now bytes buffer piece count s g cut =
    let left = left-now c before old bytes s in
    let piece_is : piece ≡ take count (s.front).0 = cut ∙ (g.bytes ∙ ap (take count) left) in
    let within : count ≤ length (s.front).0 = subst (λ (xs : List ℕ). count ≤ length xs) left g.within in
    let size : length piece ≡ count = ap length piece_is ∙ length-take-le count (s.front).0 within in
    record {
      front = (
        drop count (s.front).0,
        (s.front).1 ∙ (ap (λ xs. bytes ++ xs) (sym (take-append-drop count (s.front).0) ∙ ap (λ xs. xs ++ drop count
            (s.front).0) (sym piece_is)) ∙ sym (append_assoc bytes piece (drop count (s.front).0))),
      );
      contents =
          g.contents
          ∙ (ap (after_read 0 count) s.contents
          ∙ (ap (after_write 1 (live_output_of c bytes))
          (after_read-twice 0 count (length bytes) before
          ∙ ap (λ (n : ℕ). after_read 0 n before)
          (sym (length-append bytes piece ∙ ap (λ n. length bytes + n) size)))));
    }

-- what the next piece gave was written
written-more : (c : Task) (before old now : Contents) (bytes piece given : List ℕ) →
    Read c before old bytes piece → now ≡ after_write 1 given old →
    live_output_of c (bytes ++ piece) ≡ live_output_of c bytes ++ given →
    now ≡ after_write 1 (live_output_of c (bytes ++ piece)) (after_read 0 (length (bytes ++ piece)) before)
written-more c before old now bytes piece given r wrote beyond =
    wrote
    ∙ (ap (after_write 1 given) r.contents
    ∙ (after_write-twice 1 (live_output_of c bytes) given (after_read 0 (length (bytes ++ piece)) before)
    ∙ ap (λ (out : List ℕ). after_write 1 out (after_read 0 (length (bytes ++ piece)) before)) (sym beyond)))

-- the next piece was written
pub so_far-more : (c : Task) (before old now : Contents) (bytes piece given : List ℕ) →
    Read c before old bytes piece → now ≡ after_write 1 given old →
    live_output_of c (bytes ++ piece) ≡ live_output_of c bytes ++ given → fault_of c (bytes ++ piece) ≡ None →
    SoFar c before now (bytes ++ piece)
so_far-more c before old now bytes piece given r wrote beyond sound =
    record {
      front = r.front;
      contents = written-more c before old now bytes piece given r wrote beyond;
      sound = sound;
    }

-- the same with nothing told of a tally
quietly : (input output : List ℕ) (before now : Contents) →
    now ≡ after_write 1 output (after_read 0 (length input) before) → now ≡ written_of input output [] before
quietly input output before now e = e ∙ sym (after_write-none 2 (after_write 1 output (after_read 0
    (length input) before)))

-- a front of some bytes is written in what is written of them
live-front : (c : Task) (p bytes : List ℕ) → IsFront p bytes → IsFront (live_output_of c p) (live_output_of c bytes)
live-front c p bytes f =
    let stays = task-stays c p f.0 in
    (stays.0, ap (λ bs. live_output_of c bs) f.1 ∙ stays.1)

-- all but the last read
all_but_last-front : (bytes piece : List ℕ) → length piece ≤ PIECE → IsFront (all_but_last PIECE (bytes ++ piece)) bytes
all_but_last-front bytes piece few =
    let n = length (bytes ++ piece) - PIECE in
    let short : length (bytes ++ piece) - PIECE ≤ length bytes = omega (arith, length-append bytes piece) in (
      drop n bytes,
      sym (take-append-drop n bytes)
          ∙ ap (λ xs. xs ++ drop n bytes) (sym (take-append-le n bytes piece short)),
    )

all_but_last-own : (bytes : List ℕ) → IsFront (all_but_last PIECE bytes) bytes
all_but_last-own bytes = (drop (length bytes - PIECE) bytes, sym (take-append-drop (length bytes - PIECE) bytes))

-- what is known of all but the last bytes was written
known-front : (c : Task) (bytes given : List ℕ) →
    IsFront (live_output_of c (all_but_last PIECE bytes)) (live_output_of c bytes ++ given)
known-front c bytes given = front-then _ _ _ (live-front c (all_but_last PIECE bytes) bytes (all_but_last-own bytes))
    (given, refl)

-- a part of what all of the input gives was written
wrote-part : (c : Task) (bytes given : List ℕ) → IsPart (live_output_of c bytes ++ given) (output_of c bytes) →
    WroteFront c bytes (live_output_of c bytes ++ given) []
wrote-part c bytes given part =
    record {
      front = part-front _ _ part;
      at_least = known-front c bytes given;
      tally_front = (tally_of c bytes, refl);
      behind = inl refl;
      unfinished = λ all told. part-differs _ _ part all;
    }

-- the input was stopped: what the answer says if what is owed was written is a premise
pub ran-stop : (c d : Task) (limit : ℕ) (before old now : Contents) (bytes : List ℕ) (stop : Stop) (status : Status) →
    d ≡ c → length bytes ≤ limit → IsFront bytes (before.left 0) →
    old ≡ after_write 1 (live_output_of c bytes) (after_read 0 (length bytes) before) →
    RanStop d bytes stop old now status →
    ((output : List ℕ) → output ≡ stopped_output_of c bytes →
    EndsAs c limit (before.left 0) bytes output [] (Stopped stop)) →
    Ran c limit before now status
ran-stop c d limit before old now bytes stop status same within front wrote told claim =
    let r : RanStop c bytes stop old now status
    = subst (λ (x : Task). RanStop x bytes stop old now status) same told in
    record {
      input = bytes;
      output = live_output_of c bytes ++ r.output;
      tally = [];
      contents = quietly bytes _ before now
          (r.contents ∙ (ap (after_write 1 r.output) wrote
          ∙ after_write-twice 1 (live_output_of c bytes) r.output (after_read 0 (length bytes) before)));
      front = front;
      within = within;
      ends = elim r.ends [
        | inl e ↦ subst
            (λ (s : Status). EndsAs c limit (before.left 0) bytes (live_output_of c bytes ++ r.output) [] s) (sym e.0)
            (claim (live_output_of c bytes ++ r.output) e.1)
        | inr e ↦ subst
            (λ (s : Status). EndsAs c limit (before.left 0) bytes (live_output_of c bytes ++ r.output) [] s) (sym e.0)
            (wrote-part c bytes r.output e.1)
      ];
    }

-- between two pieces reading failed, or the limit was reached
pub ran-read_fault : (c d : Task) (limit : ℕ) (before old now : Contents) (bytes : List ℕ) (status : Status) →
    d ≡ c → length bytes ≤ limit → SoFar c before old bytes → RanStop d bytes ReadFault old now status →
    Ran c limit before now status
ran-read_fault c d limit before old now bytes status same within s told =
    ran-stop c d limit before old now bytes ReadFault status same within s.front s.contents told
    (λ output is. (is, refl, s.sound))

pub ran-too_long : (c d : Task) (limit : ℕ) (before old now : Contents) (bytes : List ℕ) (status : Status) →
    d ≡ c → length bytes ≡ limit → SoFar c before old bytes → RanStop d bytes TooLong old now status →
    Ran c limit before now status
ran-too_long c d limit before old now bytes status same all s told =
    ran-stop c d limit before old now bytes TooLong status same (omega (arith, all)) s.front s.contents told
    (λ output is. (all, is, refl, s.sound))

-- a piece has a fault, up to which it was written
pub ran-faulty : (c d : Task) (limit count : ℕ) (before old mid now : Contents) (bytes piece given : List ℕ)
    (f : Fault) (status : Status) → d ≡ c →
    length piece ≡ count → length bytes + count ≤ limit → Read c before old bytes piece →
    mid ≡ after_write 1 given old → live_output_of c (bytes ++ piece) ≡ live_output_of c bytes ++ given →
    Shows c (bytes ++ piece) f → RanStop d (bytes ++ piece) (Faulty f) mid now status →
    Ran c limit before now status
ran-faulty c d limit count before old mid now bytes piece given f status same size within r wrote beyond fault_is told =
    ran-stop c d limit before mid now (bytes ++ piece) (Faulty f) status same
    (omega (arith, length-append bytes piece, size)) r.front
    (written-more c before old mid bytes piece given r wrote beyond) told (λ output is. (is, refl, fault_is))

may-tape : (c : Task) (input : List ℕ) (f : TapeFault) → fault_of c input ≡ Some (fault.Tape f) →
    reads_tape c ≡ true
may-tape (Converting tally first between last) input f e = cc
may-tape (Listing traced s) input f e = cc
may-tape Migrating input f e = refl
may-tape (RecordingTape s) input f e = refl
may-tape PlayingFile input f e = absurd (no_tape (smf input).fault f e)
may-tape (GuardingTape s) input f e = refl
may-tape (FilteringTape rules s) input f e = refl
may-tape (RunningRig file) input f e = cc
may-tape (Selftesting start count) input f e = cc

may-file : (c : Task) (input : List ℕ) (f : SmfFault) → fault_of c input ≡ Some (fault.File f) →
    reads_file c ≡ true
may-file (Converting tally first between last) input f e = cc
may-file (Listing traced s) input f e = cc
may-file Migrating input f e = absurd (no_file (tape_fault input) f e)
may-file (RecordingTape s) input f e = absurd (no_file (tape_fault input) f e)
may-file PlayingFile input f e = refl
may-file (GuardingTape s) input f e = absurd (no_file (tape_fault input) f e)
may-file (FilteringTape rules s) input f e = absurd (no_file (tape_fault input) f e)
may-file (RunningRig file) input f e = cc
may-file (Selftesting start count) input f e = cc

may-leave_out : (c : Task) (input : List ℕ) (why : SmfFull) → LeavesOut c input why → records c ≡ true
may-leave_out (Converting tally first between last) input why e = absurd e
may-leave_out (Listing traced s) input why e = absurd e
may-leave_out Migrating input why e = absurd e
may-leave_out (RecordingTape s) input why e = refl
may-leave_out PlayingFile input why e = absurd e
may-leave_out (GuardingTape s) input why e = absurd e
may-leave_out (FilteringTape rules s) input why e = absurd e
may-leave_out (RunningRig file) input why e = absurd e
may-leave_out (Selftesting start count) input why e = absurd e

may-want : (c : Task) (input : List ℕ) → WantsMemory c input → may_want_memory c ≡ true
may-want (Converting tally first between last) input e = e.0
may-want (Listing traced s) input e = e.0
may-want Migrating input e = e.0
may-want (RecordingTape s) input e = refl
may-want PlayingFile input e = e.0
may-want (GuardingTape s) input e = e.0
may-want (FilteringTape rules s) input e = e.0
may-want (RunningRig file) input e = e.0
may-want (Selftesting start count) input e = e.0

pub may-faulty : (c : Task) (input : List ℕ) (f : Fault) → Shows c input f → MayAnswer c (Stopped (Faulty f))
may-faulty c input (fault.Tape f) e = may-tape c input f e
may-faulty c input (fault.File f) e = may-file c input f e
may-faulty c input fault.LongTrack e = may-leave_out c input full.Track e
may-faulty c input (fault.LongGap was now) e = may-leave_out c input (full.Gap was now) e
may-faulty c input fault.Memory e = may-want c input e
may-faulty c input (fault.Rig line cause) e = absurd e
may-faulty c input (fault.Rules f) e = absurd e

-- how the stopping went, by what was handed over
pub stop-ran : (c : Task) (bytes : List ℕ) (was : List ℕ → Type 0) (took : List ℕ → Type 0) (stop : Stop)
    (before now : Contents) → was bytes → (s : JobStopped c was took) → now ≡ after_write 1 s.given before →
    RanStop c bytes stop before now (Stopped stop)
stop-ran c bytes was took stop before now stands s wrote =
    record { output = s.given; contents = wrote; ends = inl (refl, sym (s.beyond bytes stands)) }

pub stop-halted : (c : Task) (bytes : List ℕ) (took : List ℕ → Type 0) (stop : Stop)
    (before now : Contents) → (h : JobEndHaltedAt c bytes took) → now ≡ after_write 1 h.given before →
    RanStop c bytes stop before now (Stopped Refused)
stop-halted c bytes took stop before now h wrote =
    record { output = h.given; contents = wrote; ends = inr (refl, h.part) }

-- the end was read
pub at-end : (c : Task) (before old now : Contents) (bytes buffer : List ℕ) (count : ℕ) →
    SoFar c before old bytes → Gives old now 0 count buffer → count ≡ 0 → 0 < length buffer →
    (SoFar c before now bytes) × (before.left 0 ≡ bytes)
at-end c before old now bytes buffer count s g none room = (
  record {
    front = s.front;
    contents = ((g.contents ∙ ap (λ (n : ℕ). after_read 0 n old) none)
        ∙ after_read-none 0 old) ∙ s.contents;
    sound = s.sound;
  },
  (s.front).1 ∙ (ap (λ xs. bytes ++ xs) (sym (left-now c before old bytes s) ∙ g.ends none room) ∙ append-nil bytes),
)

-- what the end did, behind what was written before
pub ran-end : (c d : Task) (limit : ℕ) (before old now : Contents) (bytes : List ℕ) (status : Status) →
    d ≡ c → length bytes < limit → SoFar c before old bytes → before.left 0 ≡ bytes → RanEnd d bytes old now status →
    Ran c limit before now status
ran-end c d limit before old now bytes status same below s all r =
    record {
      input = bytes;
      output = live_output_of c bytes ++ r.output;
      tally = r.tally;
      contents =
          r.contents
          ∙ ap (after_write 2 r.tally) (ap (after_write 1 r.output) s.contents
          ∙ after_write-twice 1 (live_output_of c bytes) r.output (after_read 0 (length bytes) before));
      front = s.front;
      within = omega (arith, below);
      ends =
          subst (λ (xs : List ℕ). EndsAs c limit xs bytes (live_output_of c bytes ++ r.output) r.tally status) (sym all)
          (subst (λ (x : Task). EndsAs x limit bytes bytes
          (live_output_of x bytes ++ r.output) r.tally status) same
          (r.ends limit below (ap (λ (x : Task). fault_of x bytes) same ∙ s.sound)));
    }

-- the answer at the end, by whether the input is cut and whether it was remarked
ends-at : (c : Task) (limit : ℕ) (left input output tally : List ℕ) (cut noted : Bool) →
    DidAll c limit left input output tally → cut ≡ not (is_whole c input) →
    Remarked noted c input → EndsAs c limit left input output tally (at_end cut noted)
ends-at c limit left input output tally true noted w is_cut remarked = (w, not-true (is_whole c input) is_cut)
ends-at c limit left input output tally false true w is_cut remarked =
    (w, not-false (is_whole c input) is_cut, remarked)
ends-at c limit left input output tally false false w is_cut remarked =
    (w, not-false (is_whole c input) is_cut, remarked)

pub end-ran : (c d : Task) (before mid now : Contents) (bytes : List ℕ) (done : List ℕ → Type 0)
    (cut noted : Bool) (took : List ℕ → Type 0) (status : Status) →
    d ≡ c → cut ≡ not (is_whole c bytes) →
    (e : JobEndedAt c bytes done noted took) → mid ≡ after_write 1 e.given before →
    Closed d done cut noted mid now status → RanEnd c bytes before now status
end-ran c d before mid now bytes done cut noted took status same_command is_cut e wrote closed =
    let k : Closed c done cut noted mid now status
    = subst (λ (x : Task). Closed x done cut noted mid now status) same_command closed in
    record {
      output = e.given;
      tally = k.tally;
      contents = k.contents ∙ ap (after_write 2 k.tally) wrote;
      ends = λ limit below sound.
          elim k.ends [
            | inl x ↦
                (let w : DidAll c limit bytes bytes (live_output_of c bytes ++ e.given) k.tally =
                record {
                  all = λ reads. refl;
                  below = λ reads. below;
                  sound = sound;
                  can = e.can;
                  output_is = sym e.beyond;
                  tally_is = x.1 bytes e.stands;
                } in
                subst (λ (y : Status). EndsAs c limit bytes bytes (live_output_of c bytes ++ e.given) k.tally y)
                (sym x.0)
                (ends-at c limit bytes bytes (live_output_of c bytes ++ e.given) k.tally cut noted w is_cut
                e.notes))
            | inr x ↦
                subst (λ (y : Status). EndsAs c limit bytes bytes (live_output_of c bytes ++ e.given) k.tally y)
                (sym x.0)
                (record {
                  front = ([], e.beyond ∙ sym (append-nil (live_output_of c bytes ++ e.given)));
                  at_least = known-front c bytes e.given;
                  tally_front = part-front k.tally (tally_of c bytes) (x.1 bytes e.stands);
                  behind = inr (sym e.beyond);
                  unfinished = λ all told_all. part-differs k.tally (tally_of c bytes) (x.1 bytes e.stands) told_all;
                })
          ];
    }

-- the end shows what keeps it from being written
pub kept-ran : (c : Task) (before now : Contents) (bytes : List ℕ) (was : List ℕ → Type 0) (f : Fault)
    (took : List ℕ → Type 0) → was bytes → JobKept c was f took → now ≡ after_write 1 [] before →
    RanEnd c bytes before now (Stopped (Faulty f))
kept-ran c before now bytes was f took stands k wrote =
    record {
      output = [];
      tally = [];
      contents = wrote ∙ sym (after_write-none 2 (after_write 1 [] before));
      ends = λ limit below sound.
          (append-nil (live_output_of c bytes) ∙ sym (k.none_live bytes stands), refl, k.shows bytes stands);
    }

-- the tally was told, or a part of it
pub tell-closed : (c : Task) (done : List ℕ → Type 0) (cut noted : Bool) (before now : Contents) (status : Status)
    (tells : List ℕ → Type 0) → status ≡ at_end cut noted → (t : JobTold c done tells) →
    now ≡ after_write 2 t.given before → Closed c done cut noted before now status
tell-closed c done cut noted before now status tells same t told =
    record { tally = t.given; contents = told; ends = inl (same, t.tally) }

pub tell-refused : (c : Task) (done : List ℕ → Type 0) (cut noted : Bool) (before now : Contents)
    (tells : List ℕ → Type 0) → (h : JobTellHalted c done tells) → now ≡ after_write 2 h.given before →
    Closed c done cut noted before now (Stopped Refused)
tell-refused c done cut noted before now tells h told =
    record { tally = h.given; contents = told; ends = inr (refl, h.part) }

pub cut-at : (d c : Task) (cut : Bool) (bytes : List ℕ) → d ≡ c → cut ≡ not (is_whole d bytes) →
    cut ≡ not (is_whole c bytes)
cut-at d c cut bytes same h = h ∙ ap (λ (x : Task). not (is_whole x bytes)) same

-- the end was refused
pub end-halted : (c : Task) (before now : Contents) (bytes : List ℕ) (took : List ℕ → Type 0) →
    (h : JobEndHaltedAt c bytes took) → now ≡ after_write 1 h.given before →
    RanEnd c bytes before now (Stopped Refused)
end-halted c before now bytes took h wrote =
    record {
      output = h.given;
      tally = [];
      contents = wrote ∙ sym (after_write-none 2 (after_write 1 h.given before));
      ends = λ limit below sound. wrote-part c bytes h.given h.part;
    }

-- a piece was refused
pub ran-halted : (c : Task) (limit count : ℕ) (before old now : Contents) (bytes piece given : List ℕ) →
    length piece ≡ count → length bytes + count ≤ limit → count ≤ PIECE → Read c before old bytes piece →
    now ≡ after_write 1 given old →
    IsPart (live_output_of c bytes ++ given) (live_output_of c (bytes ++ piece)) →
    Ran c limit before now (Stopped Refused)
ran-halted c limit count before old now bytes piece given size within few s wrote part =
    record {
      input = bytes ++ piece;
      output = live_output_of c bytes ++ given;
      tally = [];
      contents =
          quietly (bytes ++ piece) _ before now
          (wrote ∙ (ap (after_write 1 given) s.contents
          ∙ after_write-twice 1 (live_output_of c bytes) given (after_read 0 (length (bytes ++ piece)) before)));
      front = s.front;
      within = omega (arith, length-append bytes piece, size);
      ends = record {
        front = part-front _ _ whole;
        at_least = front-then _ _ _ (live-front c (all_but_last PIECE (bytes ++ piece)) bytes
            (all_but_last-front bytes piece (omega (arith, size)))) (given, refl);
        tally_front = (tally_of c (bytes ++ piece), refl);
        behind = inl refl;
        unfinished = λ all told. part-differs _ _ whole all;
      };
    }
  where
    whole : IsPart (live_output_of c bytes ++ given) (output_of c (bytes ++ piece))
    whole = part-within _ _ _ part (task-closes c (bytes ++ piece))

-- what a job says, at the command that it began with
pub fed-at : (d c : Task) (was now stops : List ℕ → Type 0) (piece : List ℕ) (fault other : Option Fault)
    (took : List ℕ → Type 0) → d ≡ c → fault ≡ other →
    JobFed d was now stops piece fault took → JobFed c was now stops piece other took
fed-at d c was now stops piece fault other took same told f =
    subst (λ (x : Option Fault). JobFed c was now stops piece x took) told
    (subst (λ (x : Task). JobFed x was now stops piece fault took) same f)

pub halted-at : (d c : Task) (was : List ℕ → Type 0) (piece : List ℕ) (took : List ℕ → Type 0) → d ≡ c →
    JobHalted d was piece took → JobHalted c was piece took
halted-at d c was piece took same f = subst (λ (x : Task). JobHalted x was piece took) same f

-- the front of a buffer whose front was filled
pub piece-is : (filled rest : List ℕ) (count : ℕ) → count ≤ length filled →
    take count (filled ++ rest) ≡ take count filled
piece-is filled rest count within = take-append-le count filled rest within

pub piece-size : (filled rest : List ℕ) (count : ℕ) → count ≤ length filled →
    length (take count (filled ++ rest)) ≡ count
piece-size filled rest count within = length-take-le count (filled ++ rest) (omega (arith, length-append filled rest))

-- one more piece went through
pub so_far-fed : {S : Type 0} (tells : Bool) (contents : S → Contents) (read_faults : S → ℕ) (c : Task)
    (was goes stops : List ℕ → Type 0) (start old mid now : S) (bytes piece buffer : List ℕ) (taken count : ℕ) →
    JobFed c was goes stops piece None (λ given. Wrote tells contents read_faults 1 mid given now) →
    length bytes ≡ taken → length piece ≡ count → was bytes →
    (IsTrue tells → SoFar c (contents start) (contents old) bytes) →
    (IsTrue tells → Gives (contents old) (contents mid) 0 count buffer) → piece ≡ take count buffer →
    (all : List ℕ) × (length all ≡ taken + count) × goes all ×
    (IsTrue tells → SoFar c (contents start) (contents now) all)
so_far-fed tells contents read_faults c was goes stops start old mid now bytes piece buffer taken count f size more stands
    told gives cut = (
      bytes ++ piece,
      omega (arith, length-append bytes piece, size, more),
      f.stands refl bytes stands,
      λ t. so_far-more c (contents start) (contents mid) (contents now) bytes piece f.given
          (read-piece c (contents start) (contents old) (contents mid) bytes buffer piece count (told t) (gives t) cut)
          (f.took_it.contents_are t) (f.beyond bytes stands) (f.kept bytes stands),
    )

-- what the end shows, by its answer

pub ended-quiet : (c : Task) (was now : List ℕ → Type 0) (told : Ending) (took : List ℕ → Type 0) →
    told ≡ ending.Quiet → JobEndedAs c was now told took → JobEnded c was now false took
ended-quiet c was now told took e h = subst (λ (x : Ending). JobEndedAs c was now x took) e h

pub ended-noted : (c : Task) (was now : List ℕ → Type 0) (told : Ending) (took : List ℕ → Type 0) →
    told ≡ ending.Noted → JobEndedAs c was now told took → JobEnded c was now true took
ended-noted c was now told took e h = subst (λ (x : Ending). JobEndedAs c was now x took) e h

pub ended-kept : (c : Task) (was now : List ℕ → Type 0) (told : Ending) (f : Fault) (took : List ℕ → Type 0) →
    told ≡ ending.Kept f → JobEndedAs c was now told took → JobKept c was f took
ended-kept c was now told f took e h = subst (λ (x : Ending). JobEndedAs c was now x took) e h

pub may-kept : (c d : Task) (was : List ℕ → Type 0) (f : Fault) (took : List ℕ → Type 0) → d ≡ c →
    ((bytes : List ℕ) × was bytes × (length bytes ≤ 2 ^ 40)) → JobKept d was f took →
    MayAnswer c (Stopped (Faulty f))
may-kept c d was f took same w k =
    may-faulty c w.0 f (subst (λ (x : Task). Shows x w.0 f) same (k.shows w.0 w.1))

-- faults of reading and writing

false-true : false ≡ true → ⊥
false-true e = cc

true-false : true ≡ false → ⊥
true-false e = cc

not-read_fault : Stopped Refused ≡ Stopped ReadFault → ⊥
not-read_fault e = cc

pub stop-faults : (c d : Task) (stop : Stop) (reads reads_mid reads_now writes writes_mid writes_now : ℕ)
    (status : Status) → d ≡ c → Faulted (writes_at_stop c ≡ false) reads reads_mid writes writes_mid (Stopped stop) →
    HasStopped d stop writes_mid writes_now status → reads_now ≡ reads_mid →
    Faulted (writes_at_stop c ≡ false) reads reads_now writes writes_now status
stop-faults c d stop reads reads_mid reads_now writes writes_mid writes_now status same f how still =
    subst (λ (n : ℕ). Faulted (writes_at_stop c ≡ false) reads n writes writes_now status) (sym still)
    (elim how [
      | inl e ↦ subst (λ (s : Status). Faulted (writes_at_stop c ≡ false) reads reads_mid writes writes_now s) (sym e.0)
          (subst (λ (n : ℕ). Faulted (writes_at_stop c ≡ false) reads reads_mid writes n (Stopped stop)) (sym e.1) f)
      | inr e ↦ subst (λ (s : Status). Faulted (writes_at_stop c ≡ false) reads reads_mid writes writes_now s) (sym e.0)
          (refused e.1 e.2 (ap writes_at_stop (sym same) ∙ e.3))
    ])
  where
    refused : Rose writes_mid writes_now → writes_mid ≤ writes_now → writes_at_stop c ≡ true →
        Faulted (writes_at_stop c ≡ false) reads reads_mid writes writes_now (Stopped Refused)
    refused rose later late =
        record {
          reads_later = f.reads_later;
          writes_later = omega (arith, f.writes_later, later);
          read = λ e. absurd (not-read_fault e);
          write = λ e. omega (arith, f.writes_later, rose);
          unread = λ other quiet. absurd (false-true (sym (quiet refl) ∙ late));
          unwritten = λ other. absurd (other refl);
        }

pub close-faults : (closing : Status) (reads reads_now writes writes_mid writes_now : ℕ) (status : Status) →
    (closing ≡ Stopped ReadFault → ⊥) → (closing ≡ Stopped Refused → ⊥) → writes_mid ≡ writes →
    HasClosed closing writes_mid writes_now status → reads_now ≡ reads →
    Faulted (Unit {0}) reads reads_now writes writes_now status
close-faults closing reads reads_now writes writes_mid writes_now status no_read no_write same how still =
    elim how [
      | inl e ↦ record {
        reads_later = omega (arith, still);
        writes_later = omega (arith, same, e.1);
        read = λ h. absurd (no_read (sym e.0 ∙ h));
        write = λ h. absurd (no_write (sym e.0 ∙ h));
        unread = λ other quiet. still;
        unwritten = λ other. e.1 ∙ same;
      }
      | inr e ↦ record {
        reads_later = omega (arith, still);
        writes_later = omega (arith, same, e.2);
        read = λ h. absurd (not-read_fault (sym e.0 ∙ h));
        write = λ h. omega (arith, same, e.1);
        unread = λ other quiet. still;
        unwritten = λ other. absurd (other e.0);
      }
    ]

pub at_end-no_read : (cut noted : Bool) → at_end cut noted ≡ Stopped ReadFault → ⊥
at_end-no_read true noted e = cc
at_end-no_read false true e = cc
at_end-no_read false false e = cc

pub at_end-no_write : (cut noted : Bool) → at_end cut noted ≡ Stopped Refused → ⊥
at_end-no_write true noted e = cc
at_end-no_write false true e = cc
at_end-no_write false false e = cc

-- where the input is stopped
pub stops-later : (j : Job) (bytes : List ℕ) → JobStands j bytes → JobStops j bytes
stops-later (job.Convert tally specs chain) bytes h = h
stops-later (job.List list) bytes h = h
stops-later (job.Migrate tape) bytes h = h
stops-later (job.Record s recording) bytes h = tt
stops-later (job.Play playing) bytes h = h
stops-later (job.Guard guarding) bytes h = h
stops-later (job.Filter filtering) bytes h = h

pub stop-stands : (j : Job) (bytes piece : List ℕ) (count limit : ℕ) → JobStops j (bytes ++ piece) →
    length piece ≡ count → length bytes + count ≤ limit → limit ≤ 2 ^ 40 →
    (all : List ℕ) × JobStops j all × (length all ≤ 2 ^ 40)
stop-stands j bytes piece count limit h size within most =
    (bytes ++ piece, h, omega (arith, length-append bytes piece, size, within, most))

pub so_far-same : (c : Task) (before old now : Contents) (bytes : List ℕ) → now ≡ old → SoFar c before old bytes →
    SoFar c before now bytes
so_far-same c before old now bytes same s = record { front = s.front; contents = same ∙ s.contents; sound = s.sound }

-- the reading failed, or nothing did

pub read_fault-told : (quiet : Type 0) (reads reads_old reads_now writes writes_now : ℕ) → reads_old ≡ reads →
    writes_now ≡ writes → reads_old ≤ reads_now → Rose reads_old reads_now →
    Faulted quiet reads reads_now writes writes_now (Stopped ReadFault)
read_fault-told quiet reads reads_old reads_now writes writes_now same still later rose =
    record {
      reads_later = omega (arith, same, later);
      writes_later = omega (arith, still);
      read = λ e. omega (arith, same, rose);
      write = λ e. cc;
      unread = λ other quiet. absurd (other refl);
      unwritten = λ other. still;
    }

pub no_fault-told : (quiet : Type 0) (stop : Stop) (reads reads_now writes writes_now : ℕ) →
    (Stopped stop ≡ Stopped ReadFault → ⊥) → (Stopped stop ≡ Stopped Refused → ⊥) → reads_now ≡ reads →
    writes_now ≡ writes → Faulted quiet reads reads_now writes writes_now (Stopped stop)
no_fault-told quiet stop reads reads_now writes writes_now no_read no_write still same =
    record {
      reads_later = omega (arith, still);
      writes_later = omega (arith, same);
      read = λ e. absurd (no_read e);
      write = λ e. absurd (no_write e);
      unread = λ other quiet. still;
      unwritten = λ other. same;
    }

-- the same of another taker

pub ended-took : {E : Type 0} (res : Result Ending E) (c : Task) (was now : List ℕ → Type 0)
    (took other : List ℕ → Type 0) → ((x : List ℕ) → took x → other x) →
    IfOk res (λ told. JobEndedAs c was now told took) → IfOk res (λ told. JobEndedAs c was now told other)
ended-took (Err x) c was now took other moved h = tt
ended-took (Ok told) c was now took other moved h = by told h
  where
    at : (noted : Bool) → JobEnded c was now noted took → JobEnded c was now noted other
    at noted e = λ bytes s.
        let r = e bytes s in
        record {
          given = r.given;
          took_it = moved r.given r.took_it;
          stands = r.stands;
          beyond = r.beyond;
          can = r.can;
          notes = r.notes;
        }

    by : (x : Ending) → JobEndedAs c was now x took → JobEndedAs c was now x other
    by ending.Quiet e = at false e
    by ending.Noted e = at true e
    by (ending.Kept f) e =
        record { took_none = moved [] e.took_none; none_live = e.none_live; shows = e.shows }

pub halted-took : {T E : Type 0} (res : Result T E) (c : Task) (was : List ℕ → Type 0) (took other : List ℕ → Type 0) →
    ((x : List ℕ) → took x → other x) → OnErr res (JobEndHalted c was took) → OnErr res (JobEndHalted c was other)
halted-took (Ok x) c was took other moved h = tt
halted-took (Err x) c was took other moved h = λ bytes s.
    let r = h bytes s in record { given = r.given; took_it = moved r.given r.took_it; part = r.part }

-- a command that takes no rules began on the desk as it was
pub command-ran : (c : Command) (t : Task) (limit : ℕ) (before after : Contents) (status : Status) →
    t ≡ with_rules [] c → takes_file c ≡ false → reads_from c 0 ≡ true → Ran t limit before after status →
    CommandRan c limit before after status
command-ran c t limit before after status same plain reads ran =
    let r = subst (λ (x : Task). Ran x limit before after status) same ran in
    record {
      start = before;
      opened = inl refl;
      input = r.input;
      output = r.output;
      tally = r.tally;
      contents = r.contents;
      front = r.front;
      unread = λ none. absurd (false-true (sym none ∙ reads));
      within = r.within;
      ends = inl (record { rules = []; got_them = got-plain c before before plain; holds = r.ends });
    }

pub command-may : (c : Command) (t : Task) (status : Status) → t ≡ with_rules [] c → MayAnswer t status →
    CommandMay c status
command-may c t status same may =
    record { rules = []; may = subst (λ (x : Task). MayAnswer x status) same may }

pub command-faults : (c : Command) (t : Task) (reads reads_now writes writes_now : ℕ) (status : Status) →
    t ≡ with_rules [] c → Faulted (writes_at_stop t ≡ false) reads reads_now writes writes_now status →
    Faulted (writes_at_stop c ≡ false) reads reads_now writes writes_now status
command-faults c t reads reads_now writes writes_now status same f =
    subst (λ (stops : Bool). Faulted (stops ≡ false) reads reads_now writes writes_now status)
    (ap writes_at_stop same ∙ quiet-task [] c) f

-- what no rig's run did
pub did-stream : (c : Command) (limit : ℕ) (before after : Contents) (status : Status) → takes_file c ≡ false →
    CommandRan c limit before after status → CommandDid c limit before after status
did-stream (Converting tally first between last) limit before after status plain r = r
did-stream (Listing traced s) limit before after status plain r = r
did-stream Migrating limit before after status plain r = r
did-stream (RecordingTape s) limit before after status plain r = r
did-stream PlayingFile limit before after status plain r = r
did-stream (GuardingTape s) limit before after status plain r = r
did-stream (FilteringTape file s) limit before after status plain r = r
did-stream (RunningRig file) limit before after status plain r = absurd (true-false plain)
did-stream (Selftesting start count) limit before after status plain r = r

-- there was no memory for what a command needs
pub nothing-ran : (c : Command) (limit : ℕ) (before : Contents) → takes_file c ≡ false → may_want_memory c ≡ true →
    CommandRan c limit before before (Stopped (Faulty fault.Memory))
nothing-ran (Converting tally first between last) limit before plain e = cc
nothing-ran (Listing traced s) limit before plain e = cc
nothing-ran Migrating limit before plain e = cc
nothing-ran PlayingFile limit before plain e = cc
nothing-ran (GuardingTape s) limit before plain e = cc
nothing-ran (FilteringTape file s) limit before plain e = cc
nothing-ran (RunningRig file) limit before plain e = absurd (true-false plain)
nothing-ran (Selftesting start count) limit before plain e = cc
nothing-ran (RecordingTape s) limit before plain e =
    record {
      start = before;
      opened = inl refl;
      input = [];
      output = [];
      tally = [];
      contents = sym (written-nothing before);
      front = (before.left 0, refl);
      unread = λ e. refl;
      within = omega arith;
      ends = inl (record { rules = []; got_them = tt; holds = (refl, refl, tt) });
    }

pub memory-wanted : (c : Command) → may_want_memory c ≡ true →
    CommandMay c (Stopped (Faulty fault.Memory))
memory-wanted c e = record { rules = []; may = memory-task [] c ∙ e }
