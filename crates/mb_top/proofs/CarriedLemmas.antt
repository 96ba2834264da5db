-- What each answer says of a command that writes, also where it is stopped, all that the input so far gives.
use Rattle.std.proofs.Common.{◌≡◌, ℕ, ◌↔◌, ◌&&◌, Bool, true, false, List, [], refl, sym, ◌∙◌, ap, subst, arith}
use Rattle.std.specs.Prelude.{Option, Some, None, IsSome}
use Rattle.mb_message.specs.Front.{IsFront}
use Rattle.mb_outside.specs.Contents.{Contents}
use Rattle.mb_frames.specs.Frames.{AreBytes}
use Rattle.mb_frames.specs.Tapes.{tape_fault, tape_whole}
use Rattle.mb_guard.specs.Sounding.{sounding}
use Rattle.mb_track.specs.Track.{recording, track_records, track_whole}
use Rattle.mb_track.proofs.MomentLemmas.{moments-fit}
use Rattle.mb_rewrite.specs.Guarded.{ended}
use Rattle.mb_rewrite.specs.Recorded.{track_den}
use Rattle.mb_rewrite.proofs.CarriedLemmas.{guarded-read, guarded-read-silent}
use Rattle.mb_carrier.specs.declared.spec.Spec.TheVariants.{Din}
use Rattle.mb_carrier.specs.Carrier.{whole}
use Rattle.mb_carrier.specs.declared.spec.Spec.{Spec}
use Rattle.mb_frames.specs.declared.tape.TapeFault.{TapeFault}
use Rattle.mb_smf.specs.declared.fault.SmfFault.{SmfFault}
use Rattle.mb_words.specs.Command.{Command, Converting, Listing, Migrating, RecordingTape, PlayingFile, GuardingTape}
use Rattle.mb_words.specs.Command.{FilteringTape, RunningRig, Selftesting, Means}
use Rattle.mb_top.specs.Output.{fault_of, in_file, in_tape, is_whole, output_of, stopped_output_of, LeavesOut, Shows}
use Rattle.mb_top.specs.Output.{WantsMemory}
use Rattle.mb_smf.specs.declared.writer.SmfFull.{SmfFull}
use Rattle.mb_smf.specs.declared.writer.SmfFull.TheVariants as full
use Rattle.mb_top.specs.Output.{reads_from, reads_tape, rewrites, takes_file}
use Rattle.mb_filter.specs.declared.rule.Rule.{Rule}
use Rattle.mb_top.specs.Task.{Task, with_rules}
use Rattle.mb_top.specs.Answer.{Answered, Did, EndsAs, taken_off, added_to, code_of, read_all}
use Rattle.mb_top.specs.declared.fault.Fault.{Fault}
use Rattle.mb_top.specs.declared.fault.Fault.TheVariants as fault
use Rattle.mb_top.specs.declared.status.Status.{Status}
use Rattle.mb_top.specs.declared.status.Status.TheVariants.{Done, Noted, Usage, Cut, Stopped, BadTape}
use Rattle.mb_top.specs.declared.status.Stop.TheVariants.{ReadFault, Refused, TooLong, Faulty}
use Rattle.mb_top.proofs.AnswerLemmas.{same_status}
use Rattle.mb_top.proofs.TaskLemmas.{did-plain, plain-rewrites, rewrites-task, whole-task}

wrong : true ≡ false → ⊥
wrong e = cc

-- such a command
pub record WritesAll (c : Task) : Type 0 where
  pub stopped : (input : List ℕ) → stopped_output_of c input ≡ output_of c input
  pub no_left_out : (input : List ℕ) (why : SmfFull) → LeavesOut c input why → ⊥
  pub no_want : (input : List ℕ) → WantsMemory c input → ⊥
  pub no_notes : (left input output tally : List ℕ) (limit : ℕ) → EndsAs c limit left input output tally Noted → ⊥
  pub reads : reads_from c 0 ≡ true

pub writes-all : (c : Task) → rewrites c ≡ true → WritesAll c
writes-all (Converting tally first between last) e = absurd (wrong (sym e))
writes-all (Listing traced s) e = absurd (wrong (sym e))
writes-all (RecordingTape s) e = absurd (wrong (sym e))
writes-all Migrating e = record {
  stopped = λ input. refl;
  no_left_out = λ input why e. e;
  no_want = λ input e. wrong (sym (e.0));
  no_notes = λ left input output tally limit ends. ends.2;
  reads = refl;
}
writes-all PlayingFile e = record {
  stopped = λ input. refl;
  no_left_out = λ input why e. e;
  no_want = λ input e. wrong (sym (e.0));
  no_notes = λ left input output tally limit ends. ends.2;
  reads = refl;
}
writes-all (GuardingTape s) e = record {
  stopped = λ input. refl;
  no_left_out = λ input why e. e;
  no_want = λ input e. wrong (sym (e.0));
  no_notes = λ left input output tally limit ends. ends.2;
  reads = refl;
}
writes-all (FilteringTape rules s) e = absurd (wrong (sym e))
writes-all (RunningRig file) e = absurd (wrong (sym e))
writes-all (Selftesting start count) e = absurd (wrong (sym e))

-- a filter is one by its rules
pub filter-writes-all : (rules : List Rule) (s : Spec) → WritesAll (FilteringTape rules s)
filter-writes-all rules s =
    record {
      stopped = λ input. refl;
      no_left_out = λ input why e. e;
      no_want = λ input e. wrong (sym (e.0));
      no_notes = λ left input output tally limit ends. ends.2;
      reads = refl;
    }

-- the answer tells which fault there is, if there is one
abbrev pub Tells : Option Fault → (answer : ℕ) → Type 0
Tells None n = (n ≡ 7 → ⊥) × (n ≡ 13 → ⊥)
Tells (Some (fault.Tape f)) n = n ≡ 7
Tells (Some (fault.File f)) n = n ≡ 13
Tells (Some fault.LongTrack) n = n ≡ 11
Tells (Some (fault.LongGap was now)) n = n ≡ 12
Tells (Some fault.Memory) n = n ≡ 9
Tells (Some (fault.Rig line cause)) n = n ≡ 6
Tells (Some (fault.Rules f)) n = n ≡ 14

-- no write failed
pub record Carried (c : Task) (left read written : List ℕ) (answer : ℕ) : Type 0 where
  pub written_is : written ≡ output_of c read
  pub told : Tells (fault_of c read) answer
  pub end : read_all answer ≡ true → (read ≡ left) × ((answer ≡ 5) ↔ (is_whole c read ≡ false))

sound-at : (c : Task) (read : List ℕ) (n : ℕ) → (n ≡ 7 → ⊥) → (n ≡ 13 → ⊥) → fault_of c read ≡ None →
    Tells (fault_of c read) n
sound-at c read n tape file sound = subst (λ (f : Option Fault). Tells f n) (sym sound) (tape, file)

by_status : (c : Task) (limit : ℕ) (left read written tally : List ℕ) (s : Status) → WritesAll c →
    (code_of s ≡ 4 → ⊥) → EndsAs c limit left read written tally s → Carried c left read written (code_of s)
by_status c limit left read written tally Done w other ends =
    record {
      written_is = (ends.0).output_is;
      told = sound-at c read 0 (λ e. omega (arith, e)) (λ e. omega (arith, e)) (ends.0).sound;
      end = λ all. (
        sym ((ends.0).all w.reads),
        (λ e. absurd (omega (arith, e)), λ h. absurd (wrong (sym (ends.1) ∙ h))),
      );
    }
by_status c limit left read written tally Noted w other ends = absurd (w.no_notes left read written tally limit ends)
by_status c limit left read written tally Usage w other ends = absurd ends
by_status c limit left read written tally Cut w other ends =
    record {
      written_is = (ends.0).output_is;
      told = sound-at c read 5 (λ e. omega (arith, e)) (λ e. omega (arith, e)) (ends.0).sound;
      end = λ all. (sym ((ends.0).all w.reads), (λ e. ends.1, λ h. refl));
    }
by_status c limit left read written tally (Stopped ReadFault) w other ends =
    record {
      written_is = ends.0 ∙ w.stopped read;
      told = sound-at c read 3 (λ e. omega (arith, e)) (λ e. omega (arith, e)) (ends.2);
      end = λ all. absurd (wrong (sym all));
    }
by_status c limit left read written tally (Stopped Refused) w other ends = absurd (other refl)
by_status c limit left read written tally (Stopped TooLong) w other ends =
    record {
      written_is = ends.1 ∙ w.stopped read;
      told = sound-at c read 8 (λ e. omega (arith, e)) (λ e. omega (arith, e)) (ends.3);
      end = λ all. absurd (wrong (sym all));
    }
by_status c limit left read written tally (Stopped (Faulty (fault.Tape f))) w other ends =
    record {
      written_is = ends.0 ∙ w.stopped read;
      told = subst (λ (x : Option Fault). Tells x 7) (sym (ends.2)) refl;
      end = λ all. absurd (wrong (sym all));
    }
by_status c limit left read written tally (Stopped (Faulty (fault.File f))) w other ends =
    record {
      written_is = ends.0 ∙ w.stopped read;
      told = subst (λ (x : Option Fault). Tells x 13) (sym (ends.2)) refl;
      end = λ all. absurd (wrong (sym all));
    }
by_status c limit left read written tally (Stopped (Faulty fault.LongTrack)) w other ends =
    absurd (w.no_left_out read full.Track (ends.2))
by_status c limit left read written tally (Stopped (Faulty (fault.LongGap was now))) w other ends =
    absurd (w.no_left_out read (full.Gap was now) (ends.2))
by_status c limit left read written tally (Stopped (Faulty fault.Memory)) w other ends =
    absurd (w.no_want read (ends.2))
by_status c limit left read written tally (Stopped (Faulty (fault.Rig line cause))) w other ends =
    absurd (ends.2)
by_status c limit left read written tally (BadTape name bad) w other ends = absurd ends
by_status c limit left read written tally (Stopped (Faulty (fault.Rules f))) w other ends = absurd (ends.2)

pub carried-task : (words : List (List ℕ)) (limit : ℕ) (before after : Contents) (faults faults_now answer : ℕ)
    (t : Task) → WritesAll t → (answer ≡ 4 → ⊥) → (a : Answered words limit before after faults faults_now answer) →
    Did t limit before after a.tally a.status →
    Carried t (before.left 0) (taken_off 0 before after) (added_to 1 before after) answer
carried-task words limit before after faults faults_now answer t w other a did =
    subst (Carried t (before.left 0) (taken_off 0 before after) (added_to 1 before after)) (sym a.number)
    (by_status t limit (before.left 0) (taken_off 0 before after) (added_to 1 before after) a.tally a.status w
    (λ e. other (a.number ∙ e)) did.ends)

pub carried : (words : List (List ℕ)) (limit : ℕ) (before after : Contents) (faults faults_now answer : ℕ)
    (c : Command) → rewrites c ≡ true → Means words c → (answer ≡ 4 → ⊥) →
    Answered words limit before after faults faults_now answer →
    Carried (with_rules [] c) (before.left 0) (taken_off 0 before after) (added_to 1 before after) answer
carried words limit before after faults faults_now answer c all m other a =
    carried-task words limit before after faults faults_now answer (with_rules [] c)
    (writes-all (with_rules [] c) (rewrites-task [] c ∙ all)) other a
    (did-plain c limit before after a.tally a.status (plain-rewrites c all) (a.did c m))

pub cut-carried : (c : Command) (left read written : List ℕ) (answer : ℕ) →
    Carried (with_rules [] c) left read written answer → read_all answer ≡ true →
    (read ≡ left) × ((answer ≡ 5) ↔ (is_whole c read ≡ false))
cut-carried c left read written answer r all =
    let end = r.end all in
    (end.0, subst (λ (b : Bool). (answer ≡ 5) ↔ (b ≡ false)) (whole-task [] c read) end.1)

pub not-four : (answer : ℕ) → read_all answer ≡ true → answer ≡ 4 → ⊥
not-four answer all four = wrong (sym all ∙ ap read_all four)

-- where a write failed, a front of it was written

pub part-task : (words : List (List ℕ)) (limit : ℕ) (before after : Contents) (faults faults_now answer : ℕ)
    (t : Task) → answer ≡ 4 → (a : Answered words limit before after faults faults_now answer) →
    Did t limit before after a.tally a.status →
    IsFront (added_to 1 before after) (output_of t (taken_off 0 before after))
part-task words limit before after faults faults_now answer t four a did =
    let ends : EndsAs t limit (before.left 0) (taken_off 0 before after) (added_to 1 before after) a.tally
    (Stopped Refused)
    = subst (EndsAs t limit (before.left 0) (taken_off 0 before after) (added_to 1 before after) a.tally)
    (same_status a.status (Stopped Refused) refl (sym a.number ∙ four)) did.ends in
    ends.front

pub carried-part : (words : List (List ℕ)) (limit : ℕ) (before after : Contents) (faults faults_now answer : ℕ)
    (c : Command) → takes_file c ≡ false → Means words c → answer ≡ 4 →
    Answered words limit before after faults faults_now answer →
    IsFront (added_to 1 before after) (output_of (with_rules [] c) (taken_off 0 before after))
carried-part words limit before after faults faults_now answer c plain m four a =
    part-task words limit before after faults faults_now answer (with_rules [] c) four a
    (did-plain c limit before after a.tally a.status plain (a.did c m))

-- of what was read to its end and is whole, it is 0

pub completes-task : (words : List (List ℕ)) (limit : ℕ) (before after : Contents) (faults faults_now answer : ℕ)
    (t : Task) → WritesAll t → read_all answer ≡ true → is_whole t (before.left 0) ≡ true →
    (a : Answered words limit before after faults faults_now answer) → Did t limit before after a.tally a.status →
    answer ≡ 0
completes-task words limit before after faults faults_now answer t w all is a did =
    a.number ∙ by_end a.status (sym (ap read_all a.number) ∙ all) did.ends
  where
    by_end : (s : Status) → read_all (code_of s) ≡ true →
        EndsAs t limit (before.left 0) (taken_off 0 before after) (added_to 1 before after) a.tally s →
        code_of s ≡ 0
    by_end Done e ends = refl
    by_end Noted e ends = absurd (w.no_notes _ _ _ _ limit ends)
    by_end Cut e ends = absurd (wrong (sym is ∙ (ap (is_whole t) ((ends.0).all w.reads) ∙ ends.1)))
    by_end Usage e ends = absurd ends
    by_end (Stopped ReadFault) e ends = absurd (wrong (sym e))
    by_end (Stopped Refused) e ends = absurd (wrong (sym e))
    by_end (Stopped TooLong) e ends = absurd (wrong (sym e))
    by_end (Stopped (Faulty (fault.Tape f))) e ends = absurd (wrong (sym e))
    by_end (Stopped (Faulty (fault.File f))) e ends = absurd (wrong (sym e))
    by_end (Stopped (Faulty fault.LongTrack)) e ends = absurd (wrong (sym e))
    by_end (Stopped (Faulty (fault.LongGap was now))) e ends = absurd (wrong (sym e))
    by_end (Stopped (Faulty fault.Memory)) e ends = absurd (wrong (sym e))
    by_end (Stopped (Faulty (fault.Rig line cause))) e ends = absurd (wrong (sym e))
    by_end (BadTape name bad) e ends = absurd (wrong (sym e))
    by_end (Stopped (Faulty (fault.Rules f))) e ends = absurd (wrong (sym e))

pub carried-completes : (words : List (List ℕ)) (limit : ℕ) (before after : Contents) (faults faults_now answer : ℕ)
    (c : Command) → rewrites c ≡ true → Means words c → read_all answer ≡ true → is_whole c (before.left 0) ≡ true →
    Answered words limit before after faults faults_now answer → answer ≡ 0
carried-completes words limit before after faults faults_now answer c all m end whole a =
    completes-task words limit before after faults faults_now answer (with_rules [] c)
    (writes-all (with_rules [] c) (rewrites-task [] c ∙ all)) end (whole-task [] c (before.left 0) ∙ whole) a
    (did-plain c limit before after a.tally a.status (plain-rewrites c all) (a.did c m))

-- of a tape, and of a file

pub tape-told : (told : Option TapeFault) (answer : ℕ) → Tells (in_tape told) answer → (answer ≡ 7) ↔ IsSome told
tape-told None answer t = (λ e. absurd (t.0 e), λ some. absurd (wrong (sym some)))
tape-told (Some f) answer t = (λ e. refl, λ some. t)

-- the fault of a tape, by the command that reads it
pub tape_fault-told : (c : Task) (read : List ℕ) (answer : ℕ) → rewrites c ≡ true → reads_tape c ≡ true →
    Tells (fault_of c read) answer → (answer ≡ 7) ↔ IsSome (tape_fault read)
tape_fault-told (Converting tally first between last) read answer r e t = absurd (wrong (sym r))
tape_fault-told (Listing traced s) read answer r e t = absurd (wrong (sym r))
tape_fault-told (RecordingTape s) read answer r e t = absurd (wrong (sym r))
tape_fault-told Migrating read answer r e t = tape-told (tape_fault read) answer t
tape_fault-told PlayingFile read answer r e t = absurd (wrong (sym e))
tape_fault-told (GuardingTape s) read answer r e t = tape-told (tape_fault read) answer t
tape_fault-told (FilteringTape rules s) read answer r e t = tape-told (tape_fault read) answer t
tape_fault-told (RunningRig file) read answer r e t = absurd (wrong (sym r))
tape_fault-told (Selftesting start count) read answer r e t = absurd (wrong (sym r))

pub file-told : (told : Option SmfFault) (answer : ℕ) → Tells (in_file told) answer → (answer ≡ 13) ↔ IsSome told
file-told None answer t = (λ e. absurd (t.1 e), λ some. absurd (wrong (sym some)))
file-told (Some f) answer t = (λ e. refl, λ some. t)

pub whole-tape : (s : Spec) (tape : List ℕ) → track_whole s 0 tape ≡ true → tape_whole tape ≡ true
whole-tape s tape e = first (tape_whole tape) (whole s (recording 0 (track_records tape))) e
  where
    first : (a b : Bool) → (a && b) ≡ true → a ≡ true
    first true b e = refl
    first false b e = absurd (wrong (sym e))

-- what has no fault shows nothing that keeps such a command from going on
pub shows-none : (c : Task) (input : List ℕ) → WritesAll c → ((g : Fault) → fault_of c input ≡ Some g → ⊥) →
    (f : Fault) → Shows c input f → ⊥
shows-none c input w sound (fault.Tape f) e = sound (fault.Tape f) e
shows-none c input w sound (fault.File f) e = sound (fault.File f) e
shows-none c input w sound fault.LongTrack e = w.no_left_out input full.Track e
shows-none c input w sound (fault.LongGap was now) e = w.no_left_out input (full.Gap was now) e
shows-none c input w sound fault.Memory e = w.no_want input e
shows-none c input w sound (fault.Rig line cause) e = e
shows-none c input w sound (fault.Rules f) e = e

-- of a tape whose notes are ended

pub notes-ended : (s : Spec) (left read written : List ℕ) (answer : ℕ) →
    Carried (GuardingTape s) left read written answer → AreBytes read →
    track_den Din 0 written ≡ ended (track_den s 0 read)
notes-ended s left read written answer r bytes =
    ap (track_den Din 0) r.written_is ∙ guarded-read s read (moments-fit read bytes)

pub notes-silent : (s : Spec) (left read written : List ℕ) (answer : ℕ) →
    Carried (GuardingTape s) left read written answer → AreBytes read →
    (sounding (track_den Din 0 written).items) ≡ []
notes-silent s left read written answer r bytes =
    ap (λ (tape : List ℕ). (sounding (track_den Din 0 tape).items)) r.written_is
    ∙ guarded-read-silent s read (moments-fit read bytes)
