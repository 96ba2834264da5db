-- From what a command did to what the caller sees.
use Rattle.std.proofs.Common.{◌≡◌, Bool, ℕ, ◌+◌, ◌<◌, ◌≤◌, ◌↔◌, ◌==◌, ◌||◌, ◌&&◌, not, if◌then◌else◌, true, false, List}
use Rattle.std.proofs.Common.{[], ◌++◌, length, take, drop, refl, sym, ◌∙◌, ap, subst, inl, inr, ◌⊎◌, arith}
use Rattle.std.proofs.Common.{length-append}
use Rattle.std.proofs.lemmas.Bool.Decides.{nat_tests}
use Rattle.std.proofs.lemmas.List.{append-nil, take_at, drop_at}
use Rattle.mb_outside.specs.Cause.{Rose}
use Rattle.mb_outside.specs.Contents.{Contents, with_entry, after_read, after_write}
use Rattle.mb_outside.specs.ContentsLaws.{after_write-twice}
use Rattle.mb_message.specs.Front.{IsFront}
use Rattle.mb_carrier.specs.Carrier.{whole}
use Rattle.mb_carrier.specs.declared.spec.Spec.{Spec}
use Rattle.mb_words.specs.Command.{CommandOf, Command, Converting, Listing, Migrating, RecordingTape, PlayingFile}
use Rattle.mb_words.specs.Command.{GuardingTape, FilteringTape, RunningRig, Selftesting, Means}
use Rattle.mb_words.proofs.CommandLemmas.{one_command}
use Rattle.mb_top.specs.Output.{ReadsOne, reads_from, writes_to, may_want_memory, answers_notes, is_whole}
use Rattle.mb_top.specs.Output.{fault_of, reads_file, reads_tape, runs_rig, takes_file, takes_rules, tally_of}
use Rattle.mb_top.specs.Output.{writes_at_stop, LeavesOut}
use Rattle.mb_top.specs.Output.{Shows, WantsMemory}
use Rattle.mb_top.specs.Task.{Task, with_rules}
use Rattle.mb_filter.specs.declared.rule.Rule.{Rule}
use Rattle.mb_filter.specs.declared.rules.RulesFault.{RulesFault}
use Rattle.mb_top.proofs.RulesLemmas.{SameHandles, got-after, none-after, opened-given, opened-same, untouched}
use Rattle.mb_top.proofs.RulesLemmas.{with_entry-at, with_entry-other, written-nothing}
use Rattle.mb_top.proofs.TaskLemmas.{did-plain, memory-task, plain-reader, reader-task, reads-task, tape-task}
use Rattle.mb_smf.specs.declared.writer.SmfFull.{SmfFull}
use Rattle.mb_smf.specs.declared.writer.SmfFull.TheVariants as full
use Rattle.std.specs.Prelude.{Some, nat_le}
use Rattle.arrayvec.specs.ArrayVec.{ArrayVec}
use Rattle.mb_rig.specs.declared.fault.Why.{Why}
use Rattle.mb_frames.specs.declared.tape.TapeFault.{TapeFault}
use Rattle.mb_smf.specs.declared.fault.SmfFault.{SmfFault}
use Rattle.mb_top.specs.declared.fault.Fault.{Fault}
use Rattle.mb_top.specs.declared.fault.Fault.TheVariants as fault
use Rattle.mb_top.specs.Answer.{Answered, Did, DidAll, DidNothing, IsHandle, Moved, EndsAs, Says, faults_told, taken_off}
use Rattle.mb_top.specs.Answer.{added_to, code_of, text_of, read_all}
use Rattle.mb_top.specs.Ran.{CommandDid, CommandMay, CommandRan, DidWords, EndsCommand, RanNothing, RanWords, MayAnswer, MayAnswerWords}
use Rattle.mb_top.specs.Ran.{Faulted, written_of}
use Rattle.mb_top.specs.declared.status.Status.{Status}
use Rattle.mb_top.specs.declared.status.Status.TheVariants.{Done, Noted, Usage, Cut, Stopped, BadTape}
use Rattle.mb_top.specs.declared.status.Stop.TheVariants.{ReadFault, Refused, TooLong, Faulty}
use Rattle.mb_top.specs.declared.status.Stop.{Stop}
use Rattle.mb_carrier.specs.Conversion.{through}
use Rattle.mb_carrier.specs.declared.spec.Spec.TheVariants.{Din}
use Rattle.mb_carrier.proofs.ConversionLemmas.{through-canonical}

wrong : true ≡ false → ⊥
wrong e = cc

-- statuses are told by their numbers

abbrev status_at : ℕ → Status
status_at n =
    if n == 0 then Done else (if n == 1 then Noted else (if n == 2 then Usage else
    (if n == 3 then Stopped ReadFault else (if n == 4 then Stopped Refused else
    (if n == 5 then Cut else Stopped TooLong)))))

-- the numbers that tell of a fault, and not of which
abbrev pub tells_fault : ℕ → Bool
tells_fault n = nat_le 6 n && not (n == 8)

again : (s : Status) → tells_fault (code_of s) ≡ false → status_at (code_of s) ≡ s
again Done other = refl
again Noted other = refl
again Usage other = refl
again Cut other = refl
again (Stopped ReadFault) other = refl
again (Stopped Refused) other = refl
again (Stopped TooLong) other = refl
again (Stopped (Faulty (fault.Tape f))) other = absurd (wrong other)
again (Stopped (Faulty (fault.File f))) other = absurd (wrong other)
again (Stopped (Faulty fault.LongTrack)) other = absurd (wrong other)
again (Stopped (Faulty (fault.LongGap was now))) other = absurd (wrong other)
again (Stopped (Faulty fault.Memory)) other = absurd (wrong other)
again (Stopped (Faulty (fault.Rig line cause))) other = absurd (wrong other)
again (BadTape name bad) other = absurd (wrong other)
again (Stopped (Faulty (fault.Rules f))) other = absurd (wrong other)

-- but for those of a fault, which are known too
pub same_status : (s t : Status) → tells_fault (code_of t) ≡ false → code_of s ≡ code_of t → s ≡ t
same_status s t other e =
    sym (again s (ap tells_fault e ∙ other)) ∙ (ap status_at e ∙ again t other)

-- of the tape on standard input, or of a rig's
abbrev pub IsBadTape : Status → Type 0
IsBadTape s = ((f : TapeFault) × (s ≡ Stopped (Faulty (fault.Tape f))))
    ⊎ ((name : ArrayVec ℕ) × (f : TapeFault) × (s ≡ BadTape name f))

pub bad_tape : (s : Status) → code_of s ≡ 7 → IsBadTape s
bad_tape (Stopped (Faulty (fault.Tape f))) e = inl (f, refl)
bad_tape (Stopped (Faulty (fault.File f))) e = absurd (omega (arith, e))
bad_tape (Stopped ReadFault) e = absurd (omega (arith, e))
bad_tape (Stopped Refused) e = absurd (omega (arith, e))
bad_tape (Stopped TooLong) e = absurd (omega (arith, e))
bad_tape Done e = absurd (omega (arith, e))
bad_tape Noted e = absurd (omega (arith, e))
bad_tape Usage e = absurd (omega (arith, e))
bad_tape Cut e = absurd (omega (arith, e))
bad_tape (Stopped (Faulty fault.LongTrack)) e = absurd (omega (arith, e))
bad_tape (Stopped (Faulty (fault.LongGap was now))) e = absurd (omega (arith, e))
bad_tape (Stopped (Faulty fault.Memory)) e = absurd (omega (arith, e))
bad_tape (Stopped (Faulty (fault.Rig line cause))) e = absurd (omega (arith, e))
bad_tape (BadTape name bad) e = inr (name, bad, refl)
bad_tape (Stopped (Faulty (fault.Rules g))) e = absurd (omega (arith, e))

pub bad_file : (s : Status) → code_of s ≡ 13 → (f : SmfFault) × (s ≡ Stopped (Faulty (fault.File f)))
bad_file (Stopped (Faulty (fault.File f))) e = (f, refl)
bad_file (Stopped (Faulty (fault.Tape f))) e = absurd (omega (arith, e))
bad_file (Stopped ReadFault) e = absurd (omega (arith, e))
bad_file (Stopped Refused) e = absurd (omega (arith, e))
bad_file (Stopped TooLong) e = absurd (omega (arith, e))
bad_file Done e = absurd (omega (arith, e))
bad_file Noted e = absurd (omega (arith, e))
bad_file Usage e = absurd (omega (arith, e))
bad_file Cut e = absurd (omega (arith, e))
bad_file (Stopped (Faulty fault.LongTrack)) e = absurd (omega (arith, e))
bad_file (Stopped (Faulty (fault.LongGap was now))) e = absurd (omega (arith, e))
bad_file (Stopped (Faulty fault.Memory)) e = absurd (omega (arith, e))
bad_file (Stopped (Faulty (fault.Rig line cause))) e = absurd (omega (arith, e))
bad_file (BadTape name bad) e = absurd (omega (arith, e))
bad_file (Stopped (Faulty (fault.Rules g))) e = absurd (omega (arith, e))

pub no_memory : (s : Status) → code_of s ≡ 9 → s ≡ Stopped (Faulty fault.Memory)
no_memory (Stopped (Faulty fault.Memory)) e = refl
no_memory (Stopped (Faulty (fault.Rig line cause))) e = absurd (omega (arith, e))
no_memory (BadTape name bad) e = absurd (omega (arith, e))
no_memory (Stopped (Faulty (fault.Tape f))) e = absurd (omega (arith, e))
no_memory (Stopped (Faulty (fault.File f))) e = absurd (omega (arith, e))
no_memory (Stopped (Faulty fault.LongTrack)) e = absurd (omega (arith, e))
no_memory (Stopped (Faulty (fault.LongGap was now))) e = absurd (omega (arith, e))
no_memory (Stopped (Faulty (fault.Rules g))) e = absurd (omega (arith, e))
no_memory (Stopped ReadFault) e = absurd (omega (arith, e))
no_memory (Stopped Refused) e = absurd (omega (arith, e))
no_memory (Stopped TooLong) e = absurd (omega (arith, e))
no_memory Done e = absurd (omega (arith, e))
no_memory Noted e = absurd (omega (arith, e))
no_memory Usage e = absurd (omega (arith, e))
no_memory Cut e = absurd (omega (arith, e))

pub long_track : (s : Status) → code_of s ≡ 11 → s ≡ Stopped (Faulty fault.LongTrack)
long_track (Stopped (Faulty fault.LongTrack)) e = refl
long_track (Stopped (Faulty (fault.Tape f))) e = absurd (omega (arith, e))
long_track (Stopped (Faulty (fault.File f))) e = absurd (omega (arith, e))
long_track (Stopped (Faulty fault.Memory)) e = absurd (omega (arith, e))
long_track (Stopped (Faulty (fault.Rig line cause))) e = absurd (omega (arith, e))
long_track (BadTape name bad) e = absurd (omega (arith, e))
long_track (Stopped (Faulty (fault.Rules g))) e = absurd (omega (arith, e))
long_track (Stopped (Faulty (fault.LongGap was now))) e = absurd (omega (arith, e))
long_track (Stopped ReadFault) e = absurd (omega (arith, e))
long_track (Stopped Refused) e = absurd (omega (arith, e))
long_track (Stopped TooLong) e = absurd (omega (arith, e))
long_track Done e = absurd (omega (arith, e))
long_track Noted e = absurd (omega (arith, e))
long_track Usage e = absurd (omega (arith, e))
long_track Cut e = absurd (omega (arith, e))

pub long_gap : (s : Status) → code_of s ≡ 12 →
    (was : ℕ) × (now : ℕ) × (s ≡ Stopped (Faulty (fault.LongGap was now)))
long_gap (Stopped (Faulty (fault.LongGap was now))) e = (was, now, refl)
long_gap (Stopped (Faulty (fault.Tape f))) e = absurd (omega (arith, e))
long_gap (Stopped (Faulty (fault.File f))) e = absurd (omega (arith, e))
long_gap (Stopped (Faulty fault.Memory)) e = absurd (omega (arith, e))
long_gap (Stopped (Faulty (fault.Rig line cause))) e = absurd (omega (arith, e))
long_gap (BadTape name bad) e = absurd (omega (arith, e))
long_gap (Stopped (Faulty (fault.Rules g))) e = absurd (omega (arith, e))
long_gap (Stopped (Faulty fault.LongTrack)) e = absurd (omega (arith, e))
long_gap (Stopped ReadFault) e = absurd (omega (arith, e))
long_gap (Stopped Refused) e = absurd (omega (arith, e))
long_gap (Stopped TooLong) e = absurd (omega (arith, e))
long_gap Done e = absurd (omega (arith, e))
long_gap Noted e = absurd (omega (arith, e))
long_gap Usage e = absurd (omega (arith, e))
long_gap Cut e = absurd (omega (arith, e))

pub bad_rules : (s : Status) → code_of s ≡ 14 → (f : RulesFault) × (s ≡ Stopped (Faulty (fault.Rules f)))
bad_rules (Stopped (Faulty (fault.Rules f))) e = (f, refl)
bad_rules (Stopped (Faulty (fault.Tape g))) e = absurd (omega (arith, e))
bad_rules (Stopped (Faulty (fault.File g))) e = absurd (omega (arith, e))
bad_rules (Stopped (Faulty fault.Memory)) e = absurd (omega (arith, e))
bad_rules (Stopped (Faulty (fault.Rig line cause))) e = absurd (omega (arith, e))
bad_rules (BadTape name bad) e = absurd (omega (arith, e))
bad_rules (Stopped (Faulty fault.LongTrack)) e = absurd (omega (arith, e))
bad_rules (Stopped (Faulty (fault.LongGap was now))) e = absurd (omega (arith, e))
bad_rules (Stopped ReadFault) e = absurd (omega (arith, e))
bad_rules (Stopped Refused) e = absurd (omega (arith, e))
bad_rules (Stopped TooLong) e = absurd (omega (arith, e))
bad_rules Done e = absurd (omega (arith, e))
bad_rules Noted e = absurd (omega (arith, e))
bad_rules Usage e = absurd (omega (arith, e))
bad_rules Cut e = absurd (omega (arith, e))

pub bad_rig : (s : Status) → code_of s ≡ 6 →
    (line : ℕ) × (cause : Why) × (s ≡ Stopped (Faulty (fault.Rig line cause)))
bad_rig (Stopped (Faulty (fault.Rules f))) e = absurd (omega (arith, e))
bad_rig (Stopped (Faulty (fault.Tape g))) e = absurd (omega (arith, e))
bad_rig (Stopped (Faulty (fault.File g))) e = absurd (omega (arith, e))
bad_rig (Stopped (Faulty fault.Memory)) e = absurd (omega (arith, e))
bad_rig (Stopped (Faulty (fault.Rig line cause))) e = (line, cause, refl)
bad_rig (BadTape name bad) e = absurd (omega (arith, e))
bad_rig (Stopped (Faulty fault.LongTrack)) e = absurd (omega (arith, e))
bad_rig (Stopped (Faulty (fault.LongGap was now))) e = absurd (omega (arith, e))
bad_rig (Stopped ReadFault) e = absurd (omega (arith, e))
bad_rig (Stopped Refused) e = absurd (omega (arith, e))
bad_rig (Stopped TooLong) e = absurd (omega (arith, e))
bad_rig Done e = absurd (omega (arith, e))
bad_rig Noted e = absurd (omega (arith, e))
bad_rig Usage e = absurd (omega (arith, e))
bad_rig Cut e = absurd (omega (arith, e))

pub other_status : (s t : Status) → (code_of s ≡ code_of t → ⊥) → s ≡ t → ⊥
other_status s t other e = other (ap code_of e)

-- a claim about a status at the end of the input
at_the_end : (claim : Status → Type 0) → claim Done → claim Noted → claim Cut → (s : Status) →
    read_all (code_of s) ≡ true → claim s
at_the_end claim done noted cut Done e = done
at_the_end claim done noted cut Noted e = noted
at_the_end claim done noted cut Cut e = cut
at_the_end claim done noted cut Usage e = absurd (wrong (sym e))
at_the_end claim done noted cut (Stopped (Faulty fault.LongTrack)) e = absurd (wrong (sym e))
at_the_end claim done noted cut (Stopped (Faulty (fault.LongGap was now))) e = absurd (wrong (sym e))
at_the_end claim done noted cut (Stopped (Faulty fault.Memory)) e = absurd (wrong (sym e))
at_the_end claim done noted cut (Stopped (Faulty (fault.Rig line cause))) e = absurd (wrong (sym e))
at_the_end claim done noted cut (BadTape name bad) e = absurd (wrong (sym e))
at_the_end claim done noted cut (Stopped (Faulty (fault.Rules f))) e = absurd (wrong (sym e))
at_the_end claim done noted cut (Stopped ReadFault) e = absurd (wrong (sym e))
at_the_end claim done noted cut (Stopped Refused) e = absurd (wrong (sym e))
at_the_end claim done noted cut (Stopped TooLong) e = absurd (wrong (sym e))
at_the_end claim done noted cut (Stopped (Faulty (fault.Tape f))) e = absurd (wrong (sym e))
at_the_end claim done noted cut (Stopped (Faulty (fault.File f))) e = absurd (wrong (sym e))

-- what a caller sees of what was read, written and said

handle-is : (other handle : ℕ) → (other == handle) ≡ true → other ≡ handle
handle-is other handle e = grind (arith, nat_tests)

behind_all : (xs : List ℕ) → drop (length xs) xs ≡ []
behind_all xs = ap (drop (length xs)) (sym (append-nil xs)) ∙ drop_at xs [] (length xs) refl

-- what a call did: from a handle it took these bytes, or it wrote these
abbrev seen_at : (input : List ℕ) (handle : ℕ) → List ℕ
seen_at input handle = if handle == 0 then input else []

abbrev written_at : (output words : List ℕ) (handle : ℕ) → List ℕ
written_at output words handle = if handle == 2 then words else (if handle == 1 then output else [])

taken-at : (input output words : List ℕ) (before : Contents) (handle : ℕ) → IsFront input (before.left 0) →
    taken_off handle before (written_of input output words before) ≡ seen_at input handle
taken-at input output words before handle f = by_test (handle == 0) refl
  where
    by_test : (t : Bool) → (handle == 0) ≡ t →
        taken_off handle before (written_of input output words before) ≡ seen_at input handle
    by_test true e =
        ap (λ (xs : List ℕ). drop (length (before.taken handle)) xs)
        (with_entry-at before.taken 0 (before.taken 0 ++ take (length input) (before.left 0)) handle e)
        ∙ (ap (λ (n : ℕ). drop (length (before.taken n)) (before.taken 0 ++ take (length input) (before.left 0)))
        (handle-is handle 0 e)
        ∙ (drop_at (before.taken 0) (take (length input) (before.left 0)) (length (before.taken 0)) refl
        ∙ (ap (take (length input)) f.1 ∙ (take_at input f.0 (length input) refl ∙ sym (ap (λ
        (t : Bool). if t then input else []) e)))))
    by_test false e =
        ap (λ (xs : List ℕ). drop (length (before.taken handle)) xs)
        (with_entry-other before.taken 0 (before.taken 0 ++ take (length input) (before.left 0)) handle e)
        ∙ (behind_all (before.taken handle) ∙ sym (ap (λ (t : Bool). if t then input else []) e))

added-at : (input output words : List ℕ) (before : Contents) (handle : ℕ) →
    added_to handle before (written_of input output words before) ≡ written_at output words handle
added-at input output words before handle = by_tests (handle == 2) (handle == 1) refl refl
  where
    by_tests : (t u : Bool) → (handle == 2) ≡ t → (handle == 1) ≡ u →
        added_to handle before (written_of input output words before) ≡ written_at output words handle
    by_tests true u e f =
        ap (λ (xs : List ℕ). drop (length (before.written handle)) xs)
        (with_entry-at (with_entry before.written 1 (before.written 1 ++ output)) 2
        (before.written 2 ++ words) handle e)
        ∙ (ap (λ (n : ℕ). drop (length (before.written n)) (before.written 2 ++ words)) (handle-is handle 2 e)
        ∙ (drop_at (before.written 2) words (length (before.written 2)) refl
        ∙ sym (ap (λ (t : Bool). if t then words else (if handle == 1 then output else [])) e)))
    by_tests false true e f =
        ap (λ (xs : List ℕ). drop (length (before.written handle)) xs)
        (with_entry-other (with_entry before.written 1 (before.written 1 ++ output)) 2
        (before.written 2 ++ words) handle e ∙ with_entry-at before.written 1 (before.written 1 ++ output) handle f)
        ∙ (ap (λ (n : ℕ). drop (length (before.written n)) (before.written 1 ++ output)) (handle-is handle 1 f)
        ∙ (drop_at (before.written 1) output (length (before.written 1)) refl
        ∙ sym (ap (λ (t : Bool). if t then words else (if handle == 1 then output else [])) e
        ∙ ap (λ (t : Bool). if t then output else []) f)))
    by_tests false false e f =
        ap (λ (xs : List ℕ). drop (length (before.written handle)) xs)
        (with_entry-other (with_entry before.written 1 (before.written 1 ++ output)) 2
        (before.written 2 ++ words) handle e ∙ with_entry-other before.written 1 (before.written 1
        ++ output) handle f)
        ∙ (behind_all (before.written handle) ∙ sym (ap (λ (t : Bool). if t then words else
        (if handle == 1 then output else [])) e ∙ ap (λ (t : Bool). if t then output else []) f))

-- the same where the rules' file was opened before: the desk's own handles stood as they stood

taken-seen : (input output words : List ℕ) (before start : Contents) (handle : ℕ) → SameHandles before start →
    IsHandle before handle → IsFront input (start.left 0) →
    taken_off handle before (written_of input output words start) ≡ seen_at input handle
taken-seen input output words before start handle same h f =
    ap (λ (xs : List ℕ). drop (length xs) ((written_of input output words start).taken handle)) (sym (same.taken handle h))
    ∙ taken-at input output words start handle f

added-seen : (input output words : List ℕ) (before start : Contents) (handle : ℕ) → SameHandles before start →
    IsHandle before handle → added_to handle before (written_of input output words start) ≡ written_at output words handle
added-seen input output words before start handle same h =
    ap (λ (xs : List ℕ). drop (length xs) ((written_of input output words start).written handle))
    (sym (same.written handle h))
    ∙ added-at input output words start handle

moved : (input output words : List ℕ) (first before : Contents) → SameHandles first before →
    IsFront input (before.left 0) → Moved first (written_of input output words before)
moved input output words first before same f =
    record {
      left = λ handle h.
          sym (same.left handle h) ∙ (left-at handle (handle == 0) refl
          ∙ ap (λ (xs : List ℕ). xs ++ after.left handle) (sym (taken-seen input output words first before handle same h f)));
      taken = λ handle h.
          behind (first.taken handle) (after.taken handle)
          (subst (λ (xs : List ℕ). IsFront xs (after.taken handle)) (same.taken handle h)
          (taken-front handle (handle == 0) refl));
      written = λ handle h.
          behind (first.written handle) (after.written handle)
          (subst (λ (xs : List ℕ). IsFront xs (after.written handle)) (same.written handle h)
          (written-front handle (handle == 2) (handle == 1) refl refl));
    }
  where
    after : Contents
    after = written_of input output words before

    left-at : (handle : ℕ) (t : Bool) → (handle == 0) ≡ t →
        before.left handle ≡ seen_at input handle ++ after.left handle
    left-at handle true e =
        ap before.left (handle-is handle 0 e)
        ∙ (f.1
        ∙ (ap (λ (xs : List ℕ). input ++ xs) (sym (ap (drop (length input)) f.1 ∙ drop_at input f.0
        (length input) refl))
        ∙ (ap (λ (xs : List ℕ). input ++ xs) (sym (with_entry-at before.left 0 (drop (length input)
        (before.left 0)) handle e))
        ∙ ap (λ (xs : List ℕ). xs ++ after.left handle) (sym (ap (λ (u : Bool). if u then input else []) e)))))
    left-at handle false e =
        sym (with_entry-other before.left 0 (drop (length input) (before.left 0)) handle e)
        ∙ ap (λ (xs : List ℕ). xs ++ after.left handle) (sym (ap (λ (u : Bool). if u then input else []) e))

    behind : (xs ys : List ℕ) → IsFront xs ys → ys ≡ xs ++ drop (length xs) ys
    behind xs ys g = g.1 ∙ ap (λ zs. xs ++ zs) (sym (ap (drop (length xs)) g.1 ∙ drop_at xs g.0 (length xs) refl))

    taken-front : (handle : ℕ) (t : Bool) → (handle == 0) ≡ t → IsFront (before.taken handle) (after.taken handle)
    taken-front handle true e = (
      take (length input) (before.left 0),
      with_entry-at before.taken 0 (before.taken 0 ++ take (length input) (before.left 0)) handle e
          ∙ ap (λ (n : ℕ). before.taken n ++ take (length input) (before.left 0)) (sym (handle-is handle 0 e)),
    )
    taken-front handle false e = (
      [],
      with_entry-other before.taken 0 (before.taken 0 ++ take (length input) (before.left 0)) handle e
          ∙ sym (append-nil (before.taken handle)),
    )

    written-front : (handle : ℕ) (t u : Bool) → (handle == 2) ≡ t → (handle == 1) ≡ u →
        IsFront (before.written handle) (after.written handle)
    written-front handle true u e f = (
      words,
      with_entry-at (with_entry before.written 1 (before.written 1 ++ output)) 2 (before.written 2 ++ words) handle e
          ∙ ap (λ (n : ℕ). before.written n ++ words) (sym (handle-is handle 2 e)),
    )
    written-front handle false true e f = (
      output,
      with_entry-other (with_entry before.written 1 (before.written 1 ++ output)) 2 (before.written 2 ++ words) handle e
          ∙ (with_entry-at before.written 1 (before.written 1 ++ output) handle f
          ∙ ap (λ (n : ℕ). before.written n ++ output) (sym (handle-is handle 1 f))),
    )
    written-front handle false false e f = (
      [],
      with_entry-other (with_entry before.written 1 (before.written 1 ++ output)) 2 (before.written 2 ++ words) handle e
          ∙ (with_entry-other before.written 1 (before.written 1 ++ output) handle f
          ∙ sym (append-nil (before.written handle))),
    )

-- the handles of a command

only_writes : {R : Type 0} (c : CommandOf R) (handle : ℕ) → writes_to c handle ≡ false → ((handle == 1) || (handle == 2)) ≡ false
only_writes (Converting tally first between last) handle e = e
only_writes (Listing traced s) handle e = e
only_writes Migrating handle e = e
only_writes (RecordingTape s) handle e = e
only_writes PlayingFile handle e = e
only_writes (GuardingTape s) handle e = e
only_writes (FilteringTape rules s) handle e = e
only_writes (RunningRig file) handle e = e
only_writes (Selftesting start count) handle e = e

unread : (input : List ℕ) (handle : ℕ) → (handle == 0) ≡ false → seen_at input handle ≡ []
unread input handle e = ap (λ (t : Bool). if t then input else []) e

none-read : (input : List ℕ) (handle : ℕ) → input ≡ [] → seen_at input handle ≡ []
none-read input handle e = ap (λ (xs : List ℕ). seen_at xs handle) e ∙ by_test (handle == 0)
  where
    by_test : (t : Bool) → ◌≡◌ {A = List ℕ} (if t then [] else []) []
    by_test true = refl
    by_test false = refl

-- a command that reads nothing read none
unread-by : {R : Type 0} (c : CommandOf R) (input : List ℕ) (handle : ℕ) → (reads_from c 0 ≡ false → input ≡ []) →
    reads_from c handle ≡ false → seen_at input handle ≡ []
unread-by (Converting tally first between last) input handle none e = unread input handle e
unread-by (Listing traced s) input handle none e = unread input handle e
unread-by Migrating input handle none e = unread input handle e
unread-by (RecordingTape s) input handle none e = unread input handle e
unread-by PlayingFile input handle none e = unread input handle e
unread-by (GuardingTape s) input handle none e = unread input handle e
unread-by (FilteringTape rules s) input handle none e = unread input handle e
unread-by (RunningRig file) input handle none e = none-read input handle (none refl)
unread-by (Selftesting start count) input handle none e = none-read input handle (none refl)

unwritten : (output words : List ℕ) (handle : ℕ) → ((handle == 1) || (handle == 2)) ≡ false →
    written_at output words handle ≡ []
unwritten output words handle e = by_tests (handle == 1) (handle == 2) e
  where
    by_tests : (t u : Bool) → (t || u) ≡ false → (if u then words else (if t then output else [])) ≡ []
    by_tests true u e = absurd (wrong e)
    by_tests false true e = absurd (wrong e)
    by_tests false false e = refl

none-written : (output words : List ℕ) (handle : ℕ) → output ≡ [] → (handle == 2) ≡ false →
    written_at output words handle ≡ []
none-written output words handle e f =
    ap (λ (xs : List ℕ). written_at xs words handle) e
    ∙ (ap (λ (t : Bool). if t then words else (if handle == 1 then [] else [])) f ∙ by_test (handle == 1))
  where
    by_test : (t : Bool) → ◌≡◌ {A = List ℕ} (if t then [] else []) []
    by_test true = refl
    by_test false = refl

-- what the caller sees of what was done, the text said behind it

written-behind : (input output tally text : List ℕ) (before : Contents) →
    after_write 2 text (written_of input output tally before) ≡ written_of input output (tally ++ text) before
written-behind input output tally text before = after_write-twice 2 tally text
    (after_write 1 output (after_read 0 (length input) before))

-- how many faults a status tells: one where writing was refused
by_told : (s : Status) → (s ≡ Stopped Refused) ⊎ (faults_told s ≡ 0)
by_told Done = inr refl
by_told Noted = inr refl
by_told Usage = inr refl
by_told Cut = inr refl
by_told (BadTape name bad) = inr refl
by_told (Stopped ReadFault) = inr refl
by_told (Stopped Refused) = inl refl
by_told (Stopped TooLong) = inr refl
by_told (Stopped (Faulty f)) = inr refl

rose-more : (quiet : Type 0) (before mid now : ℕ) (s : Status) (reads reads_mid : ℕ) →
    Faulted quiet reads reads_mid before mid s → Rose mid now → Rose (before + faults_told s) now
rose-more quiet before mid now s reads reads_mid f r = elim (by_told s) [
  | inl e ↦ (let one : faults_told s ≡ 1 = ap faults_told e in omega (arith, r, f.write e, one))
  | inr none ↦ omega (arith, r, f.writes_later, none)
]

pub says-earlier : (quiet : Type 0) (before mid now : ℕ) (s : Status) (text : List ℕ) (reads reads_mid : ℕ) →
    Faulted quiet reads reads_mid before mid s → Says (Rose mid now) text (text_of s) →
    Says (Rose (before + faults_told s) now) text (text_of s)
says-earlier quiet before mid now s text reads reads_mid f says =
    record {
      front = says.front;
      all = elim says.all [
        | inl e ↦ inl e
        | inr r ↦ inr (rose-more quiet before mid now s reads reads_mid f r)
      ];
    }

pub answered-stream : (quiet : Type 0) (words : List (List ℕ)) (limit : ℕ) (before mid after : Contents)
    (reads reads_mid faults faults_mid faults_now : ℕ) (status : Status) (answer : ℕ) (text : List ℕ) →
    answer ≡ code_of status → RanWords words limit before mid status →
    Faulted quiet reads reads_mid faults faults_mid status → after ≡ after_write 2 text mid →
    Says (Rose faults_mid faults_now) text (text_of status) → (text ≡ text_of status → faults_now ≡ faults_mid) →
    Answered words limit before after faults faults_now answer
answered-stream quiet words limit before mid after reads reads_mid faults faults_mid faults_now status answer text number r
    fault
    wrote says told =
    subst (λ (c : Contents). Answered words limit before c faults faults_now answer) (sym all)
    (record {
      moved = moved r.input r.output (r.tally ++ text) before r.start same front;
      given = elim r.opened [
        | inl e ↦ inl (ap (λ (c : Contents). c.given) e)
        | inr o ↦ inr (inl (o.0, o.1, o.2, opened-given o.0 before r.start o.3))
      ];
      status = status;
      number = number;
      tally = r.tally;
      said = text;
      nothing = λ e. did_nothing (r.nothing e);
      did = λ c m.
          elim (r.ends c m) [
            | inl b ↦ inl (record {
              rules = b.rules;
              got_them = got-after c b.rules r.input r.output (r.tally ++ text) before r.start b.got_them;
              holds = did_all (with_rules b.rules c)
                  (λ none. r.unread c m (sym (reads-task b.rules c 0) ∙ none)) b.holds;
            })
            | inr n ↦ inr (inl (
              did_nothing n.0,
              none-after c status r.input r.output (r.tally ++ text) before r.start n.1,
            ))
          ];
      on_error = added-seen r.input r.output (r.tally ++ text) before r.start 2 same (omega arith);
      text = says-earlier quiet faults faults_mid faults_now status text reads reads_mid fault says;
      untold = λ other all_said. told all_said ∙ fault.unwritten other;
    })
  where
    all_written : Contents
    all_written = written_of r.input r.output (r.tally ++ text) r.start

    all : after ≡ all_written
    all = wrote ∙ (ap (after_write 2 text) r.contents ∙ written-behind r.input r.output r.tally text r.start)

    same : SameHandles before r.start
    same = elim r.opened [ inl e ↦ untouched before r.start e | inr o ↦ opened-same o.0 before r.start o.3 ]

    front : IsFront r.input (r.start.left 0)
    front = subst (IsFront r.input) (sym (same.left 0 (omega arith))) r.front

    input : taken_off 0 before all_written ≡ r.input
    input = taken-seen r.input r.output (r.tally ++ text) before r.start 0 same (omega arith) front

    output : added_to 1 before all_written ≡ r.output
    output = added-seen r.input r.output (r.tally ++ text) before r.start 1 same (omega arith)

    did_nothing : RanNothing r.input r.output r.tally → DidNothing before all_written r.tally
    did_nothing n =
        record {
          keeps = record {
            unread = λ handle h f.
                taken-seen r.input r.output (r.tally ++ text) before r.start handle same h front
                ∙ none-read r.input handle n.0;
            unwritten = λ handle h f.
                added-seen r.input r.output (r.tally ++ text) before r.start handle same h
                ∙ none-written r.output (r.tally ++ text) handle n.1 f;
          };
          no_tally = n.2;
        }

    did_all : (t : Task) → (reads_from t 0 ≡ false → r.input ≡ []) →
        EndsAs t limit (before.left 0) r.input r.output r.tally status →
        Did t limit before all_written r.tally status
    did_all t none ends =
        record {
          keeps = record {
            unread = λ handle h f.
                taken-seen r.input r.output (r.tally ++ text) before r.start handle same h front
                ∙ unread-by t r.input handle none f;
            unwritten = λ handle h f.
                added-seen r.input r.output (r.tally ++ text) before r.start handle same h
                ∙ unwritten r.output (r.tally ++ text) handle (only_writes t handle f);
          };
          within = subst (λ (xs : List ℕ). length xs ≤ limit) (sym input) r.within;
          ends =
              subst (λ (xs : List ℕ). EndsAs t limit (before.left 0) xs
              (added_to 1 before all_written) r.tally status) (sym input)
              (subst (λ (xs : List ℕ). EndsAs t limit (before.left 0) r.input xs r.tally status) (sym output) ends);
        }

-- a command that was carried out is what its words mean

ran-words : (c : Command) (words : List (List ℕ)) (limit : ℕ) (before after : Contents) (status : Status) →
    Means words c → CommandMay c status → CommandRan c limit before after status →
    RanWords words limit before after status
ran-words c words limit before after status m may r =
    record {
      start = r.start;
      opened = elim r.opened [
        | inl e ↦ inl e
        | inr o ↦ inr (o.0, o.1, subst (Means words) o.2 m, o.3)
      ];
      input = r.input;
      output = r.output;
      tally = r.tally;
      contents = r.contents;
      front = r.front;
      nothing = λ e. absurd (subst (MayAnswer (with_rules may.rules c)) e may.may);
      unread = λ d n e. r.unread (ap (λ (x : Command). reads_from x 0) (one_command words c d m n) ∙ e);
      within = r.within;
      ends = λ d n. subst (λ (x : Command). EndsCommand x limit before r.start r.input r.output r.tally status)
          (one_command words c d m n) r.ends;
    }

pub did-words : (c : Command) (words : List (List ℕ)) (limit : ℕ) (before after : Contents) (status : Status) →
    Means words c → CommandMay c status → CommandDid c limit before after status →
    DidWords words limit before after status
did-words (RunningRig file) words limit before after status m may r = inr (file, m, r)
did-words (Converting tally first between last) words limit before after status m may r =
    inl (ran-words (Converting tally first between last) words limit before after status m may r)
did-words (Listing traced s) words limit before after status m may r =
    inl (ran-words (Listing traced s) words limit before after status m may r)
did-words Migrating words limit before after status m may r =
    inl (ran-words Migrating words limit before after status m may r)
did-words (RecordingTape s) words limit before after status m may r =
    inl (ran-words (RecordingTape s) words limit before after status m may r)
did-words PlayingFile words limit before after status m may r =
    inl (ran-words PlayingFile words limit before after status m may r)
did-words (GuardingTape s) words limit before after status m may r =
    inl (ran-words (GuardingTape s) words limit before after status m may r)
did-words (FilteringTape file s) words limit before after status m may r =
    inl (ran-words (FilteringTape file s) words limit before after status m may r)
did-words (Selftesting start count) words limit before after status m may r =
    inl (ran-words (Selftesting start count) words limit before after status m may r)

pub ran-usage : (words : List (List ℕ)) (limit : ℕ) (before : Contents) → ((c : Command) → Means words c → ⊥) →
    RanWords words limit before before Usage
ran-usage words limit before none =
    record {
      start = before;
      opened = inl refl;
      input = [];
      output = [];
      tally = [];
      contents = sym (written-nothing before);
      front = (before.left 0, refl);
      nothing = λ e. (refl, refl, refl);
      unread = λ c m e. refl;
      within = omega arith;
      ends = λ c m. absurd (none c m);
    }

pub may-words : (c : Command) (words : List (List ℕ)) (status : Status) → Means words c → CommandMay c status →
    MayAnswerWords words status
may-words c words status m may =
    record {
      usage = λ e. absurd (subst (MayAnswer (with_rules may.rules c)) e may.may);
      other = λ not_usage. (c, m, may);
    }

-- a command is quiet where all that the words mean are
pub quiet-words : (c : Command) (words : List (List ℕ)) (reads reads_now writes writes_now : ℕ) (status : Status) →
    Means words c → Faulted (writes_at_stop c ≡ false) reads reads_now writes writes_now status →
    Faulted ((d : Command) → Means words d → writes_at_stop d ≡ false) reads reads_now writes writes_now status
quiet-words c words reads reads_now writes writes_now status m f =
    record {
      reads_later = f.reads_later;
      writes_later = f.writes_later;
      read = f.read;
      write = f.write;
      unread = λ other stopped. f.unread other (λ e. stopped e c m);
      unwritten = f.unwritten;
    }

-- a command that runs no rig

pub streamed : (words : List (List ℕ)) (limit : ℕ) (before after : Contents) (status : Status) (c : Command) →
    runs_rig c ≡ false → Means words c → DidWords words limit before after status →
    RanWords words limit before after status
streamed words limit before after status c plain m d = elim d [
  | inl r ↦ r
  | inr r ↦ absurd (wrong (ap runs_rig (one_command words (RunningRig r.0) c r.1 m) ∙ plain))
]

pub reader-streams : (c : Command) (s : Spec) → ReadsOne c s → runs_rig c ≡ false
reader-streams (Converting tally first between last) s e = refl
reader-streams (Listing traced t) s e = refl
reader-streams Migrating s e = absurd e
reader-streams (RecordingTape t) s e = absurd e
reader-streams PlayingFile s e = absurd e
reader-streams (GuardingTape t) s e = absurd e
reader-streams (FilteringTape rules t) s e = absurd e
reader-streams (RunningRig file) s e = absurd e
reader-streams (Selftesting start count) s e = absurd e

-- what the answer says of a command

pub ends-at_status : (words : List (List ℕ)) (limit : ℕ) (before after : Contents) (faults faults_now answer : ℕ)
    (c : Command) (status : Status) → takes_file c ≡ false → tells_fault (code_of status) ≡ false →
    answer ≡ code_of status → Means words c → (a : Answered words limit before after faults faults_now answer) →
    EndsAs (with_rules [] c) limit (before.left 0) (taken_off 0 before after) (added_to 1 before after) a.tally status
ends-at_status words limit before after faults faults_now answer c status plain other e m a =
    subst (EndsAs (with_rules [] c) limit (before.left 0) (taken_off 0 before after) (added_to 1 before after) a.tally)
    (same_status a.status status other (sym a.number ∙ e))
    (did-plain c limit before after a.tally a.status plain (a.did c m)).ends

-- of a task, whatever rules it has
pub went_through-task : (words : List (List ℕ)) (limit : ℕ) (before after : Contents) (faults faults_now answer : ℕ)
    (t : Task) → read_all answer ≡ true → (a : Answered words limit before after faults faults_now answer) →
    Did t limit before after a.tally a.status →
    DidAll t limit (before.left 0) (taken_off 0 before after) (added_to 1 before after) a.tally
went_through-task words limit before after faults faults_now answer t all a did =
    at_the_end
    (λ s. EndsAs t limit (before.left 0) (taken_off 0 before after) (added_to 1 before after) a.tally s →
    DidAll t limit (before.left 0) (taken_off 0 before after) (added_to 1 before after) a.tally)
    (λ ends. ends.0) (λ ends. ends.0) (λ ends. ends.0) a.status (sym (ap read_all a.number) ∙ all) did.ends

pub went_through : (words : List (List ℕ)) (limit : ℕ) (before after : Contents) (faults faults_now answer : ℕ)
    (c : Command) → takes_file c ≡ false →
    read_all answer ≡ true → Means words c → (a : Answered words limit before after faults faults_now answer) →
    DidAll (with_rules [] c) limit (before.left 0) (taken_off 0 before after) (added_to 1 before after) a.tally
went_through words limit before after faults faults_now answer c plain all m a =
    went_through-task words limit before after faults faults_now answer (with_rules [] c) all a
    (did-plain c limit before after a.tally a.status plain (a.did c m))

-- the tally that was asked for stands first on standard error

tally-first : (words : List (List ℕ)) (limit : ℕ) (before after : Contents) (faults faults_now answer : ℕ)
    (given : List ℕ) → (a : Answered words limit before after faults faults_now answer) → a.tally ≡ given →
    IsFront given (added_to 2 before after)
tally-first words limit before after faults faults_now answer given a e =
    (a.said, a.on_error ∙ ap (λ (xs : List ℕ). xs ++ a.said) e)

pub tallied : (words : List (List ℕ)) (limit : ℕ) (before after : Contents) (faults faults_now answer : ℕ)
    (c : Command) → read_all answer ≡ true → Means words c →
    Answered words limit before after faults faults_now answer →
    IsFront (tally_of c (taken_off 0 before after)) (added_to 2 before after)
tallied words limit before after faults faults_now answer (FilteringTape file s) all m a =
    (added_to 2 before after, refl)
tallied words limit before after faults faults_now answer (Converting tally first between last) all m a =
    tally-first words limit before after faults faults_now answer _ a
    (went_through words limit before after faults faults_now answer (Converting tally first between last) refl all m a).tally_is
tallied words limit before after faults faults_now answer (Listing traced s) all m a =
    tally-first words limit before after faults faults_now answer _ a
    (went_through words limit before after faults faults_now answer (Listing traced s) refl all m a).tally_is
tallied words limit before after faults faults_now answer Migrating all m a =
    tally-first words limit before after faults faults_now answer _ a
    (went_through words limit before after faults faults_now answer Migrating refl all m a).tally_is
tallied words limit before after faults faults_now answer (RecordingTape s) all m a =
    tally-first words limit before after faults faults_now answer _ a
    (went_through words limit before after faults faults_now answer (RecordingTape s) refl all m a).tally_is
tallied words limit before after faults faults_now answer PlayingFile all m a =
    tally-first words limit before after faults faults_now answer _ a
    (went_through words limit before after faults faults_now answer PlayingFile refl all m a).tally_is
tallied words limit before after faults faults_now answer (GuardingTape s) all m a =
    tally-first words limit before after faults faults_now answer _ a
    (went_through words limit before after faults faults_now answer (GuardingTape s) refl all m a).tally_is
tallied words limit before after faults faults_now answer (RunningRig file) all m a =
    (added_to 2 before after, refl)
tallied words limit before after faults faults_now answer (Selftesting start count) all m a =
    tally-first words limit before after faults faults_now answer _ a
    (went_through words limit before after faults faults_now answer (Selftesting start count) refl all m a).tally_is

is_whole-of : {R : Type 0} (c : CommandOf R) (s : Spec) (input : List ℕ) → ReadsOne c s → is_whole c input ≡ whole s input
is_whole-of (Converting tally first between last) s input e = ap (λ (t : Spec). whole t input) (sym e)
is_whole-of (Listing traced t) s input e = ap (λ (u : Spec). whole u input) (sym e)
is_whole-of Migrating s input e = absurd e
is_whole-of (RecordingTape t) s input e = absurd e
is_whole-of PlayingFile s input e = absurd e
is_whole-of (GuardingTape t) s input e = absurd e
is_whole-of (FilteringTape rules t) s input e = absurd e
is_whole-of (RunningRig file) s input e = absurd e
is_whole-of (Selftesting start count) s input e = absurd e

-- a recording that is no tape has no fault
no_fault-of : {R : Type 0} (c : CommandOf R) (s : Spec) (input : List ℕ) (f : Fault) → ReadsOne c s → fault_of c input ≡ Some f → ⊥
no_fault-of (Converting tally first between last) s input f reads e = cc
no_fault-of (Listing traced t) s input f reads e = cc
no_fault-of Migrating s input f reads e = reads
no_fault-of (RecordingTape t) s input f reads e = reads
no_fault-of PlayingFile s input f reads e = reads
no_fault-of (GuardingTape t) s input f reads e = reads
no_fault-of (FilteringTape rules t) s input f reads e = reads
no_fault-of (RunningRig file) s input f reads e = reads
no_fault-of (Selftesting start count) s input f reads e = reads

leaves_none : {R : Type 0} (c : CommandOf R) (s : Spec) (input : List ℕ) (why : SmfFull) → ReadsOne c s → LeavesOut c input why → ⊥
leaves_none (Converting tally first between last) s input why reads e = e
leaves_none (Listing traced t) s input why reads e = e
leaves_none Migrating s input why reads e = e
leaves_none (RecordingTape t) s input why reads e = reads
leaves_none PlayingFile s input why reads e = e
leaves_none (GuardingTape t) s input why reads e = e
leaves_none (FilteringTape rules t) s input why reads e = e
leaves_none (RunningRig file) s input why reads e = e
leaves_none (Selftesting start count) s input why reads e = e

wants_none : {R : Type 0} (c : CommandOf R) (s : Spec) (input : List ℕ) → ReadsOne c s → may_want_memory c ≡ false →
    WantsMemory c input → ⊥
wants_none (Converting tally first between last) s input reads w e = wrong (sym (e.0) ∙ w)
wants_none (Listing traced t) s input reads w e = wrong (sym (e.0) ∙ w)
wants_none Migrating s input reads w e = reads
wants_none (RecordingTape t) s input reads w e = reads
wants_none PlayingFile s input reads w e = reads
wants_none (GuardingTape t) s input reads w e = reads
wants_none (FilteringTape rules t) s input reads w e = reads
wants_none (RunningRig file) s input reads w e = reads
wants_none (Selftesting start count) s input reads w e = reads

pub no_fault : {R : Type 0} (c : CommandOf R) (s : Spec) (input : List ℕ) (f : Fault) → ReadsOne c s → may_want_memory c ≡ false →
    Shows c input f → ⊥
no_fault c s input (fault.Tape f) reads w e = no_fault-of c s input (fault.Tape f) reads e
no_fault c s input (fault.File f) reads w e = no_fault-of c s input (fault.File f) reads e
no_fault c s input fault.LongTrack reads w e = leaves_none c s input full.Track reads e
no_fault c s input (fault.LongGap was now) reads w e = leaves_none c s input (full.Gap was now) reads e
no_fault c s input fault.Memory reads w e = wants_none c s input reads w e
no_fault c s input (fault.Rig line cause) reads w e = e
no_fault c s input (fault.Rules f) reads w e = e

pub one-reads : {R : Type 0} (c : CommandOf R) (s : Spec) → ReadsOne c s → reads_from c 0 ≡ true
one-reads (Converting tally first between last) s e = refl
one-reads (Listing traced t) s e = refl
one-reads Migrating s e = absurd e
one-reads (RecordingTape t) s e = absurd e
one-reads PlayingFile s e = absurd e
one-reads (GuardingTape t) s e = absurd e
one-reads (FilteringTape rules t) s e = absurd e
one-reads (RunningRig file) s e = absurd e
one-reads (Selftesting start count) s e = absurd e

-- at the end, it is 5 exactly where the input stops inside a packet
cut-task : (words : List (List ℕ)) (limit : ℕ) (before after : Contents) (faults faults_now answer : ℕ)
    (c : Task) (s : Spec) → ReadsOne c s →
    read_all answer ≡ true → (a : Answered words limit before after faults faults_now answer) →
    Did c limit before after a.tally a.status → (answer ≡ 5) ↔ (whole s (before.left 0) ≡ false)
cut-task words limit before after faults faults_now answer c s reads all a did =
    subst (λ (n : ℕ). (n ≡ 5) ↔ (whole s (before.left 0) ≡ false)) (sym a.number)
    (at_the_end
    (λ t. EndsAs c limit (before.left 0) (taken_off 0 before after) (added_to 1 before after) a.tally t →
    (code_of t ≡ 5) ↔ (whole s (before.left 0) ≡ false))
    (λ ends. (λ n. absurd (omega (arith, n)), λ h. absurd (wrong (sym (ends.1) ∙ cut h))))
    (λ ends. (λ n. absurd (omega (arith, n)), λ h. absurd (wrong (sym (ends.1) ∙ cut h))))
    (λ ends. (λ n. sym same ∙ ends.1, λ h. refl))
    a.status (sym (ap read_all a.number) ∙ all) did.ends)
  where
    went : DidAll c limit (before.left 0) (taken_off 0 before after) (added_to 1 before after) a.tally
    went = went_through-task words limit before after faults faults_now answer c all a did

    same : is_whole c (taken_off 0 before after) ≡ whole s (before.left 0)
    same = ap (is_whole c) (sym (went.all (one-reads c s reads))) ∙ is_whole-of c s (before.left 0) reads

    cut : whole s (before.left 0) ≡ false → is_whole c (taken_off 0 before after) ≡ false
    cut h = same ∙ h

pub cut-at_end : (words : List (List ℕ)) (limit : ℕ) (before after : Contents) (faults faults_now answer : ℕ)
    (c : Command) (s : Spec) → ReadsOne c s →
    read_all answer ≡ true → Means words c → (a : Answered words limit before after faults faults_now answer) →
    (answer ≡ 5) ↔ (whole s (before.left 0) ≡ false)
cut-at_end words limit before after faults faults_now answer c s reads all m a =
    cut-task words limit before after faults faults_now answer (with_rules [] c) s (reader-task c s reads) all a
    (did-plain c limit before after a.tally a.status (plain-reader c s reads) (a.did c m))

-- an answer that is none of the others comes at the end
pub reads_all : (words : List (List ℕ)) (limit : ℕ) (before after : Contents) (reads writes : Type 0)
    (status : Status) (c : Command) (t : Task) →
    Means words c → MayAnswerWords words status →
    (status ≡ Stopped ReadFault → reads) → (status ≡ Stopped Refused → writes) → (reads → ⊥) → (writes → ⊥) →
    length (before.left 0) < limit →
    ((input : List ℕ) (g : Fault) → IsFront input (before.left 0) → Shows t input g → ⊥) →
    (ran : RanWords words limit before after status) →
    EndsAs t limit (before.left 0) ran.input ran.output ran.tally status → read_all (code_of status) ≡ true
reads_all words limit before after reads writes Done c t m may r f nr nw short sound ran ends = refl
reads_all words limit before after reads writes Noted c t m may r f nr nw short sound ran ends = refl
reads_all words limit before after reads writes Usage c t m may r f nr nw short sound ran ends = absurd (may.usage refl c m)
reads_all words limit before after reads writes Cut c t m may r f nr nw short sound ran ends = refl
reads_all words limit before after reads writes (Stopped ReadFault) c t m may r f nr nw short sound ran ends =
    absurd (nr (r refl))
reads_all words limit before after reads writes (Stopped Refused) c t m may r f nr nw short sound ran ends =
    absurd (nw (f refl))
reads_all words limit before after reads writes (Stopped TooLong) c t m may r f nr nw short sound ran ends =
    absurd (omega (arith, short, ends.0, ap length (ran.front).1, length-append ran.input (ran.front).0))
reads_all words limit before after reads writes (Stopped (Faulty g)) c t m may r f nr nw short sound ran ends =
    absurd (sound ran.input g ran.front ends.2)
reads_all words limit before after reads writes (BadTape name bad) c t m may r f nr nw short sound ran ends = absurd ends

-- of a conversion of a whole input, that is 0
pub completes : (words : List (List ℕ)) (limit : ℕ) (before after : Contents) (faults faults_now answer : ℕ)
    (tally : Bool) (first : Spec) (between : List Spec) (last : Spec) →
    read_all answer ≡ true → Means words (Converting tally first between last) → whole first (before.left 0) ≡ true →
    Answered words limit before after faults faults_now answer → answer ≡ 0
completes words limit before after faults faults_now answer tally first between last all m is a =
    a.number
    ∙ at_the_end
    (λ t. EndsAs (Converting tally first between last) limit (before.left 0) (taken_off 0 before after)
    (added_to 1 before after) a.tally t → code_of t ≡ 0)
    (λ ends. refl) (λ ends. absurd (ends.2))
    (λ ends. absurd (wrong (sym is ∙ (ap (whole first) ((ends.0).all refl) ∙ ends.1))))
    a.status (sym (ap read_all a.number) ∙ all)
    (did-plain (Converting tally first between last) limit before after a.tally a.status refl
    (a.did (Converting tally first between last) m)).ends

-- statuses that only some commands have

pub means-noted : (words : List (List ℕ)) (rules : List Rule) (c : Command) → Means words c →
    answers_notes (with_rules rules c) ≡ true → (s : Spec) × Means words (Listing false s)
means-noted words rules (Converting tally first between last) m e = absurd (wrong (sym e))
means-noted words rules (Listing true s) m e = absurd (wrong (sym e))
means-noted words rules (Listing false s) m e = (s, m)
means-noted words rules Migrating m e = absurd (wrong (sym e))
means-noted words rules (RecordingTape s) m e = absurd (wrong (sym e))
means-noted words rules PlayingFile m e = absurd (wrong (sym e))
means-noted words rules (GuardingTape s) m e = absurd (wrong (sym e))
means-noted words rules (FilteringTape file s) m e = absurd (wrong (sym e))
means-noted words rules (RunningRig file) m e = absurd (wrong (sym e))
means-noted words rules (Selftesting start count) m e = absurd (wrong (sym e))

means-file : (words : List (List ℕ)) (rules : List Rule) (c : Command) → Means words c →
    reads_file (with_rules rules c) ≡ true → Means words PlayingFile
means-file words rules (Converting tally first between last) m e = absurd (wrong (sym e))
means-file words rules (Listing true s) m e = absurd (wrong (sym e))
means-file words rules (Listing false s) m e = absurd (wrong (sym e))
means-file words rules Migrating m e = absurd (wrong (sym e))
means-file words rules (RecordingTape s) m e = absurd (wrong (sym e))
means-file words rules PlayingFile m e = m
means-file words rules (GuardingTape s) m e = absurd (wrong (sym e))
means-file words rules (FilteringTape file s) m e = absurd (wrong (sym e))
means-file words rules (RunningRig file) m e = absurd (wrong (sym e))
means-file words rules (Selftesting start count) m e = absurd (wrong (sym e))

means-filter : (words : List (List ℕ)) (rules : List Rule) (c : Command) → Means words c →
    takes_rules (with_rules rules c) ≡ true → (file : List ℕ) × (s : Spec) × Means words (FilteringTape file s)
means-filter words rules (Converting tally first between last) m e = absurd (wrong (sym e))
means-filter words rules (Listing true s) m e = absurd (wrong (sym e))
means-filter words rules (Listing false s) m e = absurd (wrong (sym e))
means-filter words rules Migrating m e = absurd (wrong (sym e))
means-filter words rules (RecordingTape s) m e = absurd (wrong (sym e))
means-filter words rules PlayingFile m e = absurd (wrong (sym e))
means-filter words rules (GuardingTape s) m e = absurd (wrong (sym e))
means-filter words rules (FilteringTape file s) m e = (file, s, m)
means-filter words rules (RunningRig file) m e = absurd (wrong (sym e))
means-filter words rules (Selftesting start count) m e = absurd (wrong (sym e))

means-rig : (words : List (List ℕ)) (rules : List Rule) (c : Command) → Means words c →
    runs_rig (with_rules rules c) ≡ true → (file : List ℕ) × Means words (RunningRig file)
means-rig words rules (Converting tally first between last) m e = absurd (wrong (sym e))
means-rig words rules (Listing traced s) m e = absurd (wrong (sym e))
means-rig words rules Migrating m e = absurd (wrong (sym e))
means-rig words rules (RecordingTape s) m e = absurd (wrong (sym e))
means-rig words rules PlayingFile m e = absurd (wrong (sym e))
means-rig words rules (GuardingTape s) m e = absurd (wrong (sym e))
means-rig words rules (FilteringTape file s) m e = absurd (wrong (sym e))
means-rig words rules (RunningRig file) m e = (file, m)
means-rig words rules (Selftesting start count) m e = absurd (wrong (sym e))

pub is_canonical : (first : Spec) (between : List Spec) (last : Spec) (read written : List ℕ) → last ≡ Din →
    written ≡ through first between last read → through Din [] Din written ≡ written
is_canonical first between last read written byte_line e =
    let same : written ≡ through first between Din read = e
    ∙ ap (λ (s : Spec). through first between s read) byte_line in
    ap (through Din [] Din) same ∙ (through-canonical first between read ∙ sym same)

pub usage_only : (words : List (List ℕ)) (status : Status) (answer : ℕ) → answer ≡ code_of status →
    MayAnswerWords words status → (answer ≡ 2) ↔ ((c : Command) → Means words c → ⊥)
usage_only words status answer number may = (
  λ two. may.usage (same_status status Usage refl (sym number ∙ two)),
  λ none. number ∙ by_status status may none,
)
  where
    meant : (s : Status) → MayAnswerWords words s → ((c : Command) → Means words c → ⊥) → (s ≡ Usage → ⊥) → ⊥
    meant s may none other = let m = may.other other in none m.0 m.1

    not_stopped : (stop : Stop) → Stopped stop ≡ Usage → ⊥
    not_stopped stop e = cc

    by_status : (s : Status) → MayAnswerWords words s → ((c : Command) → Means words c → ⊥) → code_of s ≡ 2
    by_status Usage may none = refl
    by_status Done may none = absurd (meant Done may none (other_status Done Usage (λ e. omega (arith, e))))
    by_status Noted may none = absurd (meant Noted may none (other_status Noted Usage (λ e. omega (arith, e))))
    by_status Cut may none = absurd (meant Cut may none (other_status Cut Usage (λ e. omega (arith, e))))
    by_status (Stopped stop) may none = absurd (meant (Stopped stop) may none (λ e. not_stopped stop e))
    by_status (BadTape name bad) may none =
        absurd (meant (BadTape name bad) may none (other_status (BadTape name bad) Usage (λ e. omega (arith, e))))

pub is_meant : (words : List (List ℕ)) (status : Status) (answer : ℕ) → answer ≡ code_of status →
    MayAnswerWords words status → (answer ≡ 2 → ⊥) → (c : Command) × Means words c
is_meant words status answer number may other = let m = may.other (λ e. other (number ∙ ap code_of e)) in (m.0, m.1)

-- the same of desks that tell nothing

pub read_faults : (quiet : Type 0) (reads reads_mid reads_now writes writes_mid : ℕ) (status : Status) (answer : ℕ) →
    answer ≡ code_of status → reads_now ≡ reads_mid → Faulted quiet reads reads_mid writes writes_mid status →
    (answer ≡ 3 → Rose reads reads_now) × ((answer ≡ 3 → ⊥) → (answer ≡ 4 → quiet) → reads_now ≡ reads)
read_faults quiet reads reads_mid reads_now writes writes_mid status answer number same f = (
  λ three. subst (λ (n : ℕ). Rose reads n) (sym same)
      (f.read (same_status status (Stopped ReadFault) refl (sym number ∙ three))),
  λ other stopped. same ∙ f.unread (λ e. other (number ∙ ap code_of e)) (λ e. stopped (number ∙ ap code_of e)),
)

pub write_fault : (quiet : Type 0) (reads reads_mid writes writes_mid writes_now : ℕ) (status : Status) (answer : ℕ) →
    answer ≡ code_of status → writes_mid ≤ writes_now → Faulted quiet reads reads_mid writes writes_mid status →
    answer ≡ 4 → Rose writes writes_now
write_fault quiet reads reads_mid writes writes_mid writes_now status answer number later f four =
    omega (arith, f.write (same_status status (Stopped Refused) refl (sym number ∙ four)), later)

pub no_write_fault : (quiet : Type 0) (reads reads_mid writes writes_mid writes_now : ℕ) (status : Status) (answer : ℕ) →
    answer ≡ code_of status → (text_of status ≡ [] → writes_now ≡ writes_mid) →
    Faulted quiet reads reads_mid writes writes_mid status → (answer ≡ 0) ⊎ (answer ≡ 1) → writes_now ≡ writes
no_write_fault quiet reads reads_mid writes writes_mid writes_now status answer number silent f e = elim e [
  | inl zero ↦ by_status Done (same_status status Done refl (sym number ∙ zero)) refl (λ h. omega (arith, h))
  | inr one ↦ by_status Noted (same_status status Noted refl (sym number ∙ one)) refl (λ h. omega (arith, h))
]
  where
    by_status : (s : Status) → status ≡ s → text_of s ≡ [] → (code_of s ≡ 4 → ⊥) → writes_now ≡ writes
    by_status s same none other = silent (ap text_of same ∙ none) ∙ f.unwritten (λ e. other (ap code_of (sym same ∙ e)))

-- the command of an answer that is no 2, and that it may have it
means-other : (words : List (List ℕ)) (status t : Status) → MayAnswerWords words status →
    (code_of status ≡ 2 → ⊥) → status ≡ t → (c : Command) × Means words c × CommandMay c t
means-other words status t may other same =
    let m = may.other (λ e. other (ap code_of e)) in
    (m.0, m.1, subst (CommandMay m.0) same m.2)

pub wants_memory : (words : List (List ℕ)) (status : Status) (answer : ℕ) → answer ≡ code_of status →
    MayAnswerWords words status → answer ≡ 9 →
    (c : Command) × Means words c × (may_want_memory c ≡ true)
wants_memory words status answer number may nine =
    let m = means-other words status (Stopped (Faulty fault.Memory)) may (λ e. omega (arith, number, nine, e))
    (no_memory status (sym number ∙ nine)) in
    let may_it = m.2 in
    (m.0, m.1, sym (memory-task may_it.rules m.0) ∙ may_it.may)

pub noted_alone : (words : List (List ℕ)) (status : Status) (answer : ℕ) → answer ≡ code_of status →
    MayAnswerWords words status → answer ≡ 1 → (s : Spec) × Means words (Listing false s)
noted_alone words status answer number may one =
    let m = means-other words status Noted may (λ e. omega (arith, number, one, e))
    (same_status status Noted refl (sym number ∙ one)) in
    let may_it = m.2 in
    means-noted words may_it.rules m.0 m.1 may_it.may

pub tape_alone : (words : List (List ℕ)) (status : Status) (answer : ℕ) → answer ≡ code_of status →
    MayAnswerWords words status → answer ≡ 7 → (c : Command) × Means words c × (reads_tape c ≡ true)
tape_alone words status answer number may seven = elim (bad_tape status (sym number ∙ seven)) [
  | inl bad ↦ (let m = means-other words status (Stopped (Faulty (fault.Tape bad.0))) may
      (λ e. omega (arith, number, seven, e)) bad.1 in
      let may_it = m.2 in
      (m.0, m.1, sym (tape-task may_it.rules m.0) ∙ may_it.may))
  | inr bad ↦ (let m = means-other words status (BadTape bad.0 bad.1) may (λ e. omega (arith, number, seven, e)) bad.2 in
      let may_it = m.2 in
      let r = means-rig words may_it.rules m.0 m.1 may_it.may in
      (RunningRig r.0, r.1, refl))
]

pub rig_alone : (words : List (List ℕ)) (status : Status) (answer : ℕ) → answer ≡ code_of status →
    MayAnswerWords words status → answer ≡ 6 → (file : List ℕ) × Means words (RunningRig file)
rig_alone words status answer number may six =
    let bad = bad_rig status (sym number ∙ six) in
    let m = means-other words status (Stopped (Faulty (fault.Rig bad.0 bad.1))) may
    (λ e. omega (arith, number, six, e)) bad.2 in
    let may_it = m.2 in
    means-rig words may_it.rules m.0 m.1 may_it.may

pub file_alone : (words : List (List ℕ)) (status : Status) (answer : ℕ) → answer ≡ code_of status →
    MayAnswerWords words status → answer ≡ 13 → Means words PlayingFile
file_alone words status answer number may thirteen =
    let bad = bad_file status (sym number ∙ thirteen) in
    let m = means-other words status (Stopped (Faulty (fault.File bad.0))) may
    (λ e. omega (arith, number, thirteen, e)) bad.1 in
    let may_it = m.2 in
    means-file words may_it.rules m.0 m.1 may_it.may

pub rules_alone : (words : List (List ℕ)) (status : Status) (answer : ℕ) → answer ≡ code_of status →
    MayAnswerWords words status → answer ≡ 14 →
    (file : List ℕ) × (s : Spec) × Means words (FilteringTape file s)
rules_alone words status answer number may fourteen =
    let bad = bad_rules status (sym number ∙ fourteen) in
    let m = means-other words status (Stopped (Faulty (fault.Rules bad.0))) may
    (λ e. omega (arith, number, fourteen, e)) bad.1 in
    let may_it = m.2 in
    means-filter words may_it.rules m.0 m.1 may_it.may

-- a self-test

pub selftest-ends : (words : List (List ℕ)) (start count : ℕ) (status : Status) (answer : ℕ) →
    answer ≡ code_of status → MayAnswerWords words status → Means words (Selftesting start count) →
    (answer ≡ 0) ⊎ (answer ≡ 4)
selftest-ends words start count status answer number may means = by_status status number may
  where
    its : (s : Status) → MayAnswerWords words s → (s ≡ Usage → ⊥) →
        MayAnswer (with_rules [] (Selftesting start count)) s
    its s may other =
        let m = may.other other in
        (subst (λ (c : Command). CommandMay c s) (one_command words m.0 (Selftesting start count) m.1 means) m.2).may

    by_status : (s : Status) → answer ≡ code_of s → MayAnswerWords words s → (answer ≡ 0) ⊎ (answer ≡ 4)
    by_status Done e may = inl e
    by_status (Stopped Refused) e may = inr e
    by_status Usage e may = absurd (may.usage refl (Selftesting start count) means)
    by_status Noted e may =
        absurd (wrong (sym (its Noted may (other_status Noted Usage (λ e. omega (arith, e))))))
    by_status Cut e may = absurd (wrong (sym (its Cut may (other_status Cut Usage (λ e. omega (arith, e))))))
    by_status (Stopped (Faulty fault.LongTrack)) e may =
        absurd (wrong (sym (its (Stopped (Faulty fault.LongTrack)) may
        (other_status (Stopped (Faulty fault.LongTrack)) Usage (λ e. omega (arith, e))))))
    by_status (Stopped (Faulty (fault.LongGap was now))) e may =
        absurd (wrong (sym (its (Stopped (Faulty (fault.LongGap was now))) may
        (other_status (Stopped (Faulty (fault.LongGap was now))) Usage (λ e. omega (arith, e))))))
    by_status (Stopped (Faulty fault.Memory)) e may =
        absurd (wrong (sym (its (Stopped (Faulty fault.Memory)) may
        (other_status (Stopped (Faulty fault.Memory)) Usage (λ e. omega (arith, e))))))
    by_status (Stopped (Faulty (fault.Rig line cause))) e may =
        absurd (wrong (sym (its (Stopped (Faulty (fault.Rig line cause))) may
        (other_status (Stopped (Faulty (fault.Rig line cause))) Usage (λ e. omega (arith, e))))))
    by_status (BadTape name bad) e may =
        absurd (wrong (sym (its (BadTape name bad) may
        (other_status (BadTape name bad) Usage (λ e. omega (arith, e))))))
    by_status (Stopped (Faulty (fault.Rules f))) e may =
        absurd (wrong (sym (its (Stopped (Faulty (fault.Rules f))) may
        (other_status (Stopped (Faulty (fault.Rules f))) Usage (λ e. omega (arith, e))))))
    by_status (Stopped ReadFault) e may =
        absurd (wrong (sym (its (Stopped ReadFault) may
        (other_status (Stopped ReadFault) Usage (λ e. omega (arith, e))))))
    by_status (Stopped (Faulty (fault.Tape f))) e may =
        absurd (wrong (sym (its (Stopped (Faulty (fault.Tape f))) may
        (other_status (Stopped (Faulty (fault.Tape f))) Usage (λ e. omega (arith, e))))))
    by_status (Stopped (Faulty (fault.File f))) e may =
        absurd (wrong (sym (its (Stopped (Faulty (fault.File f))) may
        (other_status (Stopped (Faulty (fault.File f))) Usage (λ e. omega (arith, e))))))
    by_status (Stopped TooLong) e may =
        absurd (wrong (sym (its (Stopped TooLong) may
        (other_status (Stopped TooLong) Usage (λ e. omega (arith, e))))))
