-- What each answer says of a tape that is recorded.
use Rattle.std.proofs.Common.{◌≡◌, ℕ, ◌<◌, ◌↔◌, ◌⊎◌, true, false, List, [], length, refl, sym, ◌∙◌, ap, subst, arith}
use Rattle.std.proofs.Common.{inl, inr, length-append}
use Rattle.std.proofs.lemmas.List.{append-nil}
use Rattle.std.specs.Prelude.{Option, None, Some, IsSome}
use Rattle.mb_message.specs.Front.{IsFront}
use Rattle.mb_outside.specs.Contents.{Contents}
use Rattle.mb_stream.specs.Denotation.{denotation}
use Rattle.mb_stream.specs.Puts.{signs_in}
use Rattle.mb_frames.specs.Tapes.{tape_fault}
use Rattle.mb_frames.specs.declared.tape.TapeFault.{TapeFault}
use Rattle.mb_stream.specs.Reading.{signs_of}
use Rattle.mb_din.specs.Recording.{din_reading}
use Rattle.mb_smf.specs.Smf.{SmfRead, bare_bytes, smf}
use Rattle.mb_smf.specs.SmfWritten.{smf_written}
use Rattle.mb_smf.proofs.WrittenLaw.{written-read}
use Rattle.mb_smf.proofs.WrittenMeaning.{written-means}
use Rattle.mb_smf.specs.declared.writer.SmfFull.TheVariants as full
use Rattle.mb_track.specs.Track.{track_marks, track_whole}
use Rattle.mb_tapes.specs.Recorded.{CanBeRecorded, FirstLeftOut, recorded_file}
use Rattle.mb_carrier.specs.declared.spec.Spec.{Spec}
use Rattle.mb_words.specs.Command.{RecordingTape, Means}
use Rattle.mb_top.specs.Output.{in_tape}
use Rattle.mb_top.specs.Answer.{Answered, EndsAs, taken_off, added_to, code_of, read_all}
use Rattle.mb_top.specs.Ran.{MayAnswerWords, RanWords}
use Rattle.mb_top.proofs.TaskLemmas.{did-plain}
use Rattle.mb_top.specs.declared.fault.Fault.{Fault}
use Rattle.mb_top.specs.declared.fault.Fault.TheVariants as fault
use Rattle.mb_top.specs.declared.status.Status.{Status}
use Rattle.mb_top.specs.declared.status.Status.TheVariants.{Done, Noted, Usage, Cut, Stopped, BadTape}
use Rattle.mb_top.specs.declared.status.Stop.TheVariants.{ReadFault, Refused, TooLong, Faulty}

wrong : true ≡ false → ⊥
wrong e = cc

-- at the end of the tape
pub record RecordedAll (s : Spec) (left read written : List ℕ) (answer : ℕ) : Type 0 where
  pub written_is : written ≡ recorded_file s read
  pub can : CanBeRecorded s read
  pub all : read ≡ left
  pub sound : tape_fault read ≡ None
  pub cut : (answer ≡ 5) ↔ (track_whole s 0 read ≡ false)

pub record RecordedBy (s : Spec) (left read written : List ℕ) (answer : ℕ) : Type 0 where
  pub at_end : read_all answer ≡ true → RecordedAll s left read written answer
  pub nothing : read_all answer ≡ false → (answer ≡ 4 → ⊥) → written ≡ []
  pub part : answer ≡ 4 → IsFront written (recorded_file s read)
  pub bad : answer ≡ 7 → IsSome (tape_fault read)
  pub long_track : answer ≡ 11 → FirstLeftOut (track_marks s 0 read) full.Track
  pub long_gap : answer ≡ 12 → (was : ℕ) × (now : ℕ) × FirstLeftOut (track_marks s 0 read) (full.Gap was now)

none-told : (told : Option TapeFault) → in_tape told ≡ None → told ≡ None
none-told None e = refl
none-told (Some f) e = cc

some-told : (told : Option TapeFault) (f : TapeFault) → in_tape told ≡ Some (fault.Tape f) → IsSome told
some-told None f e = cc
some-told (Some g) f e = refl

no-file : {A : Type 0} (told : Option TapeFault) (f : Fault) → in_tape told ≡ Some f →
    ((g : TapeFault) → f ≡ fault.Tape g → ⊥) → A
no-file None f e other = cc
no-file (Some g) f e other = absurd (other g (same (fault.Tape g) f e))
  where
    same : (x y : Fault) → Some x ≡ Some y → y ≡ x
    same x y e = cc

by_status : (s : Spec) (limit : ℕ) (left read written tally : List ℕ) (status : Status) →
    EndsAs (RecordingTape s) limit left read written tally status → RecordedBy s left read written (code_of status)
by_status s limit left read written tally Done ends =
    record {
      at_end = λ all. record {
        written_is = (ends.0).output_is;
        can = (ends.0).can;
        all = sym ((ends.0).all refl);
        sound = none-told (tape_fault read) (ends.0).sound;
        cut = (λ e. absurd (omega (arith, e)), λ h. absurd (wrong (sym (ends.1) ∙ h)));
      };
      nothing = λ other four. absurd (wrong other);
      part = λ e. absurd (omega (arith, e));
      bad = λ e. absurd (omega (arith, e));
      long_track = λ e. absurd (omega (arith, e));
      long_gap = λ e. absurd (omega (arith, e));
    }
by_status s limit left read written tally Noted ends = absurd (ends.2)
by_status s limit left read written tally Usage ends = absurd ends
by_status s limit left read written tally Cut ends =
    record {
      at_end = λ all. record {
        written_is = (ends.0).output_is;
        can = (ends.0).can;
        all = sym ((ends.0).all refl);
        sound = none-told (tape_fault read) (ends.0).sound;
        cut = (λ e. ends.1, λ h. refl);
      };
      nothing = λ other four. absurd (wrong other);
      part = λ e. absurd (omega (arith, e));
      bad = λ e. absurd (omega (arith, e));
      long_track = λ e. absurd (omega (arith, e));
      long_gap = λ e. absurd (omega (arith, e));
    }
by_status s limit left read written tally (Stopped ReadFault) ends =
    record {
      at_end = λ all. absurd (wrong (sym all));
      nothing = λ other four. ends.0;
      part = λ e. absurd (omega (arith, e));
      bad = λ e. absurd (omega (arith, e));
      long_track = λ e. absurd (omega (arith, e));
      long_gap = λ e. absurd (omega (arith, e));
    }
by_status s limit left read written tally (Stopped Refused) ends =
    record {
      at_end = λ all. absurd (wrong (sym all));
      nothing = λ other four. absurd (four refl);
      part = λ e. ends.front;
      bad = λ e. absurd (omega (arith, e));
      long_track = λ e. absurd (omega (arith, e));
      long_gap = λ e. absurd (omega (arith, e));
    }
by_status s limit left read written tally (Stopped TooLong) ends =
    record {
      at_end = λ all. absurd (wrong (sym all));
      nothing = λ other four. ends.1;
      part = λ e. absurd (omega (arith, e));
      bad = λ e. absurd (omega (arith, e));
      long_track = λ e. absurd (omega (arith, e));
      long_gap = λ e. absurd (omega (arith, e));
    }
by_status s limit left read written tally (Stopped (Faulty (fault.Tape f))) ends =
    record {
      at_end = λ all. absurd (wrong (sym all));
      nothing = λ other four. ends.0;
      part = λ e. absurd (omega (arith, e));
      bad = λ e. some-told (tape_fault read) f (ends.2);
      long_track = λ e. absurd (omega (arith, e));
      long_gap = λ e. absurd (omega (arith, e));
    }
by_status s limit left read written tally (Stopped (Faulty (fault.File f))) ends =
    no-file (tape_fault read) (fault.File f) (ends.2) (λ g e. cc)
by_status s limit left read written tally (Stopped (Faulty fault.LongTrack)) ends =
    record {
      at_end = λ all. absurd (wrong (sym all));
      nothing = λ other four. ends.0;
      part = λ e. absurd (omega (arith, e));
      bad = λ e. absurd (omega (arith, e));
      long_track = λ e. ends.2;
      long_gap = λ e. absurd (omega (arith, e));
    }
by_status s limit left read written tally (Stopped (Faulty (fault.LongGap was now))) ends =
    record {
      at_end = λ all. absurd (wrong (sym all));
      nothing = λ other four. ends.0;
      part = λ e. absurd (omega (arith, e));
      bad = λ e. absurd (omega (arith, e));
      long_track = λ e. absurd (omega (arith, e));
      long_gap = λ e. (was, now, ends.2);
    }
by_status s limit left read written tally (Stopped (Faulty fault.Memory)) ends =
    record {
      at_end = λ all. absurd (wrong (sym all));
      nothing = λ other four. ends.0;
      part = λ e. absurd (omega (arith, e));
      bad = λ e. absurd (omega (arith, e));
      long_track = λ e. absurd (omega (arith, e));
      long_gap = λ e. absurd (omega (arith, e));
    }
by_status s limit left read written tally (Stopped (Faulty (fault.Rig line cause))) ends = absurd (ends.2)
by_status s limit left read written tally (BadTape name bad) ends = absurd ends
by_status s limit left read written tally (Stopped (Faulty (fault.Rules f))) ends = absurd (ends.2)

pub recorded-by : (words : List (List ℕ)) (limit : ℕ) (before after : Contents) (faults faults_now answer : ℕ)
    (s : Spec) → Means words (RecordingTape s) → Answered words limit before after faults faults_now answer →
    RecordedBy s (before.left 0) (taken_off 0 before after) (added_to 1 before after) answer
recorded-by words limit before after faults faults_now answer s m a =
    subst (RecordedBy s (before.left 0) (taken_off 0 before after) (added_to 1 before after)) (sym a.number)
    (by_status s limit (before.left 0) (taken_off 0 before after) (added_to 1 before after) a.tally a.status
    (did-plain (RecordingTape s) limit before after a.tally a.status refl (a.did (RecordingTape s) m)).ends)

-- the file means what the marks mean
pub file-means : (s : Spec) (left read written : List ℕ) (answer : ℕ) → RecordedAll s left read written answer →
    denotation (signs_of (din_reading (bare_bytes (smf written).given))) ≡ denotation (signs_in (track_marks s 0 read))
file-means s left read written answer r =
    let is = r.written_is in
    let can = r.can in
    let puts = track_marks s 0 read in
    ap (λ (bytes : List ℕ). denotation (signs_of (din_reading (bare_bytes (smf bytes).given))))
    (is ∙ sym (append-nil (smf_written puts)))
    ∙ (ap (λ (r : SmfRead). denotation (signs_of (din_reading (bare_bytes r.given)))) (written-read puts [] can)
    ∙ written-means puts can)

-- of a whole tape that no call failed on, it is 0, or there is no memory or no file
abbrev pub Recorded : (answer : ℕ) → Type 0
Recorded n = (n ≡ 0) ⊎ ((n ≡ 9) ⊎ ((n ≡ 11) ⊎ (n ≡ 12)))

pub records-completes : (words : List (List ℕ)) (limit : ℕ) (before after : Contents) (reads writes : Type 0)
    (status : Status) (s : Spec) →
    Means words (RecordingTape s) → MayAnswerWords words status →
    (status ≡ Stopped ReadFault → reads) → (status ≡ Stopped Refused → writes) → (reads → ⊥) → (writes → ⊥) →
    length (before.left 0) < limit → track_whole s 0 (before.left 0) ≡ true →
    ((input : List ℕ) (g : Fault) → IsFront input (before.left 0) → in_tape (tape_fault input) ≡ Some g → ⊥) →
    (ran : RanWords words limit before after status) →
    EndsAs (RecordingTape s) limit (before.left 0) ran.input ran.output ran.tally status → Recorded (code_of status)
records-completes words limit before after reads writes Done s m may r f nr nw short is sound ran ends = inl refl
records-completes words limit before after reads writes Noted s m may r f nr nw short is sound ran ends =
    absurd (ends.2)
records-completes words limit before after reads writes Usage s m may r f nr nw short is sound ran ends =
    absurd (may.usage refl (RecordingTape s) m)
records-completes words limit before after reads writes Cut s m may r f nr nw short is sound ran ends =
    absurd (wrong (sym is ∙ (ap (track_whole s 0) ((ends.0).all refl) ∙ ends.1)))
records-completes words limit before after reads writes (Stopped ReadFault) s m may r f nr nw short is sound ran ends =
    absurd (nr (r refl))
records-completes words limit before after reads writes (Stopped Refused) s m may r f nr nw short is sound ran ends =
    absurd (nw (f refl))
records-completes words limit before after reads writes (Stopped TooLong) s m may r f nr nw short is sound ran ends =
    absurd (omega (
      arith,
      short,
      ends.0,
      ap length (ran.front).1,
      length-append ran.input (ran.front).0,
    ))
records-completes words limit before after reads writes (Stopped (Faulty (fault.Tape g))) s m may r f nr nw short is
    sound ran ends = absurd (sound ran.input (fault.Tape g) ran.front ends.2)
records-completes words limit before after reads writes (Stopped (Faulty (fault.File g))) s m may r f nr nw short is
    sound ran ends = absurd (sound ran.input (fault.File g) ran.front ends.2)
records-completes words limit before after reads writes (Stopped (Faulty fault.LongTrack)) s m may r f nr nw short is
    sound ran ends = inr (inr (inl refl))
records-completes words limit before after reads writes (Stopped (Faulty (fault.LongGap was now))) s m may r f nr nw
    short is sound ran ends = inr (inr (inr refl))
records-completes words limit before after reads writes (Stopped (Faulty fault.Memory)) s m may r f nr nw short is
    sound ran ends = inr (inl refl)
records-completes words limit before after reads writes (Stopped (Faulty (fault.Rig line cause))) s m may r f nr nw short is
    sound ran ends = absurd (ends.2)
records-completes words limit before after reads writes (BadTape name bad) s m may r f nr nw short is sound ran ends = absurd ends
records-completes words limit before after reads writes (Stopped (Faulty (fault.Rules g))) s m may r f nr nw short is
    sound ran ends = absurd (ends.2)
