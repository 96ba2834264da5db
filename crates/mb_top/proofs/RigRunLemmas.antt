-- A rig's run, from its answer on.
use Rattle.std.proofs.Common.{◌≡◌, ◌≢◌, ℕ, zero, suc, ◌+◌, ◌<◌, Bool, false, List, [], ◌∷◌, ◌++◌, length, refl}
use Rattle.std.proofs.Common.{sym, ◌∙◌, ap, subst, inl, inr, append_assoc, length-append, arith}
use Rattle.std.specs.Prelude.{Some, slice_get, slice_index_or}
use Rattle.arrayvec.specs.ArrayVec.{ArrayVec}
use Rattle.mb_frames.specs.declared.tape.TapeFault.{TapeFault}
use Rattle.std.proofs.lemmas.List.{append-nil}
use Rattle.mb_message.specs.Front.{IsFront}
use Rattle.mb_outside.specs.Contents.{Contents, next_handle}
use Rattle.mb_rig.specs.Causes.{EndCause}
use Rattle.mb_rig.specs.RigText.{RigPort, Setup}
use Rattle.mb_rig.specs.Merging.Report.{text_of as report_of}
use Rattle.mb_rig.specs.RigRun.{EndLink, RunEnds, files_of, to_write}
use Rattle.mb_rig.specs.declared.ending.RigEnd.{RigEnd}
use Rattle.mb_rig.specs.declared.ending.RigEnd.TheVariants as end
use Rattle.mb_words.specs.Command.{RunningRig}
use Rattle.mb_top.specs.Answer.{IsHandle}
use Rattle.mb_top.specs.Ran.{CommandMay, Faulted}
use Rattle.mb_top.specs.RigFile.{EndsIn, IsRigStop, RigDid}
use Rattle.mb_top.specs.TextFile.{Opened}
use Rattle.mb_top.specs.declared.fault.Fault.TheVariants as fault
use Rattle.mb_top.specs.declared.status.Status.{Status}
use Rattle.mb_top.specs.declared.status.Status.TheVariants.{Done, Cut, Stopped, BadTape}
use Rattle.mb_top.specs.declared.status.Stop.{Stop}
use Rattle.mb_top.specs.declared.status.Stop.TheVariants.{ReadFault, Refused, TooLong, Faulty}
use Rattle.mb_top.proofs.RulesLemmas.{SameHandles, opened-given, opened-same, untouched}

-- faults that were counted

no_fault : (status : Status) (reads reads_now writes writes_now : ℕ) → (status ≡ Stopped ReadFault → ⊥) →
    (status ≡ Stopped Refused → ⊥) → reads_now ≡ reads → writes_now ≡ writes →
    Faulted (Unit {0}) reads reads_now writes writes_now status
no_fault status reads reads_now writes writes_now no_read no_write same still =
    record {
      reads_later = omega (arith, same);
      writes_later = omega (arith, still);
      read = λ e. absurd (no_read e);
      write = λ e. absurd (no_write e);
      unread = λ other quiet. same;
      unwritten = λ other. still;
    }

by_answer : (status t : Status) (reads reads_now writes writes_now : ℕ) → status ≡ t →
    Faulted (Unit {0}) reads reads_now writes writes_now t → Faulted (Unit {0}) reads reads_now writes writes_now status
by_answer status t reads reads_now writes writes_now is f =
    subst (λ (s : Status). Faulted (Unit {0}) reads reads_now writes writes_now s) (sym is) f

pub end-faults : (s : Setup) (e : RigEnd) (status : Status) (reads reads_now writes writes_now : ℕ) →
    EndsIn s e status → EndCause reads reads_now writes writes_now e →
    Faulted (Unit {0}) reads reads_now writes writes_now status
end-faults s end.Done status reads reads_now writes writes_now is c =
    by_answer status Done reads reads_now writes writes_now is
    (no_fault Done reads reads_now writes writes_now (λ e. cc) (λ e. cc) c.0 c.1)
end-faults s end.Cut status reads reads_now writes writes_now is c =
    by_answer status Cut reads reads_now writes writes_now is
    (no_fault Cut reads reads_now writes writes_now (λ e. cc) (λ e. cc) c.0 c.1)
end-faults s (end.TooLong link) status reads reads_now writes writes_now is c =
    by_answer status (Stopped TooLong) reads reads_now writes writes_now is
    (no_fault (Stopped TooLong) reads reads_now writes writes_now (λ e. cc) (λ e. cc) c.0 c.1)
end-faults s (end.Memory memory) status reads reads_now writes writes_now is c =
    by_answer status (Stopped (Faulty fault.Memory)) reads reads_now writes writes_now is
    (no_fault (Stopped (Faulty fault.Memory)) reads reads_now writes writes_now (λ e. cc) (λ e. cc) c.0 c.1)
end-faults s (end.BadTape link f) status reads reads_now writes writes_now is c =
    by_answer status (BadTape is.0 f) reads reads_now writes writes_now is.2
    (no_fault (BadTape is.0 f) reads reads_now writes writes_now (λ e. cc) (λ e. cc) c.0 c.1)
end-faults s end.ReadFault status reads reads_now writes writes_now is c =
    by_answer status (Stopped ReadFault) reads reads_now writes writes_now is
    (record {
      reads_later = (c.0).1;
      writes_later = omega (arith, c.1);
      read = λ e. (c.0).0;
      write = λ e. cc;
      unread = λ other quiet. absurd (other refl);
      unwritten = λ other. c.1;
    })
end-faults s end.WriteFault status reads reads_now writes writes_now is c =
    by_answer status (Stopped Refused) reads reads_now writes writes_now is
    (record {
      reads_later = omega (arith, c.0);
      writes_later = (c.1).1;
      read = λ e. cc;
      write = λ e. (c.1).0;
      unread = λ other quiet. c.0;
      unwritten = λ other. absurd (other refl);
    })

pub later-faults : (status : Status) (reads reads_mid reads_now writes writes_mid writes_now : ℕ) →
    reads_mid ≡ reads → writes_mid ≡ writes → Faulted (Unit {0}) reads_mid reads_now writes_mid writes_now status →
    Faulted (Unit {0}) reads reads_now writes writes_now status
later-faults status reads reads_mid reads_now writes writes_mid writes_now same still f =
    subst (λ (n : ℕ). Faulted (Unit {0}) n reads_now writes writes_now status) same
    (subst (λ (n : ℕ). Faulted (Unit {0}) reads_mid reads_now n writes_now status) still f)

-- the answers that it may have

may-be : (file : List ℕ) (status t : Status) → status ≡ t → CommandMay (RunningRig file) t →
    CommandMay (RunningRig file) status
may-be file status t is may = subst (CommandMay (RunningRig file)) (sym is) may

pub end-may : (s : Setup) (file : List ℕ) (e : RigEnd) (status : Status) → EndsIn s e status →
    CommandMay (RunningRig file) status
end-may s file end.Done status is = may-be file status Done is (record { rules = []; may = tt })
end-may s file end.Cut status is = may-be file status Cut is (record { rules = []; may = refl })
end-may s file end.ReadFault status is =
    may-be file status (Stopped ReadFault) is (record { rules = []; may = refl })
end-may s file end.WriteFault status is = may-be file status (Stopped Refused) is (record { rules = []; may = tt })
end-may s file (end.BadTape link f) status is =
    may-be file status (BadTape is.0 f) is.2 (record { rules = []; may = refl })
end-may s file (end.TooLong link) status is =
    may-be file status (Stopped TooLong) is (record { rules = []; may = refl })
end-may s file (end.Memory memory) status is =
    may-be file status (Stopped (Faulty fault.Memory)) is (record { rules = []; may = refl })

pub no_rig-may : (file : List ℕ) (stop : Stop) → IsRigStop (Stopped stop) → CommandMay (RunningRig file) (Stopped stop)
no_rig-may file ReadFault h = record { rules = []; may = refl }
no_rig-may file (Faulty (fault.Rig line cause)) h = record { rules = []; may = refl }
no_rig-may file (Faulty fault.Memory) h = record { rules = []; may = refl }
no_rig-may file Refused h = absurd h
no_rig-may file TooLong h = absurd h
no_rig-may file (Faulty (fault.Tape f)) h = absurd h
no_rig-may file (Faulty (fault.File f)) h = absurd h
no_rig-may file (Faulty fault.LongTrack) h = absurd h
no_rig-may file (Faulty (fault.LongGap was now)) h = absurd h
no_rig-may file (Faulty (fault.Rules f)) h = absurd h

-- what a run did to the handles that the desk had

pub report-front : (s : Setup) (limit : ℕ) (start ran : Contents) (e : RigEnd) → RunEnds s limit start ran e →
    IsFront (start.written 1) (ran.written 1)
report-front s limit start ran end.Done w = (report_of (w.run).report, (w.run).text)
report-front s limit start ran end.Cut w = (report_of (w.run).report, (w.run).text)
report-front s limit start ran end.ReadFault w = elim w [
  | inl n ↦ ([], n.unwritten ∙ sym (append-nil _))
  | inr r ↦ (report_of (r.1).report, (r.1).text)
]
report-front s limit start ran end.WriteFault w = elim w [
  | inl n ↦ ([], (n.0).unwritten ∙ sym (append-nil _))
  | inr r ↦ ((r.1).told, (r.1).text)
]
report-front s limit start ran (end.BadTape link f) w = (report_of (w.1).report, (w.1).text)
report-front s limit start ran (end.TooLong link) w = (report_of (w.1).report, (w.1).text)
report-front s limit start ran (end.Memory memory) w =
    ([], ap (λ (c : Contents). c.written 1) w ∙ sym (append-nil _))

-- the files that were given
pub record Grown (s : Setup) (start ran : Contents) : Type 0 where
  pub front : List (List ℕ × Bool)
  pub given : ran.given ≡ start.given ++ front
  pub within : IsFront front (files_of s)

pub grown : (s : Setup) (limit : ℕ) (start ran : Contents) (e : RigEnd) → RunEnds s limit start ran e →
    Grown s start ran
grown s limit start ran e w = by e w
  where
    all : ran.given ≡ start.given ++ files_of s → Grown s start ran
    all g = record { front = files_of s; given = g; within = ([], sym (append-nil _)) }

    by : (e : RigEnd) → RunEnds s limit start ran e → Grown s start ran
    by end.Done w = all w.given
    by end.Cut w = all w.given
    by end.ReadFault w = elim w [
      | inl n ↦ record {
        front = n.front;
        given = n.given;
        within = (
          (n.part).0 ++ to_write s.outs,
          ap (λ (xs : List (List ℕ × Bool)). xs ++ to_write s.outs) (n.part).1
              ∙ append_assoc n.front (n.part).0 (to_write s.outs),
        );
      }
      | inr r ↦ all (r.0).given
    ]
    by end.WriteFault w = elim w [
      | inl n ↦ record { front = (n.0).front; given = (n.0).given; within = (((n.0).part).0, ((n.0).part).1) }
      | inr r ↦ all (r.0).given
    ]
    by (end.BadTape link f) w = all (w.0).given
    by (end.TooLong link) w = all (w.0).given
    by (end.Memory memory) w =
        record {
          front = [];
          given = ap (λ (c : Contents). c.given) w ∙ sym (append-nil _);
          within = (files_of s, refl);
        }

pub record OwnHandles (before ran : Contents) : Type 0 where
  pub left : (handle : ℕ) → IsHandle before handle → ran.left handle ≡ before.left handle
  pub taken : (handle : ℕ) → IsHandle before handle → ran.taken handle ≡ before.taken handle
  pub written : (handle : ℕ) → IsHandle before handle → handle ≢ 1 → ran.written handle ≡ before.written handle
  pub report : IsFront (before.written 1) (ran.written 1)

unmoved : (before ran : Contents) → SameHandles before ran → OwnHandles before ran
unmoved before ran same =
    record {
      left = same.left;
      taken = same.taken;
      written = λ handle h other. same.written handle h;
      report = ([], same.written 1 (omega arith) ∙ sym (append-nil _));
    }

-- one file more is open
pub one-more : (file : List ℕ) (before start : Contents) → Opened before start file →
    next_handle start ≡ next_handle before + 1
one-more file before start o =
    let more : length start.given ≡ length before.given + 1 =
    ap length (opened-given file before start o) ∙ length-append before.given ((file, false) ∷ []) in
    omega (arith, more)

pub own-handles : (file : List ℕ) (limit : ℕ) (before ran : Contents) (status : Status) →
    RigDid file limit before ran status → OwnHandles before ran
own-handles file limit before ran status d = elim d [
  | inl none ↦ elim none.0 [
    | inl e ↦ unmoved before ran (untouched before ran e)
    | inr o ↦ unmoved before ran (opened-same file before ran o)
  ]
  | inr r ↦ (let same = opened-same file before r.start r.opened in
      let more = one-more file before r.start r.opened in
      record {
        left = λ handle h. (r.keeps).left handle (λ low high. omega (arith, low, h, more)) ∙ same.left handle h;
        taken = λ handle h. (r.keeps).taken handle (λ low high. omega (arith, low, h, more)) ∙ same.taken handle h;
        written = λ handle h other.
            (r.keeps).written handle other (λ low high. omega (arith, low, h, more)) ∙ same.written handle h;
        report = subst (λ (xs : List ℕ). IsFront xs (ran.written 1)) (same.written 1 (omega arith))
            (report-front r.rig limit r.start ran r.ending r.ends);
      })
]

-- the link of a tape's fault

index-at : (ps : List RigPort) (at : ℕ) (d : RigPort) → at < length ps → slice_get ps at ≡ Some (slice_index_or ps at d)
index-at [] at d within = absurd (omega (arith, within))
index-at (p ∷ ps) zero d within = refl
index-at (p ∷ ps) (suc at) d within = index-at ps at d (omega (arith, within))

pub link-port : (s : Setup) (e : RigEnd) (link : ℕ) (f : TapeFault) (ins : List RigPort) (at : ℕ) (p d : RigPort) →
    e ≡ end.BadTape link f → EndLink s e → ins ≡ s.ins → at ≡ link → p ≡ slice_index_or ins at d →
    slice_get s.ins link ≡ Some p
link-port s e link f ins at p d is h same place found =
    let within : link < length s.ins = subst (EndLink s) is h in
    index-at s.ins link d within
    ∙ ap (λ (q : RigPort). Some q) (sym (found ∙ (ap (λ (ps : List RigPort). slice_index_or ps at d) same
    ∙ ap (λ (n : ℕ). slice_index_or s.ins n d) place)))

pub bad-tape : (s : Setup) (e : RigEnd) (link : ℕ) (f : TapeFault) (name : ArrayVec ℕ) (p : RigPort) →
    e ≡ end.BadTape link f → slice_get s.ins link ≡ Some p → name.items ≡ p.file → EndsIn s e (BadTape name f)
bad-tape s e link f name p is at named =
    subst (λ (x : RigEnd). EndsIn s x (BadTape name f)) (sym is) (name, p, refl, at, named)
