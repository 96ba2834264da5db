-- A rig's run as the caller sees it: behind it the text was said.
use Rattle.std.proofs.Common.{◌≡◌, ◌≢◌, ◌⊎◌, ℕ, ◌+◌, ◌<◌, ◌≤◌, ◌==◌, Bool, true, false, List, [], ◌∷◌}
use Rattle.std.proofs.Common.{◌++◌, length, drop, refl, sym, ◌∙◌, ap, subst, inl, inr, append_assoc, arith}
use Rattle.std.proofs.lemmas.Bool.Decides.{nat_tests}
use Rattle.std.proofs.lemmas.List.{append-nil, drop_at}
use Rattle.mb_message.specs.Front.{IsFront}
use Rattle.mb_outside.specs.Cause.{Rose}
use Rattle.mb_outside.specs.Contents.{Contents, after_open, after_read, after_write, next_handle}
use Rattle.mb_rig.specs.RigText.{Setup, rig_of}
use Rattle.mb_rig.specs.RigRun.{AllGiven, EndLink, IsOut, IsOutFront, IsRun, IsRunFront, IsRunPart, NotGiven, ReadThrough}
use Rattle.mb_rig.specs.RigRun.{RunEnds, RunKeeps, WentThrough, files_of, out_handle, to_read}
use Rattle.mb_rig.specs.declared.ending.RigEnd.{RigEnd}
use Rattle.mb_rig.specs.declared.ending.RigEnd.TheVariants as end
use Rattle.mb_rig.specs.declared.fault.Why.{Why}
use Rattle.mb_words.specs.Command.{Command, RunningRig, Means}
use Rattle.mb_words.proofs.CommandLemmas.{one_command}
use Rattle.mb_top.specs.Answer.{Answered, DidCommand, IsHandle, Moved, RunDid, Says, code_of, taken_off}
use Rattle.mb_top.specs.Answer.{text_of}
use Rattle.mb_top.specs.Ran.{DidWords, Faulted, MayAnswerWords}
use Rattle.mb_top.specs.RigFile.{EndsIn, HasBadRig, HasRig, HasText, NoRig, RigDid, RigRan, RunGave, behind, files_behind}
use Rattle.mb_top.specs.TextFile.{Opened}
use Rattle.mb_top.specs.declared.fault.Fault.TheVariants as fault
use Rattle.mb_top.specs.declared.status.Status.{Status}
use Rattle.mb_top.specs.declared.status.Status.TheVariants.{Done, Noted, Usage, Cut, Stopped, BadTape}
use Rattle.mb_top.specs.declared.status.Stop.TheVariants.{ReadFault, Refused, TooLong, Faulty}
use Rattle.mb_top.proofs.AnswerLemmas.{answered-stream, says-earlier}
use Rattle.mb_top.proofs.RigRunLemmas.{Grown, OwnHandles, grown, one-more, own-handles}
use Rattle.mb_top.proofs.RulesLemmas.{opened-given, opened-same, with_entry-at, with_entry-other}

-- what was said changes nothing but at standard error

other-handle : (handle other : ℕ) → handle ≢ other → (handle == other) ≡ false
other-handle handle other differ = by (handle == other) refl
  where
    by : (t : Bool) → (handle == other) ≡ t → t ≡ false
    by false e = refl
    by true e = absurd (differ (grind (arith, nat_tests)))

same-handle : (handle other : ℕ) → (handle == other) ≡ true → handle ≡ other
same-handle handle other e = grind (arith, nat_tests)

unsaid : (text : List ℕ) (ran : Contents) (handle : ℕ) → handle ≢ 2 →
    (after_write 2 text ran).written handle ≡ ran.written handle
unsaid text ran handle other =
    with_entry-other ran.written 2 (ran.written 2 ++ text) handle (other-handle handle 2 other)

no-out : (s : Setup) (start : Contents) (out : ℕ) → out_handle s start out ≢ 2
no-out s start out e = omega (arith, e)

-- The claims of a run's end, behind the text that was said, and of any desk that the rig's file was opened at.

abbrev begun : (file content : List ℕ) (count : ℕ) → Contents → Contents
begun file content count before = after_read (next_handle before) count (after_open file content before)

seen-through : (file content text : List ℕ) (count : ℕ) (before ran : Contents) (s : Setup) (limit : ℕ) →
    ReadThrough s limit (begun file content count before) ran →
    ReadThrough s limit (behind file before) (after_write 2 text ran)
seen-through file content text count before ran s limit r = record { all = r.all; below = r.below; right = r.right }

seen-run : (file content text : List ℕ) (count : ℕ) (before ran : Contents) (s : Setup) →
    IsRun s (begun file content count before) ran → IsRun s (behind file before) (after_write 2 text ran)
seen-run file content text count before ran s r =
    record {
      report = r.report;
      text = r.text;
      merged = r.merged;
      outs = λ out port at.
          subst (λ (bytes : List ℕ). IsOut s r.report out port bytes)
          (sym (unsaid text ran (out_handle s (behind file before) out) (no-out s (behind file before) out)))
          (r.outs out port at);
    }

seen-went : (file content text : List ℕ) (count : ℕ) (before ran : Contents) (s : Setup) (limit : ℕ) (whole : Bool) →
    WentThrough s limit (begun file content count before) ran whole →
    WentThrough s limit (behind file before) (after_write 2 text ran) whole
seen-went file content text count before ran s limit whole w =
    record {
      given = w.given;
      through = seen-through file content text count before ran s limit w.through;
      run = seen-run file content text count before ran s w.run;
      whole_is = w.whole_is;
    }

seen-given : (file content text : List ℕ) (count : ℕ) (before ran : Contents) (s : Setup) (limit : ℕ) →
    AllGiven s limit (begun file content count before) ran →
    AllGiven s limit (behind file before) (after_write 2 text ran)
seen-given file content text count before ran s limit a = record { given = a.given; few = a.few }

seen-front : (file content text : List ℕ) (count : ℕ) (before ran : Contents) (s : Setup) →
    IsRunFront s (begun file content count before) ran → IsRunFront s (behind file before) (after_write 2 text ran)
seen-front file content text count before ran s r =
    record {
      report = r.report;
      text = r.text;
      merged = r.merged;
      outs = λ out port at.
          subst (λ (bytes : List ℕ). IsOutFront s r.report out port bytes)
          (sym (unsaid text ran (out_handle s (behind file before) out) (no-out s (behind file before) out)))
          (r.outs out port at);
    }

seen-part : (file content text : List ℕ) (count : ℕ) (before ran : Contents) (s : Setup) →
    IsRunPart s (begun file content count before) ran → IsRunPart s (behind file before) (after_write 2 text ran)
seen-part file content text count before ran s r =
    record { report = r.report; told = r.told; text = r.text; begins = r.begins; merged = r.merged }

seen-not : (file content text : List ℕ) (count : ℕ) (before ran : Contents) (s : Setup)
    (files : List (List ℕ × Bool)) → NotGiven s files (begun file content count before) ran →
    NotGiven s files (behind file before) (after_write 2 text ran)
seen-not file content text count before ran s files n =
    record {
      front = n.front;
      part = n.part;
      given = n.given;
      unread = n.unread;
      unwritten = n.unwritten;
      empty = λ out few.
          unsaid text ran (out_handle s (behind file before) out) (no-out s (behind file before) out) ∙ n.empty out few;
    }

-- want of memory leaves nothing but the rig's file
abbrev pub RunSeen : Setup → (limit : ℕ) → (before after : Contents) → RigEnd → Type 0
RunSeen s limit before after (end.Memory memory) =
    (after.given ≡ before.given) × (after.written 1 ≡ before.written 1)
RunSeen s limit before after e = RunEnds s limit before after e

seen-ends : (file content text : List ℕ) (count : ℕ) (before ran : Contents) (s : Setup) (limit : ℕ) (e : RigEnd) →
    RunEnds s limit (begun file content count before) ran e →
    RunSeen s limit (behind file before) (after_write 2 text ran) e
seen-ends file content text count before ran s limit end.Done w =
    seen-went file content text count before ran s limit true w
seen-ends file content text count before ran s limit end.Cut w =
    seen-went file content text count before ran s limit false w
seen-ends file content text count before ran s limit end.ReadFault w = elim w [
  | inl n ↦ inl (seen-not file content text count before ran s (to_read s.ins) n)
  | inr r ↦ inr (
    seen-given file content text count before ran s limit r.0,
    seen-front file content text count before ran s r.1,
  )
]
seen-ends file content text count before ran s limit end.WriteFault w = elim w [
  | inl n ↦ inl (seen-not file content text count before ran s (files_of s) n.0, n.1)
  | inr r ↦ inr (
    seen-given file content text count before ran s limit r.0,
    seen-part file content text count before ran s r.1,
  )
]
seen-ends file content text count before ran s limit (end.BadTape link f) w = (
  seen-given file content text count before ran s limit w.0,
  seen-front file content text count before ran s w.1,
  w.2,
)
seen-ends file content text count before ran s limit (end.TooLong link) w = (
  seen-given file content text count before ran s limit w.0,
  seen-front file content text count before ran s w.1,
  w.2,
  w.3,
)
seen-ends file content text count before ran s limit (end.Memory memory) w =
    (ap (λ (c : Contents). c.given) w, ap (λ (c : Contents). c.written 1) w)

-- the rig that was run is what was taken of its file

seen-rig : (file content text : List ℕ) (count : ℕ) (before ran : Contents) (s : Setup) →
    HasRig file before (begun file content count before) s → RunKeeps s (begun file content count before) ran →
    Grown s (begun file content count before) ran → HasRig file before (after_write 2 text ran) s
seen-rig file content text count before ran s r k g =
    record {
      given = (g.front, g.given);
      all = k.left (next_handle before) below ∙ r.all;
      is = ap rig_of (k.taken (next_handle before) below) ∙ r.is;
    }
  where
    start : Contents
    start = begun file content count before

    opened : Opened before start file
    opened = record { content = content; count = count; contents = refl }

    more : next_handle start ≡ next_handle before + 1
    more = one-more file before start opened

    below : next_handle start ≤ next_handle before → next_handle before < next_handle start + length s.ins → ⊥
    below low high = omega (arith, low, more)

-- what the caller sees: a rig that was run, or none

pub record RigSeen (file : List ℕ) (limit : ℕ) (before after : Contents) (status : Status) : Type 0 where
  pub rig : Setup
  pub read : HasRig file before after rig
  pub ending : RigEnd
  pub ends : RunSeen rig limit (behind file before) after ending
  pub link : EndLink rig ending
  pub answer : EndsIn rig ending status

abbrev pub WithoutRig : (file : List ℕ) (before after : Contents) → Status → Type 0
WithoutRig file before after status =
    (status ≡ Stopped ReadFault)
    ⊎ (((line : ℕ) × (cause : Why) × (status ≡ Stopped (Faulty (fault.Rig line cause)))
    × HasBadRig file before after line cause)
    ⊎ (status ≡ Stopped (Faulty fault.Memory)))

pub record RigUnseen (file : List ℕ) (before after : Contents) (status : Status) : Type 0 where
  pub unwritten : after.written 1 ≡ before.written 1
  pub given : (after.given ≡ before.given) ⊎ (after.given ≡ files_behind file before)
  pub why : WithoutRig file before after status

abbrev pub Seen : (file : List ℕ) (limit : ℕ) (before after : Contents) → Status → Type 0
Seen file limit before after status = RigUnseen file before after status ⊎ RigSeen file limit before after status

said-text : (file text : List ℕ) (before ran : Contents) → HasText file before ran →
    HasText file before (after_write 2 text ran)
said-text file text before ran t = record { given = t.given; all = t.all }

without-rig : (file text : List ℕ) (before ran : Contents) (status : Status) → NoRig file before ran status →
    WithoutRig file before (after_write 2 text ran) status
without-rig file text before ran (Stopped ReadFault) n = inl refl
without-rig file text before ran (Stopped (Faulty (fault.Rig line cause))) n = inr (inl (
  line,
  cause,
  refl,
  record { text = said-text file text before ran n.text; is = n.is },
))
without-rig file text before ran (Stopped (Faulty fault.Memory)) n = inr (inr refl)
without-rig file text before ran (Stopped (Faulty (fault.Tape f))) n = absurd n
without-rig file text before ran (Stopped (Faulty (fault.File f))) n = absurd n
without-rig file text before ran (Stopped (Faulty fault.LongTrack)) n = absurd n
without-rig file text before ran (Stopped (Faulty (fault.LongGap was later))) n = absurd n
without-rig file text before ran (Stopped (Faulty (fault.Rules f))) n = absurd n
without-rig file text before ran (Stopped Refused) n = absurd n
without-rig file text before ran (Stopped TooLong) n = absurd n
without-rig file text before ran (BadTape name bad) n = absurd n
without-rig file text before ran Done n = absurd n
without-rig file text before ran Noted n = absurd n
without-rig file text before ran Usage n = absurd n
without-rig file text before ran Cut n = absurd n

seen-ran : (file text : List ℕ) (limit : ℕ) (before ran : Contents) (status : Status) →
    RigRan file limit before ran status → RigSeen file limit before (after_write 2 text ran) status
seen-ran file text limit before ran status r =
    let o = r.opened in
    let content = o.content in
    let count = o.count in
    record {
      rig = r.rig;
      read = seen-rig file content text count before ran r.rig (subst (λ (c : Contents). HasRig file before c r.rig)
          o.contents r.read) (subst (λ (c : Contents). RunKeeps r.rig c ran) o.contents r.keeps)
          (grown r.rig limit (begun file content count before) ran r.ending
          (subst (λ (c : Contents). RunEnds r.rig limit c ran r.ending) o.contents r.ends));
      ending = r.ending;
      ends = seen-ends file content text count before ran r.rig limit r.ending
          (subst (λ (c : Contents). RunEnds r.rig limit c ran r.ending) o.contents r.ends);
      link = r.link;
      answer = r.answer;
    }

pub seen : (file text : List ℕ) (limit : ℕ) (before ran : Contents) (status : Status) →
    RigDid file limit before ran status → Seen file limit before (after_write 2 text ran) status
seen file text limit before ran status d = elim d [
  | inl none ↦ inl (record {
    unwritten = elim none.0 [
      | inl e ↦ ap (λ (c : Contents). c.written 1) e
      | inr o ↦ (opened-same file before ran o).written 1 (omega arith)
    ];
    given = elim none.0 [
      | inl e ↦ inl (ap (λ (c : Contents). c.given) e)
      | inr o ↦ inr (opened-given file before ran o)
    ];
    why = without-rig file text before ran status none.1;
  })
  | inr r ↦ inr (seen-ran file text limit before ran status r)
]

-- the files that were given

gave-of : (file : List ℕ) (before after : Contents) (s : Setup) → HasRig file before after s →
    Grown s (behind file before) after → RunGave file before after
gave-of file before after s r g =
    record {
      front = (file, false) ∷ g.front;
      given = g.given ∙ append_assoc before.given ((file, false) ∷ []) g.front;
      of_rig = inr (
        s,
        r,
        ((g.within).0, ap (λ (xs : List (List ℕ × Bool)). (file, false) ∷ xs) (g.within).1),
      );
    }

grown-seen : (s : Setup) (limit : ℕ) (start after : Contents) (e : RigEnd) → RunSeen s limit start after e →
    Grown s start after
grown-seen s limit start after end.Done w = grown s limit start after end.Done w
grown-seen s limit start after end.Cut w = grown s limit start after end.Cut w
grown-seen s limit start after end.ReadFault w = grown s limit start after end.ReadFault w
grown-seen s limit start after end.WriteFault w = grown s limit start after end.WriteFault w
grown-seen s limit start after (end.BadTape link f) w = grown s limit start after (end.BadTape link f) w
grown-seen s limit start after (end.TooLong link) w = grown s limit start after (end.TooLong link) w
grown-seen s limit start after (end.Memory memory) w =
    record { front = []; given = w.0 ∙ sym (append-nil _); within = (files_of s, refl) }

pub gave : (file : List ℕ) (limit : ℕ) (before after : Contents) (status : Status) →
    Seen file limit before after status → RunGave file before after
gave file limit before after status d = elim d [
  | inl none ↦ elim none.given [
    | inl e ↦ record {
      front = [];
      given = e ∙ sym (append-nil _);
      of_rig = inl ((file, false) ∷ [], refl);
    }
    | inr e ↦ record { front = (file, false) ∷ []; given = e; of_rig = inl ([], refl) }
  ]
  | inr r ↦ gave-of file before after r.rig r.read
      (grown-seen r.rig limit (behind file before) after r.ending r.ends)
]

-- what the caller sees of the desk's own handles

all-behind : (xs : List ℕ) → drop (length xs) xs ≡ []
all-behind xs = ap (drop (length xs)) (sym (append-nil xs)) ∙ drop_at xs [] (length xs) refl

front-behind : (xs ys : List ℕ) → IsFront xs ys → ys ≡ xs ++ drop (length xs) ys
front-behind xs ys g =
    g.1 ∙ ap (λ (zs : List ℕ). xs ++ zs) (sym (ap (drop (length xs)) g.1 ∙ drop_at xs g.0 (length xs) refl))

run-moved : (file text : List ℕ) (limit : ℕ) (before ran : Contents) (status : Status) →
    RigDid file limit before ran status → Moved before (after_write 2 text ran)
run-moved file text limit before ran status d =
    record {
      left = λ handle h.
          sym (own.left handle h) ∙ ap (λ (xs : List ℕ). xs ++ ran.left handle) (sym (none handle h));
      taken = λ handle h.
          own.taken handle h ∙ (sym (append-nil (before.taken handle))
          ∙ ap (λ (xs : List ℕ). before.taken handle ++ xs) (sym (none handle h)));
      written = λ handle h.
          front-behind (before.written handle) (now.written handle)
          (at handle h (handle == 2) (handle == 1) refl refl);
    }
  where
    own : OwnHandles before ran
    own = own-handles file limit before ran status d

    now : Contents
    now = after_write 2 text ran

    none : (handle : ℕ) → IsHandle before handle → taken_off handle before now ≡ []
    none handle h =
        ap (λ (xs : List ℕ). drop (length (before.taken handle)) xs) (own.taken handle h)
        ∙ all-behind (before.taken handle)

    not-one : (handle : ℕ) → handle ≡ 1 → (handle == 1) ≡ false → ⊥
    not-one handle one f = grind (arith, nat_tests)

    at : (handle : ℕ) → IsHandle before handle → (t u : Bool) → (handle == 2) ≡ t → (handle == 1) ≡ u →
        IsFront (before.written handle) (now.written handle)
    at handle h true u e f = (
      text,
      with_entry-at ran.written 2 (ran.written 2 ++ text) handle e
          ∙ ap (λ (xs : List ℕ). xs ++ text) (own.written 2 (omega arith) (λ e. omega (arith, e))
          ∙ sym (ap before.written (same-handle handle 2 e))),
    )
    at handle h false true e f =
        subst (λ (n : ℕ). IsFront (before.written n) (now.written n)) (sym (same-handle handle 1 f)) own.report
    at handle h false false e f = (
      [],
      with_entry-other ran.written 2 (ran.written 2 ++ text) handle e
          ∙ (own.written handle h (λ one. absurd (not-one handle one f)) ∙ sym (append-nil (before.written handle))),
    )

-- all of it

pub answered-run : (quiet : Type 0) (words : List (List ℕ)) (file : List ℕ) (limit : ℕ) (before ran after : Contents)
    (reads reads_mid faults faults_mid faults_now : ℕ) (status : Status) (answer : ℕ) (text : List ℕ) →
    answer ≡ code_of status → Means words (RunningRig file) → MayAnswerWords words status →
    RigDid file limit before ran status → Faulted quiet reads reads_mid faults faults_mid status →
    after ≡ after_write 2 text ran → Says (Rose faults_mid faults_now) text (text_of status) →
    (text ≡ text_of status → faults_now ≡ faults_mid) → Answered words limit before after faults faults_now answer
answered-run quiet words file limit before ran after reads reads_mid faults faults_mid faults_now status answer text number m
    may d fault wrote says told =
    subst (λ (c : Contents). Answered words limit before c faults faults_now answer) (sym wrote)
    (record {
      moved = run-moved file text limit before ran status d;
      given = inr (inr (
        file,
        m,
        gave file limit before (after_write 2 text ran) status (seen file text limit before ran status d),
      ));
      status = status;
      number = number;
      tally = [];
      said = text;
      nothing = λ e. absurd (may.usage e (RunningRig file) m);
      did = λ c n.
          subst (λ (x : Command). DidCommand x limit before (after_write 2 text ran) [] status)
          (one_command words (RunningRig file) c m n)
          (inr (inr (record { no_tally = refl; ran = ran; did = d; text = text; said = refl })));
      on_error =
          ap (λ (xs : List ℕ). drop (length (before.written 2)) (xs ++ text))
          ((own-handles file limit before ran status d).written 2 (omega arith) (λ e. omega (arith, e)))
          ∙ drop_at (before.written 2) text (length (before.written 2)) refl;
      text = says-earlier quiet faults faults_mid faults_now status text reads reads_mid fault says;
      untold = λ other all_said. told all_said ∙ fault.unwritten other;
    })

pub answered : (quiet : Type 0) (words : List (List ℕ)) (limit : ℕ) (before mid after : Contents)
    (reads reads_mid faults faults_mid faults_now : ℕ) (status : Status) (answer : ℕ) (text : List ℕ) →
    answer ≡ code_of status → MayAnswerWords words status → DidWords words limit before mid status →
    Faulted quiet reads reads_mid faults faults_mid status → after ≡ after_write 2 text mid →
    Says (Rose faults_mid faults_now) text (text_of status) → (text ≡ text_of status → faults_now ≡ faults_mid) →
    Answered words limit before after faults faults_now answer
answered quiet words limit before mid after reads reads_mid faults faults_mid faults_now status answer text number may d fault
    wrote says told =
    elim d [
      | inl r ↦ answered-stream quiet words limit before mid after reads reads_mid faults faults_mid faults_now status
          answer text number r fault wrote says told
      | inr r ↦ answered-run quiet words r.0 limit before mid after reads reads_mid faults faults_mid faults_now status
          answer text number r.1 may r.2 fault wrote says told
    ]

-- what an answer says of a run

by_run : (file : List ℕ) (limit : ℕ) (before after : Contents) (tally : List ℕ) (status : Status) →
    DidCommand (RunningRig file) limit before after tally status → RunDid file limit before after tally status
by_run file limit before after tally status d = elim d [
  | inl b ↦ absurd b.got_them
  | inr other ↦ elim other [ inl none ↦ absurd none.1 | inr run ↦ run ]
]

pub seen-answer : (words : List (List ℕ)) (limit : ℕ) (before after : Contents) (faults faults_now answer : ℕ)
    (file : List ℕ) → Means words (RunningRig file) →
    (a : Answered words limit before after faults faults_now answer) → Seen file limit before after a.status
seen-answer words limit before after faults faults_now answer file m a =
    let r = by_run file limit before after a.tally a.status (a.did (RunningRig file) m) in
    subst (λ (c : Contents). Seen file limit before c a.status) (sym r.said)
    (seen file r.text limit before r.ran a.status r.did)
