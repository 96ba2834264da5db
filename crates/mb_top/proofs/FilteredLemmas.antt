-- What each answer says of a tape that is filtered.
use Rattle.std.proofs.Common.{◌≡◌, ◌⊎◌, ◌↔◌, ℕ, ◌<◌, true, List, [], length, refl, sym, ◌∙◌, ap, subst}
use Rattle.std.proofs.Common.{inl, inr, arith}
use Rattle.std.specs.Prelude.{Ok, Err}
use Rattle.mb_outside.specs.Contents.{Contents}
use Rattle.mb_frames.specs.Frames.{AreBytes}
use Rattle.mb_filter.specs.Mapped.{mapped}
use Rattle.mb_filter.specs.Read.{rules_of}
use Rattle.mb_filter.specs.declared.rule.Rule.{Rule}
use Rattle.mb_filter.specs.declared.rules.RulesFault.{RulesFault}
use Rattle.mb_stream.specs.Puts.{Put}
use Rattle.mb_track.specs.Track.{track_whole}
use Rattle.mb_track.proofs.MomentLemmas.{moments-fit}
use Rattle.mb_rewrite.specs.Filtered.{filtered_marks}
use Rattle.mb_rewrite.specs.LineTape.{line_tape}
use Rattle.mb_rewrite.specs.Recorded.{track_den}
use Rattle.mb_rewrite.proofs.EndLemmas.{tape-is}
use Rattle.mb_rewrite.proofs.FilteredLemmas.{filtered-read}
use Rattle.mb_carrier.specs.declared.spec.Spec.{Spec}
use Rattle.mb_carrier.specs.declared.spec.Spec.TheVariants.{Din}
use Rattle.mb_words.specs.Command.{FilteringTape, Means}
use Rattle.mb_top.specs.RulesFile.{HasBadRules, HasRules, NoRules}
use Rattle.mb_top.specs.TextFile.{text_taken}
use Rattle.mb_top.specs.Answer.{Answered, ByRules, Did, DidCommand, DidNothing, EndsAs, added_to, code_of, read_all}
use Rattle.mb_top.specs.Answer.{taken_off}
use Rattle.mb_top.specs.Ran.{MayAnswerWords, RanWords}
use Rattle.mb_top.specs.declared.fault.Fault.TheVariants as fault
use Rattle.mb_top.specs.declared.status.Status.{Status}
use Rattle.mb_top.specs.declared.status.Status.TheVariants.{Done, Noted, Usage, Cut, Stopped, BadTape}
use Rattle.mb_top.specs.declared.status.Stop.TheVariants.{ReadFault, Refused, TooLong, Faulty}
use Rattle.mb_top.proofs.AnswerLemmas.{bad_rules, reads_all, same_status}
use Rattle.mb_top.proofs.CarriedLemmas.{Carried, completes-task, filter-writes-all, shows-none, whole-tape}
use Rattle.mb_top.proofs.MigrationLemmas.{whole-sound_tape}

-- why there are no rules
abbrev pub WithoutRules : (file : List ℕ) (before after : Contents) → Status → Type 0
WithoutRules file before after status =
    (status ≡ Stopped ReadFault)
    ⊎ ((f : RulesFault) × (status ≡ Stopped (Faulty (fault.Rules f))) × HasBadRules file before after f)

without-rules : (file : List ℕ) (before after : Contents) (status : Status) → NoRules file before after status →
    WithoutRules file before after status
without-rules file before after (Stopped ReadFault) n = inl refl
without-rules file before after (Stopped (Faulty (fault.Rules f))) n = inr (f, refl, n)
without-rules file before after (Stopped (Faulty (fault.Tape f))) n = absurd n
without-rules file before after (Stopped (Faulty (fault.File f))) n = absurd n
without-rules file before after (Stopped (Faulty fault.LongTrack)) n = absurd n
without-rules file before after (Stopped (Faulty (fault.LongGap was now))) n = absurd n
without-rules file before after (Stopped (Faulty fault.Memory)) n = absurd n
without-rules file before after (Stopped (Faulty (fault.Rig line cause))) n = absurd n
without-rules file before after (BadTape name bad) n = absurd n
without-rules file before after (Stopped Refused) n = absurd n
without-rules file before after (Stopped TooLong) n = absurd n
without-rules file before after Done n = absurd n
without-rules file before after Noted n = absurd n
without-rules file before after Usage n = absurd n
without-rules file before after Cut n = absurd n

-- then nothing was read of the tape, and nothing written but a text
nothing-read : (before after : Contents) (tally : List ℕ) → DidNothing before after tally → taken_off 0 before after ≡ []
nothing-read before after tally d = d.keeps.unread 0 (omega arith) refl

nothing-written : (before after : Contents) (tally : List ℕ) → DidNothing before after tally →
    added_to 1 before after ≡ []
nothing-written before after tally d = d.keeps.unwritten 1 (omega arith) refl

-- a filter had its rules, or did nothing
by_filter : (file : List ℕ) (s : Spec) (limit : ℕ) (before after : Contents) (tally : List ℕ) (status : Status) →
    DidCommand (FilteringTape file s) limit before after tally status →
    ByRules (FilteringTape file s) (HasRules file before after) (λ t. Did t limit before after tally status)
    ⊎ (DidNothing before after tally × NoRules file before after status)
by_filter file s limit before after tally status d = elim d [
  | inl b ↦ inl b
  | inr other ↦ elim other [ inl n ↦ inr n | inr run ↦ absurd run ]
]

-- a filter that the answer tells of had its rules
pub filter-did : (words : List (List ℕ)) (limit : ℕ) (before after : Contents) (faults faults_now answer : ℕ)
    (file : List ℕ) (s : Spec) → Means words (FilteringTape file s) → (answer ≡ 14 → ⊥) →
    (answer ≡ 3 → added_to 1 before after ≡ [] → ⊥) →
    (a : Answered words limit before after faults faults_now answer) →
    ByRules (FilteringTape file s) (HasRules file before after) (λ t. Did t limit before after a.tally a.status)
filter-did words limit before after faults faults_now answer file s m judged silent a =
    elim (by_filter file s limit before after a.tally a.status (a.did (FilteringTape file s) m)) [
      | inl b ↦ b
      | inr n ↦ elim (without-rules file before after a.status n.1) [
        | inl e ↦ absurd (silent (a.number ∙ ap code_of e) (nothing-written before after a.tally n.0))
        | inr e ↦ absurd (judged (a.number ∙ ap code_of e.1))
      ]
    ]

no-rules_fault : (rules : List Rule) (s : Spec) (limit : ℕ) (left input output tally : List ℕ) (status : Status)
    (f : RulesFault) → status ≡ Stopped (Faulty (fault.Rules f)) →
    EndsAs (FilteringTape rules s) limit left input output tally status → ⊥
no-rules_fault rules s limit left input output tally status f e ends =
    (subst (EndsAs (FilteringTape rules s) limit left input output tally) e ends).2

both-found : (text : List ℕ) (rules : List Rule) (f : RulesFault) → rules_of text ≡ Ok rules → rules_of text ≡ Err f → ⊥
both-found text rules f good bad = (let both = sym good ∙ bad in cc)

pub rules-judged : (words : List (List ℕ)) (limit : ℕ) (before after : Contents) (faults faults_now answer : ℕ)
    (file : List ℕ) (s : Spec) → Means words (FilteringTape file s) →
    Answered words limit before after faults faults_now answer →
    (answer ≡ 14) ↔ ((answer ≡ 3 → ⊥) × ((f : RulesFault) × HasBadRules file before after f))
rules-judged words limit before after faults faults_now answer file s m a = (
  λ fourteen. elim (by_filter file s limit before after a.tally a.status (a.did (FilteringTape file s) m)) [
    | inl b ↦ (let bad = bad_rules a.status (sym a.number ∙ fourteen) in
        absurd (no-rules_fault b.rules s limit _ _ _ _ a.status bad.0 bad.1 b.holds.ends))
    | inr n ↦ elim (without-rules file before after a.status n.1) [
      | inl e ↦ (let three : answer ≡ 3 = a.number ∙ ap code_of e in absurd (omega (arith, fourteen, three)))
      | inr e ↦ (λ three. omega (arith, fourteen, three), (e.0, e.2))
    ]
  ],
  λ found. elim (by_filter file s limit before after a.tally a.status (a.did (FilteringTape file s) m)) [
    | inl b ↦ absurd (both-found (text_taken before after) b.rules (found.1).0 b.got_them.are ((found.1).1).are)
    | inr n ↦ elim (without-rules file before after a.status n.1) [
      | inl e ↦ absurd (found.0 (a.number ∙ ap code_of e))
      | inr e ↦ a.number ∙ ap code_of e.1
    ]
  ],
)

-- a tape that is written has its magic at least
some-tape : (puts : List Put) → line_tape puts ≡ [] → ⊥
some-tape puts e = omega (arith, ap length (sym (tape-is puts) ∙ e))

pub none-filtered : (words : List (List ℕ)) (limit : ℕ) (before after : Contents) (faults faults_now answer : ℕ)
    (file : List ℕ) (s : Spec) → Means words (FilteringTape file s) →
    Answered words limit before after faults faults_now answer →
    (answer ≡ 14) ⊎ ((answer ≡ 3) × (added_to 1 before after ≡ [])) →
    (taken_off 0 before after ≡ []) × (added_to 1 before after ≡ [])
none-filtered words limit before after faults faults_now answer file s m a why = elim (by_filter file s limit before after a.tally a.status (a.did (FilteringTape file s) m)) [
  | inr n ↦ (nothing-read before after a.tally n.0, nothing-written before after a.tally n.0)
  | inl b ↦ elim why [
    | inl fourteen ↦ (let bad = bad_rules a.status (sym a.number ∙ fourteen) in
        absurd (no-rules_fault b.rules s limit _ _ _ _ a.status bad.0 bad.1 b.holds.ends))
    | inr silent ↦ absurd (wrote b.rules b.holds.ends (same_status a.status (Stopped ReadFault) refl
        (sym a.number ∙ silent.0)) silent.1)
  ]
]
  where
    wrote : (rules : List Rule) →
        EndsAs (FilteringTape rules s) limit (before.left 0) (taken_off 0 before after) (added_to 1 before after) a.tally
        a.status → a.status ≡ Stopped ReadFault → added_to 1 before after ≡ [] → ⊥
    wrote rules ends e none =
        let written = (subst (EndsAs (FilteringTape rules s) limit (before.left 0) (taken_off 0 before after)
        (added_to 1 before after) a.tally) e ends).0 in
        some-tape (filtered_marks rules s (taken_off 0 before after)) (sym written ∙ none)

-- it means what the rules make of the track
pub filtered-meaning : (rules : List Rule) (s : Spec) (left read written : List ℕ) (answer : ℕ) →
    Carried (FilteringTape rules s) left read written answer → AreBytes read →
    track_den Din 0 written ≡ mapped rules (track_den s 0 read)
filtered-meaning rules s left read written answer r bytes =
    ap (track_den Din 0) r.written_is ∙ filtered-read rules s read (moments-fit read bytes)

-- of a whole tape that no call failed on, it is 0, or the rules are refused
pub filters-completes : (words : List (List ℕ)) (limit : ℕ) (before mid after : Contents)
    (faults faults_now answer : ℕ) (reads writes : Type 0) (status : Status) (file : List ℕ) (s : Spec) →
    Means words (FilteringTape file s) → MayAnswerWords words status →
    (status ≡ Stopped ReadFault → reads) → (status ≡ Stopped Refused → writes) → (reads → ⊥) → (writes → ⊥) →
    length (before.left 0) < limit → track_whole s 0 (before.left 0) ≡ true →
    RanWords words limit before mid status → answer ≡ code_of status →
    Answered words limit before after faults faults_now answer → (answer ≡ 0) ⊎ (answer ≡ 14)
filters-completes words limit before mid after faults faults_now answer reads writes status file s m may r f nr nw short
    whole ran number a =
    elim (ran.ends (FilteringTape file s) m) [
      | inr n ↦ elim (without-rules file before ran.start status n.1) [
        | inl e ↦ absurd (nr (r e))
        | inr e ↦ inr (number ∙ ap code_of e.1)
      ]
      | inl b ↦ elim (by_filter file s limit before after a.tally a.status (a.did (FilteringTape file s) m)) [
        | inr n ↦ elim (without-rules file before after a.status n.1) [
          | inl e ↦ absurd (nr (r (same_status status (Stopped ReadFault) refl
              (sym number ∙ (a.number ∙ ap code_of e)))))
          | inr e ↦ inr (a.number ∙ ap code_of e.1)
        ]
        | inl d ↦ inl (completes-task words limit before after faults faults_now answer (FilteringTape d.rules s)
            (filter-writes-all d.rules s) (ap read_all number ∙ to_end b.rules b.holds) whole a d.holds)
      ]
    ]
  where
    to_end : (rules : List Rule) →
        EndsAs (FilteringTape rules s) limit (before.left 0) ran.input ran.output ran.tally status →
        read_all (code_of status) ≡ true
    to_end rules ends =
        reads_all words limit before mid reads writes status (FilteringTape file s) (FilteringTape rules s) m may r f nr nw
        short
        (λ input g front. shows-none (FilteringTape rules s) input (filter-writes-all rules s)
        (λ told. whole-sound_tape (before.left 0) input told (whole-tape s (before.left 0) whole) front) g)
        ran ends
