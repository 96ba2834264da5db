-- What each answer says of a rig's run.
use Rattle.std.proofs.Common.{◌≡◌, ◌⊎◌, ◌↔◌, ℕ, suc, zero, ◌+◌, ◌<◌, ◌==◌, ◌&&◌, Bool, true, false, List, [], ◌∷◌}
use Rattle.std.proofs.Common.{◌++◌, length, refl, sym, ◌∙◌, ap, subst, inl, inr, append_assoc, length-append, arith}
use Rattle.std.specs.Prelude.{Some, slice_get}
use Rattle.std.proofs.lemmas.List.{append-nil}
use Rattle.mb_message.specs.Front.{IsFront}
use Rattle.mb_outside.specs.Contents.{Contents}
use Rattle.mb_frames.specs.Tapes.{tape_whole}
use Rattle.mb_carrier.specs.Carrier.{whole}
use Rattle.mb_carrier.specs.declared.spec.Spec.{Spec}
use Rattle.mb_track.specs.Track.{recording, track_records, track_whole}
use Rattle.mb_rig.specs.RigText.{RigPort, Setup}
use Rattle.mb_rig.specs.RigRun.{AllGiven, EndLink, IsRunFront, IsRunPart, WentThrough, all_whole, files_of, link_handle}
use Rattle.mb_rig.specs.RigRun.{tapes_of, whole_from}
use Rattle.mb_rig.specs.declared.ending.RigEnd.{RigEnd}
use Rattle.mb_rig.specs.declared.ending.RigEnd.TheVariants as end
use Rattle.mb_rig.specs.declared.fault.Why.{Why}
use Rattle.mb_top.specs.Answer.{code_of, read_all}
use Rattle.mb_top.specs.Output.{in_tape}
use Rattle.mb_top.specs.RigFile.{AllGave, BadLink, EndsIn, HasBadRig, HasRig, LongLink, NotCreated, NotMerged, ReadRig}
use Rattle.mb_top.specs.RigFile.{behind, files_behind, gives_all, tape_at}
use Rattle.mb_top.specs.TextFile.{text_taken}
use Rattle.mb_top.specs.declared.fault.Fault.TheVariants as fault
use Rattle.mb_top.specs.declared.status.Status.{Status}
use Rattle.mb_top.proofs.MigrationLemmas.{whole-sound_tape}
use Rattle.mb_top.proofs.RigSeenLemmas.{RigSeen, RunSeen, Seen, WithoutRig}
use Rattle.mb_top.proofs.RigTextLemmas.{not-both, one-rig}

wrong : true ≡ false → ⊥
wrong e = cc

-- the number of an end's answer

abbrev end_code : RigEnd → ℕ
end_code end.Done = 0
end_code end.Cut = 5
end_code end.ReadFault = 3
end_code end.WriteFault = 4
end_code (end.BadTape link f) = 7
end_code (end.TooLong link) = 8
end_code (end.Memory memory) = 9

end-number : (s : Setup) (e : RigEnd) (status : Status) → EndsIn s e status → code_of status ≡ end_code e
end-number s end.Done status is = ap code_of is
end-number s end.Cut status is = ap code_of is
end-number s end.ReadFault status is = ap code_of is
end-number s end.WriteFault status is = ap code_of is
end-number s (end.BadTape link f) status is = ap code_of is.2
end-number s (end.TooLong link) status is = ap code_of is
end-number s (end.Memory memory) status is = ap code_of is

-- where there was no rig

abbrev pub NoRigNumber : (answer : ℕ) → Type 0
NoRigNumber n = (n ≡ 3) ⊎ ((n ≡ 6) ⊎ (n ≡ 9))

no_rig-number : (file : List ℕ) (before after : Contents) (status : Status) (answer : ℕ) → answer ≡ code_of status →
    WithoutRig file before after status → NoRigNumber answer
no_rig-number file before after status answer number w = elim w [
  | inl e ↦ inl (number ∙ ap code_of e)
  | inr other ↦ elim other [
    | inl bad ↦ inr (inl (number ∙ ap code_of bad.2))
    | inr e ↦ inr (inr (number ∙ ap code_of e))
  ]
]

-- an answer that comes only where a rig was run
ran-only : (file : List ℕ) (limit : ℕ) (before after : Contents) (status : Status) (answer : ℕ) →
    answer ≡ code_of status → (NoRigNumber answer → ⊥) → Seen file limit before after status →
    RigSeen file limit before after status
ran-only file limit before after status answer number other d = elim d [
  | inl none ↦ absurd (other (no_rig-number file before after status answer number none.why))
  | inr r ↦ r
]

at-end : (answer : ℕ) → read_all answer ≡ true → NoRigNumber answer → ⊥
at-end answer all n = elim n [
  | inl e ↦ wrong (sym all ∙ ap read_all e)
  | inr other ↦ elim other [
    | inl e ↦ wrong (sym all ∙ ap read_all e)
    | inr e ↦ wrong (sym all ∙ ap read_all e)
  ]
]

-- all tapes were read to their end

pub merged : (file : List ℕ) (limit : ℕ) (before after : Contents) (status : Status) (answer : ℕ) →
    answer ≡ code_of status → Seen file limit before after status → read_all answer ≡ true →
    ReadRig file before after (λ s start. WentThrough s limit start after (answer == 0))
merged file limit before after status answer number d all =
    let r = ran-only file limit before after status answer number (at-end answer all) d in
    (r.rig, r.read, by r.rig r.ending r.ends (number ∙ end-number r.rig r.ending status r.answer))
  where
    by : (s : Setup) (e : RigEnd) → RunSeen s limit (behind file before) after e → answer ≡ end_code e →
        WentThrough s limit (behind file before) after (answer == 0)
    by s end.Done w n =
        subst (λ (b : Bool). WentThrough s limit (behind file before) after b) (sym (ap (λ (m : ℕ). m == 0) n)) w
    by s end.Cut w n =
        subst (λ (b : Bool). WentThrough s limit (behind file before) after b) (sym (ap (λ (m : ℕ). m == 0) n)) w
    by s end.ReadFault w n = absurd (wrong (sym all ∙ ap read_all n))
    by s end.WriteFault w n = absurd (wrong (sym all ∙ ap read_all n))
    by s (end.BadTape link f) w n = absurd (wrong (sym all ∙ ap read_all n))
    by s (end.TooLong link) w n = absurd (wrong (sym all ∙ ap read_all n))
    by s (end.Memory memory) w n = absurd (wrong (sym all ∙ ap read_all n))

pub run-cut : (file : List ℕ) (limit : ℕ) (before after : Contents) (status : Status) (answer : ℕ) →
    answer ≡ code_of status → Seen file limit before after status → read_all answer ≡ true →
    ReadRig file before after (λ s start. (answer ≡ 5) ↔ (all_whole s (tapes_of start after) ≡ false))
run-cut file limit before after status answer number d all =
    let r = ran-only file limit before after status answer number (at-end answer all) d in
    (r.rig, r.read, by r.rig r.ending r.ends (number ∙ end-number r.rig r.ending status r.answer))
  where
    by : (s : Setup) (e : RigEnd) → RunSeen s limit (behind file before) after e → answer ≡ end_code e →
        (answer ≡ 5) ↔ (all_whole s (tapes_of (behind file before) after) ≡ false)
    by s end.Done w n = (λ five. absurd (omega (arith, five, n)), λ h. absurd (wrong (sym w.whole_is ∙ h)))
    by s end.Cut w n = (λ five. w.whole_is, λ h. n)
    by s end.ReadFault w n = absurd (wrong (sym all ∙ ap read_all n))
    by s end.WriteFault w n = absurd (wrong (sym all ∙ ap read_all n))
    by s (end.BadTape link f) w n = absurd (wrong (sym all ∙ ap read_all n))
    by s (end.TooLong link) w n = absurd (wrong (sym all ∙ ap read_all n))
    by s (end.Memory memory) w n = absurd (wrong (sym all ∙ ap read_all n))

-- the run was stopped

abbrev Front : Setup → (limit : ℕ) → (start after : Contents) → Type 0
Front s limit start after = AllGiven s limit start after × IsRunFront s start after

pub merged-front : (file : List ℕ) (limit : ℕ) (before after : Contents) (status : Status) (answer : ℕ) →
    answer ≡ code_of status → Seen file limit before after status → (answer ≡ 7) ⊎ (answer ≡ 8) →
    ReadRig file before after (λ s start. AllGiven s limit start after × IsRunFront s start after)
merged-front file limit before after status answer number d stopped =
    let r = ran-only file limit before after status answer number other d in
    (r.rig, r.read, by r.rig r.ending r.ends (number ∙ end-number r.rig r.ending status r.answer))
  where
    not : (n : ℕ) → answer ≡ n → (n ≡ 7 → ⊥) → (n ≡ 8 → ⊥) → ⊥
    not n e seven eight = elim stopped [ inl f ↦ seven (sym e ∙ f) | inr f ↦ eight (sym e ∙ f) ]

    other : NoRigNumber answer → ⊥
    other n = elim n [
      | inl e ↦ not 3 e (λ e. omega (arith, e)) (λ e. omega (arith, e))
      | inr o ↦ elim o [
        | inl e ↦ not 6 e (λ e. omega (arith, e)) (λ e. omega (arith, e))
        | inr e ↦ not 9 e (λ e. omega (arith, e)) (λ e. omega (arith, e))
      ]
    ]

    by : (s : Setup) (e : RigEnd) → RunSeen s limit (behind file before) after e → answer ≡ end_code e →
        Front s limit (behind file before) after
    by s (end.BadTape link f) w n = (w.0, w.1)
    by s (end.TooLong link) w n = (w.0, w.1)
    by s end.Done w n = absurd (not 0 n (λ e. omega (arith, e)) (λ e. omega (arith, e)))
    by s end.Cut w n = absurd (not 5 n (λ e. omega (arith, e)) (λ e. omega (arith, e)))
    by s end.ReadFault w n = absurd (not 3 n (λ e. omega (arith, e)) (λ e. omega (arith, e)))
    by s end.WriteFault w n = absurd (not 4 n (λ e. omega (arith, e)) (λ e. omega (arith, e)))
    by s (end.Memory memory) w n = absurd (not 9 n (λ e. omega (arith, e)) (λ e. omega (arith, e)))

pub merged-unread : (file : List ℕ) (limit : ℕ) (before after : Contents) (status : Status) (answer : ℕ) →
    answer ≡ code_of status → Seen file limit before after status → answer ≡ 3 →
    NotMerged file before after
    ⊎ ReadRig file before after (λ s start. AllGiven s limit start after × IsRunFront s start after)
merged-unread file limit before after status answer number d three = elim d [
  | inl none ↦ inl (none.unwritten, elim none.given [ inl e ↦ inl e | inr e ↦ inr (inl e) ])
  | inr r ↦ by r.rig r.read r.ending r.ends (number ∙ end-number r.rig r.ending status r.answer)
]
  where
    by : (s : Setup) → HasRig file before after s → (e : RigEnd) → RunSeen s limit (behind file before) after e →
        answer ≡ end_code e →
        NotMerged file before after
        ⊎ ReadRig file before after (λ s start. AllGiven s limit start after × IsRunFront s start after)
    by s read end.ReadFault w n = elim w [
      | inl r ↦ inl (r.unwritten, inr (inr (s, read, r)))
      | inr r ↦ inr (s, read, (r.0, r.1))
    ]
    by s read end.Done w n = absurd (omega (arith, three, n))
    by s read end.Cut w n = absurd (omega (arith, three, n))
    by s read end.WriteFault w n = absurd (omega (arith, three, n))
    by s read (end.BadTape link f) w n = absurd (omega (arith, three, n))
    by s read (end.TooLong link) w n = absurd (omega (arith, three, n))
    by s read (end.Memory memory) w n = absurd (omega (arith, three, n))

abbrev Part : Setup → (limit : ℕ) → (start after : Contents) → Type 0
Part s limit start after = NotCreated s start after ⊎ (AllGiven s limit start after × IsRunPart s start after)

none-of : (n answer : ℕ) → answer ≡ n → (n ≡ 3 → ⊥) → (n ≡ 6 → ⊥) → (n ≡ 9 → ⊥) → NoRigNumber answer → ⊥
none-of n answer e three six nine some = elim some [
  | inl f ↦ three (sym e ∙ f)
  | inr o ↦ elim o [ inl f ↦ six (sym e ∙ f) | inr f ↦ nine (sym e ∙ f) ]
]

pub merged-part : (file : List ℕ) (limit : ℕ) (before after : Contents) (status : Status) (answer : ℕ) →
    answer ≡ code_of status → Seen file limit before after status → answer ≡ 4 →
    ReadRig file before after
    (λ s start. NotCreated s start after ⊎ (AllGiven s limit start after × IsRunPart s start after))
merged-part file limit before after status answer number d four =
    let r = ran-only file limit before after status answer number
    (none-of 4 answer four (λ e. omega (arith, e)) (λ e. omega (arith, e)) (λ e. omega (arith, e))) d in
    (r.rig, r.read, by r.rig r.ending r.ends (number ∙ end-number r.rig r.ending status r.answer))
  where
    by : (s : Setup) (e : RigEnd) → RunSeen s limit (behind file before) after e → answer ≡ end_code e →
        Part s limit (behind file before) after
    by s end.WriteFault w n = w
    by s end.ReadFault w n = absurd (omega (arith, four, n))
    by s end.Done w n = absurd (omega (arith, four, n))
    by s end.Cut w n = absurd (omega (arith, four, n))
    by s (end.BadTape link f) w n = absurd (omega (arith, four, n))
    by s (end.TooLong link) w n = absurd (omega (arith, four, n))
    by s (end.Memory memory) w n = absurd (omega (arith, four, n))

-- what stopped it

pub bad-link : (file : List ℕ) (limit : ℕ) (before after : Contents) (status : Status) (answer : ℕ) →
    answer ≡ code_of status → Seen file limit before after status → answer ≡ 7 →
    ReadRig file before after (λ s start. BadLink s start after)
bad-link file limit before after status answer number d seven =
    let r = ran-only file limit before after status answer number
    (none-of 7 answer seven (λ e. omega (arith, e)) (λ e. omega (arith, e)) (λ e. omega (arith, e))) d in
    (r.rig, r.read, by r.rig r.ending r.link r.ends (number ∙ end-number r.rig r.ending status r.answer))
  where
    by : (s : Setup) (e : RigEnd) → EndLink s e → RunSeen s limit (behind file before) after e →
        answer ≡ end_code e → BadLink s (behind file before) after
    by s (end.BadTape link f) within w n = (link, f, within, w.2)
    by s end.WriteFault within w n = absurd (omega (arith, seven, n))
    by s end.ReadFault within w n = absurd (omega (arith, seven, n))
    by s end.Done within w n = absurd (omega (arith, seven, n))
    by s end.Cut within w n = absurd (omega (arith, seven, n))
    by s (end.TooLong link) within w n = absurd (omega (arith, seven, n))
    by s (end.Memory memory) within w n = absurd (omega (arith, seven, n))

pub long-link : (file : List ℕ) (limit : ℕ) (before after : Contents) (status : Status) (answer : ℕ) →
    answer ≡ code_of status → Seen file limit before after status → answer ≡ 8 →
    ReadRig file before after (λ s start. LongLink s limit start after)
long-link file limit before after status answer number d eight =
    let r = ran-only file limit before after status answer number
    (none-of 8 answer eight (λ e. omega (arith, e)) (λ e. omega (arith, e)) (λ e. omega (arith, e))) d in
    (r.rig, r.read, by r.rig r.ending r.link r.ends (number ∙ end-number r.rig r.ending status r.answer))
  where
    by : (s : Setup) (e : RigEnd) → EndLink s e → RunSeen s limit (behind file before) after e →
        answer ≡ end_code e → LongLink s limit (behind file before) after
    by s (end.TooLong link) within w n = (link, within, w.2, w.3)
    by s end.WriteFault within w n = absurd (omega (arith, eight, n))
    by s end.ReadFault within w n = absurd (omega (arith, eight, n))
    by s end.Done within w n = absurd (omega (arith, eight, n))
    by s end.Cut within w n = absurd (omega (arith, eight, n))
    by s (end.BadTape link f) within w n = absurd (omega (arith, eight, n))
    by s (end.Memory memory) within w n = absurd (omega (arith, eight, n))

-- which files were given

pub all-gave : (file : List ℕ) (limit : ℕ) (before after : Contents) (status : Status) (answer : ℕ) →
    answer ≡ code_of status → Seen file limit before after status → gives_all answer ≡ true → AllGave file before after
all-gave file limit before after status answer number d all =
    let r = ran-only file limit before after status answer number other d in
    (r.rig, r.read, by r.rig r.ending r.ends (number ∙ end-number r.rig r.ending status r.answer))
  where
    not : (n : ℕ) → answer ≡ n → gives_all n ≡ false → ⊥
    not n e none = wrong (sym all ∙ (ap gives_all e ∙ none))

    other : NoRigNumber answer → ⊥
    other n = elim n [
      | inl e ↦ not 3 e refl
      | inr o ↦ elim o [ inl e ↦ not 6 e refl | inr e ↦ not 9 e refl ]
    ]

    by : (s : Setup) (e : RigEnd) → RunSeen s limit (behind file before) after e → answer ≡ end_code e →
        after.given ≡ (behind file before).given ++ files_of s
    by s end.Done w n = w.given
    by s end.Cut w n = w.given
    by s (end.BadTape link f) w n = (w.0).given
    by s (end.TooLong link) w n = (w.0).given
    by s end.ReadFault w n = absurd (not 3 n refl)
    by s end.WriteFault w n = absurd (not 4 n refl)
    by s (end.Memory memory) w n = absurd (not 9 n refl)

pub rig-alone-given : (file : List ℕ) (limit : ℕ) (before after : Contents) (status : Status) (answer : ℕ) →
    answer ≡ code_of status → Seen file limit before after status → (answer ≡ 6) ⊎ (answer ≡ 9) →
    (after.given ≡ before.given) ⊎ (after.given ≡ files_behind file before)
rig-alone-given file limit before after status answer number d few = elim d [
  | inl none ↦ none.given
  | inr r ↦ inr (by r.rig r.ending r.ends (number ∙ end-number r.rig r.ending status r.answer))
]
  where
    not : (n : ℕ) → answer ≡ n → (n ≡ 6 → ⊥) → (n ≡ 9 → ⊥) → ⊥
    not n e six nine = elim few [ inl f ↦ six (sym e ∙ f) | inr f ↦ nine (sym e ∙ f) ]

    by : (s : Setup) (e : RigEnd) → RunSeen s limit (behind file before) after e → answer ≡ end_code e →
        after.given ≡ files_behind file before
    by s (end.Memory memory) w n = w.0
    by s end.Done w n = absurd (not 0 n (λ e. omega (arith, e)) (λ e. omega (arith, e)))
    by s end.Cut w n = absurd (not 5 n (λ e. omega (arith, e)) (λ e. omega (arith, e)))
    by s end.ReadFault w n = absurd (not 3 n (λ e. omega (arith, e)) (λ e. omega (arith, e)))
    by s end.WriteFault w n = absurd (not 4 n (λ e. omega (arith, e)) (λ e. omega (arith, e)))
    by s (end.BadTape link f) w n = absurd (not 7 n (λ e. omega (arith, e)) (λ e. omega (arith, e)))
    by s (end.TooLong link) w n = absurd (not 8 n (λ e. omega (arith, e)) (λ e. omega (arith, e)))

-- the text of a rig is refused

pub rig-judged : (file : List ℕ) (limit : ℕ) (before after : Contents) (status : Status) (answer : ℕ) →
    answer ≡ code_of status → Seen file limit before after status →
    (answer ≡ 6) ↔ ((answer ≡ 3 → ⊥) × (answer ≡ 9 → ⊥)
    × ((line : ℕ) × (cause : Why) × HasBadRig file before after line cause))
rig-judged file limit before after status answer number d = (
  λ six. elim d [
    | inl none ↦ elim none.why [
      | inl e ↦ (let three : answer ≡ 3 = number ∙ ap code_of e in absurd (omega (arith, six, three)))
      | inr other ↦ elim other [
        | inl bad ↦ (λ three. omega (arith, six, three), λ nine. omega (arith, six, nine), (bad.0, bad.1, bad.3))
        | inr e ↦ (let nine : answer ≡ 9 = number ∙ ap code_of e in absurd (omega (arith, six, nine)))
      ]
    ]
    | inr r ↦ absurd (not-six r.ending (number ∙ end-number r.rig r.ending status r.answer) six)
  ],
  λ found. elim d [
    | inl none ↦ elim none.why [
      | inl e ↦ absurd (found.0 (number ∙ ap code_of e))
      | inr other ↦ elim other [
        | inl bad ↦ number ∙ ap code_of bad.2
        | inr e ↦ absurd (found.1 (number ∙ ap code_of e))
      ]
    ]
    | inr r ↦ absurd (not-both (text_taken before after) r.rig (found.2).0 (found.2).1 (r.read).is ((found.2).2).is)
  ],
)
  where
    not-six : (e : RigEnd) → answer ≡ end_code e → answer ≡ 6 → ⊥
    not-six end.Done n six = omega (arith, n, six)
    not-six end.Cut n six = omega (arith, n, six)
    not-six end.ReadFault n six = omega (arith, n, six)
    not-six end.WriteFault n six = omega (arith, n, six)
    not-six (end.BadTape link f) n six = omega (arith, n, six)
    not-six (end.TooLong link) n six = omega (arith, n, six)
    not-six (end.Memory memory) n six = omega (arith, n, six)

-- whole tapes

whole-at : (at : ℕ) (ps : List RigPort) (tapes : ℕ → List ℕ) (k : ℕ) (p : RigPort) → whole_from at ps tapes ≡ true →
    slice_get ps k ≡ Some p → track_whole p.spec p.track (tapes (at + k)) ≡ true
whole-at at [] tapes k p e found = cc
whole-at at (q ∷ ps) tapes zero p e found =
    let here : at ≡ at + zero = omega arith in
    subst (λ (n : ℕ). track_whole p.spec p.track (tapes n) ≡ true) here
    (subst (λ (r : RigPort). track_whole r.spec r.track (tapes at) ≡ true) (same q p found)
    (first (track_whole q.spec q.track (tapes at)) (whole_from (at + 1) ps tapes) e))
  where
    same : (q p : RigPort) → Some q ≡ Some p → q ≡ p
    same q p e = cc

    first : (a b : Bool) → (a && b) ≡ true → a ≡ true
    first true b e = refl
    first false b e = absurd (wrong (sym e))
whole-at at (q ∷ ps) tapes (suc k) p e found =
    let next : (at + 1) + k ≡ at + suc k = omega arith in
    subst (λ (n : ℕ). track_whole p.spec p.track (tapes n) ≡ true) next
    (whole-at (at + 1) ps tapes k p
    (second (track_whole q.spec q.track (tapes at)) (whole_from (at + 1) ps tapes) e) found)
  where
    second : (a b : Bool) → (a && b) ≡ true → b ≡ true
    second true b e = e
    second false b e = absurd (wrong (sym e))

whole-same : (at : ℕ) (ps : List RigPort) (t u : ℕ → List ℕ) → ((k : ℕ) → k < length ps → t (at + k) ≡ u (at + k)) →
    whole_from at ps t ≡ whole_from at ps u
whole-same at [] t u same = refl
whole-same at (p ∷ ps) t u same =
    let here : t at ≡ u at = at-first (same 0 (omega arith)) in
    ap (λ (tape : List ℕ). track_whole p.spec p.track tape && whole_from (at + 1) ps t) here
    ∙ ap (λ (b : Bool). track_whole p.spec p.track (u at) && b)
    (whole-same (at + 1) ps t u (λ k within. at-next k (same (suc k) (omega (arith, within)))))
  where
    at-first : t (at + 0) ≡ u (at + 0) → t at ≡ u at
    at-first e = (let none : at + 0 ≡ at = omega arith in subst (λ (n : ℕ). t n ≡ u n) none e)

    at-next : (k : ℕ) → t (at + suc k) ≡ u (at + suc k) → t ((at + 1) + k) ≡ u ((at + 1) + k)
    at-next k e = (let more : at + suc k ≡ (at + 1) + k = omega arith in subst (λ (n : ℕ). t n ≡ u n) more e)

whole-tape : (s : Spec) (track : ℕ) (tape : List ℕ) → track_whole s track tape ≡ true → tape_whole tape ≡ true
whole-tape s track tape e = first (tape_whole tape) (whole s (recording track (track_records tape))) e
  where
    first : (a b : Bool) → (a && b) ≡ true → a ≡ true
    first true b e = refl
    first false b e = absurd (wrong (sym e))

-- it is 0, or there was no memory

pub runs : (file : List ℕ) (limit : ℕ) (before after : Contents) (status : Status) (answer : ℕ) →
    answer ≡ code_of status → Seen file limit before after status → (answer ≡ 3 → ⊥) → (answer ≡ 4 → ⊥) →
    (s : Setup) → HasRig file before after s →
    ((link : ℕ) → link < length s.ins → length (tape_at (behind file before) after link) < limit) →
    all_whole s (tape_at (behind file before) after) ≡ true → (answer ≡ 0) ⊎ (answer ≡ 9)
runs file limit before after status answer number d no_read no_write s read short all = elim d [
  | inl none ↦ elim none.why [
    | inl e ↦ absurd (no_read (number ∙ ap code_of e))
    | inr other ↦ elim other [
      | inl bad ↦ absurd (not-both (text_taken before after) s bad.0 bad.1 read.is (bad.3).is)
      | inr e ↦ inr (number ∙ ap code_of e)
    ]
  ]
  | inr r ↦ (let same = one-rig (text_taken before after) s r.rig read.is (r.read).is in
      by r.rig
      (subst (λ (x : Setup). (link : ℕ) → link < length x.ins → length (tape_at start after link) < limit) same short)
      (subst (λ (x : Setup). all_whole x (tape_at start after) ≡ true) same all)
      r.ending r.link r.ends r.answer (number ∙ end-number r.rig r.ending status r.answer))
]
  where
    start : Contents
    start = behind file before

    by : (s : Setup) → ((link : ℕ) → link < length s.ins → length (tape_at start after link) < limit) →
        all_whole s (tape_at start after) ≡ true → (e : RigEnd) → EndLink s e → RunSeen s limit start after e →
        EndsIn s e status → answer ≡ end_code e → (answer ≡ 0) ⊎ (answer ≡ 9)
    by s short all end.Done within w is n = inl n
    by s short all end.Cut within w is n =
        absurd (wrong (sym all
        ∙ (whole-same 0 s.ins (tape_at start after) (tapes_of start after)
        (λ k few. let none : 0 + k ≡ k = omega arith in
        subst (λ (n : ℕ). tape_at start after n ≡ tapes_of start after n) (sym none)
        (ap (λ (xs : List ℕ). tapes_of start after k ++ xs) ((w.through).all k few)
        ∙ append-nil (tapes_of start after k))) ∙ w.whole_is)))
    by s short all end.ReadFault within w is n = absurd (no_read n)
    by s short all end.WriteFault within w is n = absurd (no_write n)
    by s short all (end.BadTape link f) within w is n =
        let found = w.2 in
        let front : IsFront found.0 (tape_at start after link) = (
          (found.1).0 ++ after.left (link_handle start link),
          ap (λ (xs : List ℕ). xs ++ after.left (link_handle start link)) (found.1).1
              ∙ append_assoc found.0 (found.1).0 (after.left (link_handle start link)),
        ) in
        absurd (whole-sound_tape (tape_at start after link) found.0 (fault.Tape f)
        (whole-tape (is.1).spec (is.1).track (tape_at start after link)
        (let none : 0 + link ≡ link = omega arith in
        subst (λ (n : ℕ). track_whole (is.1).spec (is.1).track (tape_at start after n) ≡ true) none
        (whole-at 0 s.ins (tape_at start after) link is.1 all is.3))) front (ap in_tape found.2))
    by s short all (end.TooLong link) within w is n =
        absurd (omega (
          arith,
          short link within,
          w.2,
          length-append (tapes_of start after link) (after.left (link_handle start link)),
        ))
    by s short all (end.Memory memory) within w is n = inr n
