-- What is heard over several steps of a track's reader.
use Rattle.std.proofs.Common.{◌≡◌, ◌≤◌, ℕ, List, [], ◌++◌, length, sym, ◌∙◌, ap, subst, arith}
use Rattle.std.proofs.Common.{append_assoc, length-append, Result, Ok, Some, None, IfOk, OnSome}
use Rattle.std.proofs.lemmas.List.{append-nil}
use Rattle.mb_message.specs.Signs.{Sign}
use Rattle.mb_stream.specs.Puts.{Put}
use Rattle.mb_frames.specs.Tapes.{tape_fault}
use Rattle.mb_frames.specs.declared.tape.TapeFault.{TapeFault}
use Rattle.std.proofs.Common.{Option}
use Rattle.mb_carrier.specs.declared.spec.Spec.{Spec}
use Rattle.mb_track.specs.Track.{track_marks_so_far}
use Rattle.mb_track.specs.TrackReading.{IfStep, MomentStays, TrackGoes, TrackStands, TrackTold, track_moment}
use Rattle.mb_track.specs.TrackReading.{track_of, track_spec}
use Rattle.mb_track.specs.declared.track.TrackReader.{TrackReader}
use Rattle.mb_track.specs.declared.track.TrackStep.{TrackStep}
use Rattle.mb_rig.specs.Heard.{MomentKept}
use Rattle.mb_rig.specs.declared.heard.Heard.{Heard}
use Rattle.mb_rig.specs.declared.heard.Heard.TheVariants as heard

-- what is left is no more than there was
pub goes-fewer : (a b : TrackReader) (i j : List ℕ) (signs : List Sign) → TrackGoes a b i j signs →
    ((taken : List ℕ) × (told : List Put) × TrackStands a taken i told) → length j ≤ length i
goes-fewer a b i j signs goes st =
    let f = (goes st.0 st.1 st.2).front in
    let bytes = (goes st.0 st.1 st.2).bytes in
    omega (arith, ap length f, length-append bytes j)

-- all is told behind steps that told no mark
pub over-then : (a b c : TrackReader) (i j : List ℕ) (fault : Option TapeFault) → TrackGoes a b i j [] →
    track_spec b ≡ track_spec a → track_of b ≡ track_of a →
    ((taken : List ℕ) (told : List Put) → TrackStands b taken j told →
    TrackTold c (taken ++ j) × (told ≡ track_marks_so_far (track_spec b) (track_of b) (taken ++ j))
    × (tape_fault (taken ++ j) ≡ fault)) →
    (taken : List ℕ) (told : List Put) → TrackStands a taken i told →
    TrackTold c (taken ++ i) × (told ≡ track_marks_so_far (track_spec a) (track_of a) (taken ++ i))
    × (tape_fault (taken ++ i) ≡ fault)
over-then a b c i j fault goes spec track over = λ taken told st.
    let f = goes taken told st in
    let all : (taken ++ f.bytes) ++ j ≡ taken ++ i =
    append_assoc taken f.bytes j ∙ ap (λ xs. taken ++ xs) (sym f.front) in
    let o = over (taken ++ f.bytes) told
    (subst (λ (ps : List Put). TrackStands b (taken ++ f.bytes) j ps) (append-nil told) f.stands) in (
      subst (TrackTold c) all o.0,
      o.1
          ∙ (ap (λ (s : Spec). track_marks_so_far s (track_of b) ((taken ++ f.bytes) ++ j)) spec
          ∙ (ap (λ (n : ℕ). track_marks_so_far (track_spec a) n ((taken ++ f.bytes) ++ j)) track
          ∙ ap (track_marks_so_far (track_spec a) (track_of a)) all)),
      sym (ap tape_fault all) ∙ o.2,
    )

-- a step that tells something, told from its answer
pub of-step : (r : Result (Option TrackStep) TapeFault) (s : TrackStep) (P : Type 0) → r ≡ Ok (Some s) → IfStep r P → P
of-step r s P e p = subst (λ (z : Result (Option TrackStep) TapeFault). IfStep z P) e p

-- the moment stays unless a record begins
pub moment-step : (first was now : ℕ) (r : Result (Option TrackStep) TapeFault) (s : TrackStep) (h k : Option Heard) →
    r ≡ Ok (Some s) → h ≡ k → was ≡ first →
    ((was now : ℕ) → MomentStays was now (Ok (Some s)) → MomentKept was now h) → MomentStays was now r →
    MomentKept first now k
moment-step first was now r s h k e same from kept stays =
    subst (λ (z : ℕ). MomentKept z now k) from
    (subst (MomentKept was now) same
    (kept was now (subst (λ (z : Result (Option TrackStep) TapeFault). MomentStays was now z) e stays)))

pub moment-none : (first was now : ℕ) (r : Result (Option TrackStep) TapeFault) → r ≡ Ok None → was ≡ first →
    MomentStays was now r → now ≡ first
moment-none first was now r e from stays =
    subst (λ (z : Result (Option TrackStep) TapeFault). MomentStays was now z) e stays ∙ from

pub moment-by : {E : Type 0} (first was now : ℕ) (r : Result (Option Heard) E) (h : Option Heard) → r ≡ Ok h →
    was ≡ first → IfOk r (λ z. MomentKept was now z) → MomentKept first now h
moment-by {E} first was now r h e from kept =
    subst (λ (z : ℕ). MomentKept z now h) from
    (subst (λ (z : Result (Option Heard) E). IfOk z (λ x. MomentKept was now x)) e kept)

pub moment-still : (was now : ℕ) (h : Option Heard) → now ≡ was → MomentKept was now h
moment-still was now None e = e
moment-still was now (Some (heard.Record m)) e = tt
moment-still was now (Some (heard.Mark m)) e = e

-- a step behind steps that told nothing
pub rises-then : (a b c : TrackReader) (i j : List ℕ) → TrackGoes a b i j [] → track_moment b ≡ track_moment a →
    ((taken : List ℕ) (told : List Put) → TrackStands b taken j told → track_moment b ≤ track_moment c) →
    (taken : List ℕ) (told : List Put) → TrackStands a taken i told → track_moment a ≤ track_moment c
rises-then a b c i j goes same rises taken told st =
    let f = goes taken told st in omega (arith, same, rises (taken ++ f.bytes) _ f.stands)

pub on-some : {A : Type 0} (o : Option A) (P : Type 0) → P → OnSome o P
on-some None P p = tt
on-some (Some x) P p = p

pub some-falls : {E : Type 0} (r : Result (Option Heard) E) (h : Heard) (P : Type 0) → r ≡ Ok (Some h) →
    IfOk r (λ z. OnSome z P) → P
some-falls {E} r h P e p = subst (λ (z : Result (Option Heard) E). IfOk z (λ x. OnSome x P)) e p
