-- A piece of a tape on its way to the second form.
use Rattle.std.proofs.Common.{◌≡◌, ◌≢◌, ℕ, zero, suc, Bool, true, false, List, [], ◌∷◌, ◌++◌, length, flat_map, refl}
use Rattle.std.proofs.Common.{sym, ◌∙◌, ap, subst, append-nil, Some, None}
use Rattle.std.specs.Prelude.{◌==◌, if◌then◌else◌, Result, Ok, Err, OnOk, IfOk}
use Rattle.std.proofs.Common.{map}
use Rattle.mb_frames.specs.Tapes.{RecordByte, RecordPart, Whole, Inside, fault_in}
use Rattle.mb_frames.specs.TapeSteps.{TapeState, after, end_by, ending_at, ending_by, magic_taken, parts_from, rest_by}
use Rattle.mb_frames.specs.TapeReading.{TapeTakes}
use Rattle.mb_frames.specs.Migrated.{magic_between, migrated_from, part_bytes, step_bytes}
use Rattle.mb_frames.specs.declared.tape.TapeFault.{TapeFault}
use Rattle.mb_frames.specs.declared.tape.Place.{Place}
use Rattle.mb_frames.specs.declared.tape.Place.TheVariants as place
use Rattle.mb_frames.proofs.TapeStepLemmas.{takes-none, takes-then}
use Rattle.mb_frames.proofs.TapeLiteral.{broken_after, broken_parts}
use Rattle.mb_frames.proofs.MigratingLemmas.{step-then, takes-all}
use Rattle.mb_held.specs.Held.{Holds}
use Rattle.mb_held.proofs.HeldLemmas.{Fronted, holds-more, holds-then, fronted-then, fronted-within}

-- from one state to another a part of the piece was taken, and what the second form has of it was handed on or is held
pub record Going (start now : TapeState) (piece rest held : List ℕ) (took : List ℕ → Type 0) : Type 0 where
  pub told : List RecordPart
  pub takes : TapeTakes start now piece rest told
  pub holds : Holds took (step_bytes start now told) held

between-none : (b : Bool) → magic_between b b ++ [] ≡ []
between-none true = refl
between-none false = refl

pub going-start : (t : TapeState) (piece held : List ℕ) (took : List ℕ → Type 0) → held ≡ [] → took [] →
    Going t t piece piece held took
going-start t piece held took empty none = record {
  told = [];
  takes = takes-none t piece;
  holds = record { given = []; took_it = none; all = empty ∙ sym (between-none (magic_taken t.place)) };
}

-- what is read of the piece from there on comes behind

read-behind : (start now : TapeState) (piece rest : List ℕ) (told : List RecordPart) →
    TapeTakes start now piece rest told →
    migrated_from start piece ≡ step_bytes start now told ++ migrated_from now rest
read-behind start now piece rest told t =
    let state : after start piece ≡ after now rest = ap (after start) t.front ∙ t.state rest in
    let parts : parts_from start piece ≡ told ++ parts_from now rest = ap (parts_from start) t.front ∙ t.parts rest in
    ap (λ (z : TapeState). step_bytes start z (parts_from start piece)) state
    ∙ (ap (λ (ps : List RecordPart). step_bytes start (after now rest) ps) parts
    ∙ step-then start now (after now rest) piece rest rest [] told (parts_from now rest) t (takes-all now rest))

-- what the second form has of one more answer, by whether the magic was whole before and since

step-of : (old now : TapeState) (before since : Bool) (news : List RecordPart) →
    before ≡ magic_taken old.place → since ≡ magic_taken now.place →
    magic_between before since ++ flat_map part_bytes news ≡ step_bytes old now news
step-of old now before since news e f =
    ap (λ (b : Bool). magic_between b since ++ flat_map part_bytes news) e
    ∙ ap (λ (b : Bool). magic_between (magic_taken old.place) b ++ flat_map part_bytes news) f

-- it is held
pub going-step : (start old now : TapeState) (piece input rest held new : List ℕ) (took first both : List ℕ → Type 0)
    (news : List RecordPart) (before since : Bool) →
    ((x y : List ℕ) → took x → first y → both (x ++ y)) →
    Going start old piece input held took → TapeTakes old now input rest news →
    before ≡ magic_taken old.place → since ≡ magic_taken now.place →
    Holds first (held ++ (magic_between before since ++ flat_map part_bytes news)) new →
    Going start now piece rest new both
going-step start old now piece input rest held new took first both news before since joined g t e f h =
    record {
      told = g.told ++ news;
      takes = takes-then start old now piece input rest g.told news g.takes t;
      holds =
          subst (λ (xs : List ℕ). Holds both xs new)
          (sym (step-then start old now piece input input rest g.told news g.takes t))
          (holds-then took first both (step_bytes start old g.told) (step_bytes old now news) held new joined g.holds
          (subst (λ (xs : List ℕ). Holds first (held ++ xs) new) (step-of old now before since news e f) h));
    }

-- it was refused
pub going-refused : (start old now : TapeState) (piece input rest held : List ℕ) (took first both : List ℕ → Type 0)
    (news : List RecordPart) (before since : Bool) →
    ((x y : List ℕ) → took x → first y → both (x ++ y)) →
    Going start old piece input held took → TapeTakes old now input rest news →
    before ≡ magic_taken old.place → since ≡ magic_taken now.place →
    Fronted first (held ++ (magic_between before since ++ flat_map part_bytes news)) →
    Fronted both (migrated_from start piece)
going-refused start old now piece input rest held took first both news before since joined g t e f h =
    let all = takes-then start old now piece input rest g.told news g.takes t in
    fronted-within both (step_bytes start now (g.told ++ news)) (migrated_from start piece)
    (subst (Fronted both) (sym (step-then start old now piece input input rest g.told news g.takes t))
    (fronted-then took first both (step_bytes start old g.told) (step_bytes old now news) held joined g.holds
    (subst (λ (xs : List ℕ). Fronted first (held ++ xs)) (step-of old now before since news e f) h)))
    (migrated_from now rest, read-behind start now piece rest (g.told ++ news) all)

-- an answer that tells nothing, with the magic behind what is held
pub going-none : (start old now : TapeState) (piece input rest held : List ℕ) (took : List ℕ → Type 0)
    (before since : Bool) →
    Going start old piece input held took → TapeTakes old now input rest [] →
    before ≡ magic_taken old.place → since ≡ magic_taken now.place →
    Going start now piece rest (held ++ magic_between before since) took
going-none start old now piece input rest held took before since g t e f =
    record {
      told = g.told ++ [];
      takes = takes-then start old now piece input rest g.told [] g.takes t;
      holds =
          subst (λ (xs : List ℕ). Holds took xs (held ++ magic_between before since))
          (ap (λ xs. step_bytes start old g.told ++ xs)
          (sym (append-nil (magic_between before since)) ∙ step-of old now before since [] e f)
          ∙ sym (step-then start old now piece input input rest g.told [] g.takes t))
          (holds-more took (step_bytes start old g.told) (magic_between before since) held _ g.holds refl);
    }

-- where no more is told of the piece

pub record Over (start now : TapeState) (piece rest : List ℕ) : Type 0 where
  pub parts : parts_from now rest ≡ []
  pub state : after now rest ≡ now

pub over-state : (start now : TapeState) (piece rest held : List ℕ) (took : List ℕ → Type 0) →
    Going start now piece rest held took → Over start now piece rest → now ≡ after start piece
over-state start now piece rest held took g o =
    sym (ap (after start) (g.takes).front ∙ ((g.takes).state rest ∙ o.state))

over-all : (start now : TapeState) (piece rest held : List ℕ) (took : List ℕ → Type 0) →
    (g : Going start now piece rest held took) → Over start now piece rest →
    step_bytes start now g.told ≡ migrated_from start piece
over-all start now piece rest held took g o =
    let none : migrated_from now rest ≡ []
    = ap (λ (z : TapeState). step_bytes now z (parts_from now rest)) o.state
    ∙ (ap (λ (ps : List RecordPart). step_bytes now now ps) o.parts ∙ between-none (magic_taken now.place)) in
    sym (read-behind start now piece rest g.told g.takes
    ∙ (ap (λ xs. step_bytes start now g.told ++ xs) none ∙ append-nil (step_bytes start now g.told)))

pub over-given : (start now : TapeState) (piece rest held : List ℕ) (took last both : List ℕ → Type 0) →
    ((x y : List ℕ) → took x → last y → both (x ++ y)) →
    Going start now piece rest held took → Over start now piece rest → last held → both (migrated_from start piece)
over-given start now piece rest held took last both joined g o h =
    let holds = g.holds in
    subst both (holds.all ∙ over-all start now piece rest held took g o)
    (joined holds.given held holds.took_it h)

pub over-refused : (start now : TapeState) (piece rest held : List ℕ) (took last both : List ℕ → Type 0) →
    ((x y : List ℕ) → took x → last y → both (x ++ y)) →
    Going start now piece rest held took → Over start now piece rest → Fronted last held →
    Fronted both (migrated_from start piece)
over-refused start now piece rest held took last both joined g o h =
    let none = append-nil held in
    subst (Fronted both) (append-nil (step_bytes start now g.told) ∙ over-all start now piece rest held took g o)
    (fronted-then took last both (step_bytes start now g.told) [] held joined g.holds
    (subst (Fronted last) (sym none) h))

-- at the end of the piece

no-more : (p : Place) → end_by p ≡ [] → rest_by p ≡ p
no-more place.Magic e = refl
no-more place.Header e = refl
no-more (place.Within zero) e = cc
no-more (place.Within (suc left)) e = refl
no-more (place.Broken f) e = refl

pub over-end : (start now : TapeState) (piece rest : List ℕ) → rest ≡ [] → parts_from now [] ≡ [] →
    Over start now piece rest
over-end start now piece rest empty none = record {
  parts = ap (parts_from now) empty ∙ none;
  state = ap (after now) empty ∙ ap (λ (p : Place). record now { place = p }) (no-more now.place none);
}

-- at a fault

pub over-fault : (start now : TapeState) (piece rest : List ℕ) (f : TapeFault) → now.place ≡ place.Broken f →
    Over start now piece rest
over-fault start now piece rest f broken = record {
  parts = subst (λ (p : Place). parts_from (record now { place = p }) rest ≡ []) (sym broken) (broken_parts f now rest);
  state = subst (λ (p : Place). after (record now { place = p }) rest ≡ record now { place = p }) (sym broken)
      (broken_after f now rest);
}

-- the fault that is answered

pub fault-is : (start now : TapeState) (piece : List ℕ) (f : TapeFault) → now ≡ after start piece →
    now.place ≡ place.Broken f → Some f ≡ fault_in (ending_at (after start piece))
fault-is start now piece f same broken =
    sym (ap (λ (p : Place). fault_in (ending_at (record now { place = p }))) broken)
    ∙ ap (λ (z : TapeState). fault_in (ending_at z)) same

pub no-fault : (start now : TapeState) (piece : List ℕ) → now ≡ after start piece →
    ((f : TapeFault) → now.place ≢ place.Broken f) → None ≡ fault_in (ending_at (after start piece))
no-fault start now piece same sound = by_place now.place sound ∙ ap (λ (z : TapeState). fault_in (ending_at z)) same
  where
    by_end : (b : Bool) → None ≡ fault_in (if b then Whole else Inside)
    by_end true = refl
    by_end false = refl

    by_place : (p : Place) → ((f : TapeFault) → p ≢ place.Broken f) → None ≡ fault_in (ending_by p (length now.head))
    by_place place.Magic sound = refl
    by_place place.Header sound = by_end (length now.head == 0)
    by_place (place.Within left) sound = by_end (left == 0)
    by_place (place.Broken f) sound = absurd (sound f refl)

-- the same of answers

pub on-ok : {T E : Type 0} (r : Result T E) (P : Type 0) → P → OnOk r P
on-ok (Ok x) P p = p
on-ok (Err x) P p = tt

pub if-ok : {T E : Type 0} (r : Result T E) (x y : T) → IfOk r (λ t. t ≡ x) → x ≡ y → IfOk r (λ t. t ≡ y)
if-ok (Ok t) x y is same = is ∙ same
if-ok (Err e) x y is same = tt

-- the bytes of a record
pub bytes-same : (bytes : List ℕ) → flat_map part_bytes (map RecordByte bytes) ≡ bytes
bytes-same [] = refl
bytes-same (b ∷ bs) = ap (λ xs. b ∷ xs) (bytes-same bs)
