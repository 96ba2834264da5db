-- A call tells no more marks than its input has bytes.
use Rattle.std.proofs.Common.{◌≡◌, ℕ, ◌≤◌, ◌==◌, ◌||◌, refl, Bool, true, false, cond, Option, Some, None, List, [], ◌∷◌}
use Rattle.std.proofs.Common.{map, length, ap, subst, sym, arith, length-append}
use Rattle.mb_message.specs.Bytes.{data_length}
use Rattle.mb_message.specs.Signs.{ShortSign, OpenSign, ByteSign, AbortSign}
use Rattle.mb_message.specs.declared.note.NoteKind.TheVariants.{Undefined}
use Rattle.mb_stream.specs.Told.{Told, Marks, Notes}
use Rattle.mb_stream.specs.Reading.{told_signs}
use Rattle.mb_din.specs.declared.progress.Progress.{Progress}
use Rattle.mb_din.specs.declared.progress.Progress.TheVariants.{Idle, Running, Begun, InSysex}
use Rattle.mb_din.specs.State.{State}
use Rattle.mb_din.specs.Turn.{Step, data_front, data_rest, first_step, begun_step, is_one, completed, data_turn}
use Rattle.mb_din.specs.Turn.{status_turn, told_before, one, turn, realtime_told, status_step, end_told}
use Rattle.mb_din.proofs.TurnLemmas.{one-cases, turn-cases, data_front-rest}

abbrev pub Few : List Told → List ℕ → Type 0
Few ts input = length (told_signs ts) ≤ length input

one-few : (t : Told) (b : ℕ) (bs : List ℕ) → Few (t ∷ []) (b ∷ bs)
one-few (Marks m) b bs = omega arith
one-few (Notes at kind) b bs = omega arith

first_step-few : (one : Bool) (p : Progress) (s at b : ℕ) (bs : List ℕ) → Few (first_step one p s at b).told (b ∷ bs)
first_step-few true p s at b bs = omega arith
first_step-few false p s at b bs = omega arith

begun_step-few : (one : Bool) (p : Progress) (s : ℕ) (first : Option ℕ) (at b : ℕ) (bs : List ℕ) →
    Few (begun_step one p s first at b).told (b ∷ bs)
begun_step-few one p s None at b bs = first_step-few one p s at b bs
begun_step-few one p s (Some a) at b bs = omega arith

run-few : (fs : List ℕ) → length (told_signs (map Marks (map ByteSign fs))) ≡ length fs
run-few [] = omega arith
run-few (b ∷ fs) = omega (arith, run-few fs)

data_turn-few : (p : Progress) (s : State) (b : ℕ) (bs : List ℕ) → Few (data_turn p s b bs).told (b ∷ bs)
data_turn-few Idle s b bs = omega arith
data_turn-few (Running r) s b bs = first_step-few (is_one (data_length r)) (Running r) r s.offset b bs
data_turn-few (Begun r first at) s b bs = begun_step-few (is_one (data_length r)) (completed r) r first at b bs
data_turn-few InSysex s b bs =
    let front = data_front (b ∷ bs) in
    omega (arith, run-few front, ap length (data_front-rest (b ∷ bs)), length-append front (data_rest (b ∷ bs)))

abbrev step_of : Progress → List Told → Step
step_of p ts = record { progress = p; told = ts }

status_step-few : (p : Progress) (at b : ℕ) (bs : List ℕ) → Few (status_step p at b).told (b ∷ bs)
status_step-few p at b bs = by (b == 0xf7) (b == 0xf0) (b == 0xf6) ((b == 0xf4) || (b == 0xf5))
  where
    by : (ends starts tunes undefined : Bool) →
        Few (cond ends (step_of Idle (end_told p at ∷ [])) (cond starts (step_of InSysex (Marks OpenSign ∷ []))
        (cond tunes (step_of Idle (Marks (ShortSign 0xf6 0 0) ∷ []))
        (cond undefined (step_of Idle (Notes at Undefined ∷ [])) (step_of (Begun b None at) []))))).told (b ∷ bs)
    by true starts tunes undefined = one-few (end_told p at) b bs
    by false true tunes undefined = omega arith
    by false false true undefined = omega arith
    by false false false true = omega arith
    by false false false false = omega arith

early-few : (t : Bool) (s : State) (b : ℕ) (bs : List ℕ) → Few (status_turn (cond t [] (Marks AbortSign ∷ [])) s b
    bs).told (b ∷ bs)
early-few true s b bs = status_step-few s.progress s.offset b bs
early-few false s b bs = omega arith

status_turn-few : (p : Progress) (s : State) (b : ℕ) (bs : List ℕ) → Few (status_turn (told_before p b) s b bs).told
    (b ∷ bs)
status_turn-few Idle s b bs = status_step-few s.progress s.offset b bs
status_turn-few (Running r) s b bs = status_step-few s.progress s.offset b bs
status_turn-few (Begun r first at) s b bs = omega arith
status_turn-few InSysex s b bs = early-few (b == 0xf7) s b bs

first-few : (s : State) (b : ℕ) (bs : List ℕ) → Few (one s b bs).told (b ∷ bs)
first-few s b bs =
    one-cases (λ t. Few t.told (b ∷ bs)) s b bs (λ _. data_turn-few s.progress s b bs)
    (one-few (realtime_told s.offset b) b bs)
    (status_turn-few s.progress s b bs)

longer : (ts : List Told) (b : ℕ) (bs : List ℕ) → Few ts bs → Few ts (b ∷ bs)
longer ts b bs h = omega arith

pub turn-few : (s : State) (input : List ℕ) → Few (turn s input).told input
turn-few s [] = omega arith
turn-few s (b ∷ bs) =
    let next = one s b bs in
    turn-cases (λ t. Few t.told (b ∷ bs)) next.told next (turn next.behind bs) refl
    (λ _. longer (turn next.behind bs).told b bs (turn-few next.behind bs)) (λ _. first-few s b bs)

pub few_of : (s : State) (input : List ℕ) (ts : List Told) → ts ≡ (turn s input).told → Few ts input
few_of s input ts e = subst (λ z. Few z input) (sym e) (turn-few s input)
