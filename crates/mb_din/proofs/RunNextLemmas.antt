-- A run is told only where it begins the input, in a SysEx that is open.
use Rattle.std.proofs.Common.{◌≡◌, ℕ, Bool, true, false, Option, Some, None, List, [], ◌∷◌, map, refl, sym, ◌∙◌, ap}
use Rattle.std.proofs.lemmas.Bool.{false≢true}
use Rattle.std.specs.Prelude.{◌==◌, ◌||◌, if◌then◌else◌}
use Rattle.mb_message.specs.Bytes.{is_data, is_realtime, is_undefined_realtime, data_length}
use Rattle.mb_message.specs.Signs.{ShortSign, RtSign, ByteSign, AbortSign, OpenSign}
use Rattle.mb_message.specs.declared.note.NoteKind.TheVariants.{Undefined}
use Rattle.mb_stream.specs.Told.{Told, Marks, Notes}
use Rattle.mb_stream.specs.ReaderLaw.{begins_run}
use Rattle.mb_din.specs.declared.progress.Progress.{Progress}
use Rattle.mb_din.specs.declared.progress.Progress.TheVariants.{Idle, Running, Begun, InSysex}
use Rattle.mb_din.specs.State.{State, is_open_progress, open_now}
use Rattle.mb_din.specs.Reader.{RunNext}
use Rattle.mb_din.specs.Turn.{Step, Turn, is_one, first_step, begun_step, completed, data_step, realtime_told}
use Rattle.mb_din.specs.Turn.{told_before, end_told, status_step, data_front, data_turn, status_turn, one, unless_told}
use Rattle.mb_din.specs.Turn.{turn, passed}

cons≢nil : {A : Type 0} {x : A} {xs : List A} → x ∷ xs ≡ [] → ⊥
cons≢nil e = cc

-- what tells nothing leaves no SysEx open
abbrev Shuts : List Told → Progress → Type 0
Shuts ts p = ts ≡ [] → is_open_progress p ≡ false

first-plain : (one : Bool) (w : Progress) (s at b : ℕ) → begins_run (first_step one w s at b).told ≡ false
first-plain true w s at b = refl
first-plain false w s at b = refl

first-shuts : (one : Bool) (w : Progress) (s at b : ℕ) → Shuts (first_step one w s at b).told
    (first_step one w s at b).progress
first-shuts true w s at b e = absurd (cons≢nil e)
first-shuts false w s at b e = refl

begun-plain : (one : Bool) (w : Progress) (s : ℕ) (first : Option ℕ) (at b : ℕ) →
    begins_run (begun_step one w s first at b).told ≡ false
begun-plain one w s None at b = first-plain one w s at b
begun-plain one w s (Some a) at b = refl

begun-shuts : (one : Bool) (w : Progress) (s : ℕ) (first : Option ℕ) (at b : ℕ) →
    Shuts (begun_step one w s first at b).told (begun_step one w s first at b).progress
begun-shuts one w s None at b e = first-shuts one w s at b e
begun-shuts one w s (Some a) at b e = absurd (cons≢nil e)

data-plain : (p : Progress) (at b : ℕ) → begins_run (data_step p at b).told ≡ false
data-plain Idle at b = refl
data-plain (Running s) at b = first-plain (is_one (data_length s)) (Running s) s at b
data-plain (Begun s first begun) at b = begun-plain (is_one (data_length s)) (completed s) s first begun b
data-plain InSysex at b = refl

data-shuts : (p : Progress) (at b : ℕ) → Shuts (data_step p at b).told (data_step p at b).progress
data-shuts Idle at b e = refl
data-shuts (Running s) at b e = first-shuts (is_one (data_length s)) (Running s) s at b e
data-shuts (Begun s first begun) at b e = begun-shuts (is_one (data_length s)) (completed s) s first begun b e
data-shuts InSysex at b e = refl

data_turn-next : (p : Progress) (s : State) (b : ℕ) (bs : List ℕ) → begins_run (data_turn p s b bs).told ≡ true →
    is_open_progress p ≡ true
data_turn-next Idle s b bs e = absurd (false≢true (sym (data-plain Idle s.offset b) ∙ e))
data_turn-next (Running r) s b bs e = absurd (false≢true (sym (data-plain (Running r) s.offset b) ∙ e))
data_turn-next (Begun r first at) s b bs e = absurd (false≢true (sym (data-plain (Begun r first at) s.offset b) ∙ e))
data_turn-next InSysex s b bs e = refl

run-some : (d : Bool) (b : ℕ) (bs : List ℕ) → d ≡ true → map Marks (map ByteSign (if d then b ∷ data_front bs else []))
    ≡ [] → ⊥
run-some true b bs d e = cons≢nil e
run-some false b bs d e = false≢true d

data_turn-shuts : (p : Progress) (s : State) (b : ℕ) (bs : List ℕ) → is_data b ≡ true → Shuts (data_turn p s b bs).told
    (data_turn p s b bs).behind.progress
data_turn-shuts Idle s b bs d e = data-shuts Idle s.offset b e
data_turn-shuts (Running r) s b bs d e = data-shuts (Running r) s.offset b e
data_turn-shuts (Begun r first at) s b bs d e = data-shuts (Begun r first at) s.offset b e
data_turn-shuts InSysex s b bs d e = absurd (run-some (is_data b) b bs d e)

end-plain : (p : Progress) (at : ℕ) → begins_run (end_told p at ∷ []) ≡ false
end-plain Idle at = refl
end-plain (Running s) at = refl
end-plain (Begun s first b) at = refl
end-plain InSysex at = refl

abbrev stepped : (ends starts tunes undefined : Bool) → Progress → (at b : ℕ) → Step
stepped ends starts tunes undefined p at b =
    if ends then record { progress = Idle; told = end_told p at ∷ [] }
    else (if starts then record { progress = InSysex; told = Marks OpenSign ∷ [] }
    else (if tunes then record { progress = Idle; told = Marks (ShortSign 0xf6 0 0) ∷ [] }
    else (if undefined then record { progress = Idle; told = Notes at Undefined ∷ [] }
    else record { progress = Begun b None at; told = [] })))

status-plain : (p : Progress) (at b : ℕ) → begins_run (status_step p at b).told ≡ false
status-plain p at b = by (b == 0xf7) (b == 0xf0) (b == 0xf6) ((b == 0xf4) || (b == 0xf5))
  where
    by : (ends starts tunes undefined : Bool) → begins_run (stepped ends starts tunes undefined p at b).told ≡ false
    by true starts tunes undefined = end-plain p at
    by false true tunes undefined = refl
    by false false true undefined = refl
    by false false false true = refl
    by false false false false = refl

status-shuts : (p : Progress) (at b : ℕ) → Shuts (status_step p at b).told (status_step p at b).progress
status-shuts p at b = by (b == 0xf7) (b == 0xf0) (b == 0xf6) ((b == 0xf4) || (b == 0xf5))
  where
    by : (ends starts tunes undefined : Bool) → Shuts (stepped ends starts tunes undefined p at b).told
        (stepped ends starts tunes undefined p at b).progress
    by true starts tunes undefined e = refl
    by false true tunes undefined e = absurd (cons≢nil e)
    by false false true undefined e = refl
    by false false false true e = refl
    by false false false false e = refl

before-plain : (p : Progress) (b : ℕ) → begins_run (told_before p b) ≡ false
before-plain Idle b = refl
before-plain (Running s) b = refl
before-plain (Begun s first at) b = refl
before-plain InSysex b = by (b == 0xf7)
  where
    by : (ends : Bool) → begins_run (if ends then [] else Marks AbortSign ∷ []) ≡ false
    by true = refl
    by false = refl

status_turn-plain : (ts : List Told) (s : State) (b : ℕ) (bs : List ℕ) → begins_run ts ≡ false →
    begins_run (status_turn ts s b bs).told ≡ false
status_turn-plain [] s b bs q = status-plain s.progress s.offset b
status_turn-plain (t ∷ ts) s b bs q = q

status_turn-shuts : (ts : List Told) (s : State) (b : ℕ) (bs : List ℕ) → Shuts (status_turn ts s b bs).told
    (status_turn ts s b bs).behind.progress
status_turn-shuts [] s b bs e = status-shuts s.progress s.offset b e
status_turn-shuts (t ∷ ts) s b bs e = absurd (cons≢nil e)

realtime-plain : (at b : ℕ) → begins_run (realtime_told at b ∷ []) ≡ false
realtime-plain at b = by (is_undefined_realtime b)
  where
    by : (undefined : Bool) → begins_run ((if undefined then Notes at Undefined else Marks (RtSign b)) ∷ []) ≡ false
    by true = refl
    by false = refl

abbrev turned : (da rt : Bool) → State → ℕ → List ℕ → Turn
turned da rt s b bs = if da then data_turn s.progress s b bs else
    (if rt then passed s bs (record { progress = s.progress; told = realtime_told s.offset b ∷ [] }) else
    status_turn (told_before s.progress b) s b bs)

one-next : (s : State) (b : ℕ) (bs : List ℕ) → begins_run (one s b bs).told ≡ true → RunNext s (b ∷ bs)
one-next s b bs = by (is_data b) (is_realtime b) refl
  where
    by : (da rt : Bool) → is_data b ≡ da → begins_run (turned da rt s b bs).told ≡ true → RunNext s (b ∷ bs)
    by true rt d e = (d, data_turn-next s.progress s b bs e)
    by false true d e = absurd (false≢true (sym (realtime-plain s.offset b) ∙ e))
    by false false d e = absurd (false≢true (sym (status_turn-plain (told_before s.progress b) s b bs
        (before-plain s.progress b)) ∙ e))

one-shuts : (s : State) (b : ℕ) (bs : List ℕ) → Shuts (one s b bs).told (one s b bs).behind.progress
one-shuts s b bs = by (is_data b) (is_realtime b) refl
  where
    by : (da rt : Bool) → is_data b ≡ da → Shuts (turned da rt s b bs).told (turned da rt s b bs).behind.progress
    by true rt d e = data_turn-shuts s.progress s b bs d e
    by false true d e = absurd (cons≢nil e)
    by false false d e = status_turn-shuts (told_before s.progress b) s b bs e

never-next : (s : State) (bs : List ℕ) → open_now s ≡ false → RunNext s bs → ⊥
never-next s [] o e = e
never-next s (b ∷ bs) o e = false≢true (sym o ∙ e.1)

unless-next : (ts : List Told) (t u : Turn) (s v : State) (b : ℕ) (bs : List ℕ) → (begins_run t.told ≡ true →
    RunNext s (b ∷ bs)) → (begins_run u.told ≡ true → RunNext v bs) → (ts ≡ [] → open_now v ≡ false) →
    begins_run (unless_told ts t u).told ≡ true → RunNext s (b ∷ bs)
unless-next [] t u s v b bs f g h e = absurd (never-next v bs (h refl) (g e))
unless-next (x ∷ xs) t u s v b bs f g h e = f e

turn-next : (input : List ℕ) (s : State) → begins_run (turn s input).told ≡ true → RunNext s input
turn-next [] s e = false≢true e
turn-next (b ∷ bs) s e = unless-next (one s b bs).told (one s b bs) (turn (one s b bs).behind bs) s (one s b bs).behind
    b bs (one-next s b bs) (turn-next bs (one s b bs).behind) (one-shuts s b bs) e

pub run_next : (s : State) (input : List ℕ) (ts : List Told) → ts ≡ (turn s input).told → begins_run ts ≡ true →
    RunNext s input
run_next s input ts t e = turn-next input s (ap begins_run (sym t) ∙ e)
