-- Behind a short message that was told nothing is begun, and no SysEx is open.
use Rattle.std.proofs.Common.{◌≡◌, ℕ, Bool, true, false, Option, Some, None, List, [], ◌∷◌, map, refl, sym, ◌∙◌, ap}
use Rattle.std.proofs.lemmas.Bool.{false≢true}
use Rattle.std.specs.Prelude.{◌==◌, ◌||◌, if◌then◌else◌}
use Rattle.mb_message.specs.Bytes.{is_data, is_realtime, is_undefined_realtime, is_channel, data_length}
use Rattle.mb_message.specs.Signs.{ShortSign, RtSign, ByteSign, AbortSign, OpenSign}
use Rattle.mb_message.specs.declared.note.NoteKind.TheVariants.{Undefined}
use Rattle.mb_stream.specs.Told.{Told, Marks, Notes}
use Rattle.mb_stream.specs.ReaderLaw.{has_short}
use Rattle.mb_din.specs.declared.progress.Progress.{Progress}
use Rattle.mb_din.specs.declared.progress.Progress.TheVariants.{Idle, Running, Begun, InSysex}
use Rattle.mb_din.specs.State.{State, is_free_progress, free_now, completed_by}
use Rattle.mb_din.specs.Turn.{Step, Turn, is_one, first_step, begun_step, completed, data_step, realtime_told}
use Rattle.mb_din.specs.Turn.{told_before, end_told, status_step, data_front, data_turn, status_turn, one, unless_told}
use Rattle.mb_din.specs.Turn.{turn, passed}

abbrev Frees : List Told → Progress → Type 0
Frees ts p = has_short ts ≡ true → is_free_progress p ≡ true

whole-free : (c : Bool) (s : ℕ) → is_free_progress (completed_by c s) ≡ true
whole-free true s = refl
whole-free false s = refl

first-frees : (one : Bool) (w : Progress) (s at b : ℕ) → is_free_progress w ≡ true →
    Frees (first_step one w s at b).told (first_step one w s at b).progress
first-frees true w s at b f e = f
first-frees false w s at b f e = absurd (false≢true e)

begun-frees : (one : Bool) (w : Progress) (s : ℕ) (first : Option ℕ) (at b : ℕ) → is_free_progress w ≡ true →
    Frees (begun_step one w s first at b).told (begun_step one w s first at b).progress
begun-frees one w s None at b f e = first-frees one w s at b f e
begun-frees one w s (Some a) at b f e = f

data-frees : (p : Progress) (at b : ℕ) → Frees (data_step p at b).told (data_step p at b).progress
data-frees Idle at b e = absurd (false≢true e)
data-frees (Running s) at b e = first-frees (is_one (data_length s)) (Running s) s at b refl e
data-frees (Begun s first begun) at b e = begun-frees (is_one (data_length s)) (completed s) s first begun b
    (whole-free (is_channel s) s) e
data-frees InSysex at b e = absurd (false≢true e)

run-quiet : (bs : List ℕ) → has_short (map Marks (map ByteSign bs)) ≡ false
run-quiet [] = refl
run-quiet (b ∷ bs) = run-quiet bs

data_turn-frees : (p : Progress) (s : State) (b : ℕ) (bs : List ℕ) → Frees (data_turn p s b bs).told
    (data_turn p s b bs).behind.progress
data_turn-frees Idle s b bs e = data-frees Idle s.offset b e
data_turn-frees (Running r) s b bs e = data-frees (Running r) s.offset b e
data_turn-frees (Begun r first at) s b bs e = data-frees (Begun r first at) s.offset b e
data_turn-frees InSysex s b bs e = absurd (false≢true (sym (run-quiet (data_front (b ∷ bs))) ∙ e))

end-quiet : (p : Progress) (at : ℕ) → has_short (end_told p at ∷ []) ≡ false
end-quiet Idle at = refl
end-quiet (Running s) at = refl
end-quiet (Begun s first b) at = refl
end-quiet InSysex at = refl

status-frees : (p : Progress) (at b : ℕ) → Frees (status_step p at b).told (status_step p at b).progress
status-frees p at b = by (b == 0xf7) (b == 0xf0) (b == 0xf6) ((b == 0xf4) || (b == 0xf5))
  where
    by : (ends starts tunes undefined : Bool) →
        let z : Step = if ends then record { progress = Idle; told = end_told p at ∷ [] }
        else (if starts then record { progress = InSysex; told = Marks OpenSign ∷ [] }
        else (if tunes then record { progress = Idle; told = Marks (ShortSign 0xf6 0 0) ∷ [] }
        else (if undefined then record { progress = Idle; told = Notes at Undefined ∷ [] }
        else record { progress = Begun b None at; told = [] }))) in
        Frees z.told z.progress
    by true starts tunes undefined e = refl
    by false true tunes undefined e = absurd (false≢true e)
    by false false true undefined e = refl
    by false false false true e = refl
    by false false false false e = absurd (false≢true e)

before-quiet : (p : Progress) (b : ℕ) → has_short (told_before p b) ≡ false
before-quiet Idle b = refl
before-quiet (Running s) b = refl
before-quiet (Begun s first at) b = refl
before-quiet InSysex b = by (b == 0xf7)
  where
    by : (ends : Bool) → has_short (if ends then [] else Marks AbortSign ∷ []) ≡ false
    by true = refl
    by false = refl

status_turn-frees : (ts : List Told) (s : State) (b : ℕ) (bs : List ℕ) → has_short ts ≡ false →
    Frees (status_turn ts s b bs).told (status_turn ts s b bs).behind.progress
status_turn-frees [] s b bs q e = status-frees s.progress s.offset b e
status_turn-frees (t ∷ ts) s b bs q e = absurd (false≢true (sym q ∙ e))

realtime-quiet : (at b : ℕ) → has_short (realtime_told at b ∷ []) ≡ false
realtime-quiet at b = by (is_undefined_realtime b)
  where
    by : (undefined : Bool) → has_short ((if undefined then Notes at Undefined else Marks (RtSign b)) ∷ []) ≡ false
    by true = refl
    by false = refl

one-frees : (s : State) (b : ℕ) (bs : List ℕ) → Frees (one s b bs).told (one s b bs).behind.progress
one-frees s b bs = by (is_data b) (is_realtime b)
  where
    by : (da rt : Bool) →
        let z : Turn = if da then data_turn s.progress s b bs else
        (if rt then passed s bs (record { progress = s.progress; told = realtime_told s.offset b ∷ [] }) else
        status_turn (told_before s.progress b) s b bs) in
        Frees z.told z.behind.progress
    by true rt e = data_turn-frees s.progress s b bs e
    by false true e = absurd (false≢true (sym (realtime-quiet s.offset b) ∙ e))
    by false false e = status_turn-frees (told_before s.progress b) s b bs (before-quiet s.progress b) e

unless-frees : (ts : List Told) (t u : Turn) → Frees t.told t.behind.progress → Frees u.told u.behind.progress →
    Frees (unless_told ts t u).told (unless_told ts t u).behind.progress
unless-frees [] t u f g = g
unless-frees (x ∷ xs) t u f g = f

turn-frees : (input : List ℕ) (s : State) → Frees (turn s input).told (turn s input).behind.progress
turn-frees [] s e = absurd (false≢true e)
turn-frees (b ∷ bs) s e = unless-frees (one s b bs).told (one s b bs) (turn (one s b bs).behind bs) (one-frees s b bs)
    (turn-frees bs (one s b bs).behind) e

pub short_frees : (s now : State) (input : List ℕ) (ts : List Told) → ts ≡ (turn s input).told →
    now ≡ (turn s input).behind → has_short ts ≡ true → free_now now ≡ true
short_frees s now input ts t n e = ap free_now n ∙ turn-frees input s (ap has_short (sym t) ∙ e)
