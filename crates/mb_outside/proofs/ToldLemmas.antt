-- What a desk in memory tells, after each call.
use Rattle.std.proofs.Common.{◌≡◌, ℕ, zero, suc, ◌+◌, ◌-◌, ◌<◌, ◌≤◌, Bool, true, false, ◌==◌, if◌then◌else◌, List, []}
use Rattle.std.proofs.Common.{◌∷◌, ◌++◌, length, set, take, drop, map, Option, Some, None, inl, inr, refl, sym, ◌∙◌, ap}
use Rattle.std.proofs.Common.{subst, min, arith}
use Rattle.std.specs.Prelude.{slice_get, nat_le, ◌||◌, ◌&&◌}
use Rattle.std.proofs.lemmas.Bool.{cases_lt, false≢true}
use Rattle.std.proofs.lemmas.Bool.Decides.{nat_tests}
use Rattle.std.proofs.lemmas.List.{append-nil, drop-drop, length-map, map_push, nil_from_length}
use Rattle.std.proofs.lemmas.Option.{slice_get_within, slice_get_past}
use Rattle.std.proofs.Math.Seq.{take-add}
use Rattle.mb_outside.specs.Contents.{Contents, Gives, after_read, after_write, after_open, after_create, is_readable}
use Rattle.mb_outside.specs.Contents.{is_writable, reads_given, writes_given}
use Rattle.mb_outside.specs.ContentsLaws.{same_contents}
use Rattle.mb_outside.specs.Place.{Place, Opened, Created, moved_on}
use Rattle.mb_outside.specs.MemoryDesk.{bytes_to, told, logged, at_handle, given_as, left_at, taken_at, bytes_in}
use Rattle.mb_outside.specs.MemoryDesk.{name_in, IsLogged}
use Rattle.mb_outside.proofs.LogLemmas.{bytes_to-append, bytes_to-logged, bytes_to-none}
use Rattle.mb_outside.proofs.PlaceLemmas.{get_last, get_past, get_push-other, get_set-same, get_set-other, entry_at}
use Rattle.mb_outside.proofs.PlaceLemmas.{entry_changes, entry_same, left-moved, taken-moved, names_stay}

pub told-write : (files : List (List ℕ × List ℕ)) (input : List ℕ) (at : ℕ) (places : List Place) (log : List (ℕ × ℕ))
    (handle : ℕ) (bytes : List ℕ) →
    told files input at places (log ++ logged handle bytes) ≡ after_write handle bytes (told files input at places log)
told-write files input at places log handle bytes =
    same_contents _ _ (λ h. refl) (λ h. refl)
    (λ h. bytes_to-append h log (logged handle bytes)
    ∙ (ap (λ bs. bytes_to h log ++ bs) (bytes_to-logged h handle bytes) ∙ written h (h == handle) refl))
    refl
  where
    written : (h : ℕ) (c : Bool) → (h == handle) ≡ c →
        bytes_to h log ++ (if c then bytes else []) ≡ (if c then bytes_to handle log ++ bytes else bytes_to h log)
    written h true e = ap (λ (k : ℕ). bytes_to k log ++ bytes) (grind (arith, nat_tests))
    written h false e = append-nil (bytes_to h log)

-- some bytes were logged
pub wrote : (files : List (List ℕ × List ℕ)) (input : List ℕ) (at : ℕ) (places : List Place) (log now : List (ℕ × ℕ))
    (handle : ℕ) (bytes wanted : List ℕ) (before : Contents) →
    now ≡ log ++ logged handle bytes → bytes ≡ wanted → told files input at places log ≡ before →
    told files input at places now ≡ after_write handle wanted before
wrote files input at places log now handle bytes wanted before logged_is same before_is =
    ap (told files input at places) logged_is
    ∙ (told-write files input at places log handle bytes
    ∙ (ap (λ bs. after_write handle bs (told files input at places log)) same
    ∙ ap (after_write handle wanted) before_is))

-- an entry at 0 over other entries
entry_at_zero : (b : Bool) (x y z : List ℕ) → (if b then x else z) ≡ (if b then x else (if b then y else z))
entry_at_zero true x y z = refl
entry_at_zero false x y z = refl

pub told-read : (files : List (List ℕ × List ℕ)) (input : List ℕ) (at n : ℕ) (places : List Place)
    (log : List (ℕ × ℕ)) → told files input (at + n) places log ≡ after_read 0 n (told files input at places log)
told-read files input at n places log = same_contents _ _
    (λ h. ap (λ (x : List ℕ). at_handle x (left_at files) places h) (sym (drop-drop n at input))
    ∙ entry_at_zero (h == 0) (drop n (drop at input)) (drop at input) (others (left_at files) h))
    (λ h. ap (λ (x : List ℕ). at_handle x (taken_at files) places h) (take-add at n input)
    ∙ entry_at_zero (h == 0) (take at input ++ take n (drop at input)) (take at input) (others (taken_at files) h))
    (λ h. refl)
    refl
  where
    others : (Option Place → List ℕ) → ℕ → List ℕ
    others given h = if nat_le 3 h then given (slice_get places (h - 3)) else []

-- a call copied what it may
pub gives : (before now : Contents) (h n most : ℕ) (left buffer : List ℕ) → now ≡ after_read h n before →
    before.left h ≡ left → n ≡ min (min (length left) (length buffer)) most → 0 < most → take n buffer ≡ take n left →
    Gives before now h n buffer
gives before now h n most left buffer moved left_is count some bytes =
    record {
      contents = moved;
      within = subst (λ (x : List ℕ). n ≤ length x) (sym left_is) (omega (arith, count));
      bytes = bytes ∙ ap (take n) (sym left_is);
      ends = λ none room. left_is ∙ nil_from_length left (omega (arith, count, none, room, some));
    }

-- the next handle by the places
next_is : (files : List (List ℕ × List ℕ)) (places : List Place) (h : ℕ) (x z : List ℕ) →
    (if h == 3 + length places then x else z) ≡ (if h == 3 + length (map (given_as files) places) then x else z)
next_is files places h x z =
    ap (λ (m : ℕ). if h == 3 + m then x else z) (sym (length-map places (given_as files)))

pub told-open : (files : List (List ℕ × List ℕ)) (input : List ℕ) (at : ℕ) (places : List Place) (log : List (ℕ × ℕ))
    (file : ℕ) → told files input at (places ++ Opened file 0 ∷ []) log
    ≡ after_open (name_in (slice_get files file)) (bytes_in (slice_get files file)) (told files input at places log)
told-open files input at places log file = same_contents _ _
    (λ h. entry_changes (drop at input) (bytes_in (slice_get files file)) (left_at files) places _ (length places) h
    (ap (left_at files) (get_last places (Opened file 0))) (get_push-other places (Opened file 0))
    ∙ next_is files places h (bytes_in (slice_get files file)) (at_handle (drop at input) (left_at files) places h))
    (λ h. entry_changes (take at input) [] (taken_at files) places _ (length places) h
    (ap (taken_at files) (get_last places (Opened file 0))) (get_push-other places (Opened file 0))
    ∙ next_is files places h [] (at_handle (take at input) (taken_at files) places h))
    (λ h. refl)
    (map_push (given_as files) places (Opened file 0))

pub told-create : (files : List (List ℕ × List ℕ)) (input : List ℕ) (at : ℕ) (places : List Place)
    (log : List (ℕ × ℕ)) (name : List ℕ) → IsLogged (3 + length places) log →
    told files input at (places ++ Created name ∷ []) log ≡ after_create name (told files input at places log)
told-create files input at places log name logged_is = same_contents _ _
    (λ h. entry_same (drop at input) (left_at files) places _ (length places) h
    (ap (left_at files) (get_last places (Created name)) ∙ sym (ap (left_at files) (get_past places)))
    (get_push-other places (Created name)))
    (λ h. entry_same (take at input) (taken_at files) places _ (length places) h
    (ap (taken_at files) (get_last places (Created name)) ∙ sym (ap (taken_at files) (get_past places)))
    (get_push-other places (Created name)))
    (λ h. nothing_yet h (h == 3 + length places) refl ∙ next_is files places h [] (bytes_to h log))
    (map_push (given_as files) places (Created name))
  where
    nothing_yet : (h : ℕ) (b : Bool) → (h == 3 + length places) ≡ b →
        bytes_to h log ≡ (if b then [] else bytes_to h log)
    nothing_yet h true e =
        let past : 3 + length places ≤ h = grind (arith, nat_tests) in
        bytes_to-none (3 + length places) h log logged_is past
    nothing_yet h false e = refl

-- bytes were taken off a handle that was given
told-read_place : (files : List (List ℕ × List ℕ)) (input : List ℕ) (at n : ℕ) (places : List Place)
    (log : List (ℕ × ℕ)) (i : ℕ) (p : Place) → slice_get places i ≡ Some p →
    told files input at (set places i (moved_on n p)) log ≡ after_read (3 + i) n (told files input at places log)
told-read_place files input at n places log i p e =
    let within : i < length places = slice_get_within places i p e in
    let left : at_handle (drop at input) (left_at files) places (3 + i) ≡ left_at files (Some p)
    = entry_at (drop at input) (left_at files) places i ∙ ap (left_at files) e in
    let taken : at_handle (take at input) (taken_at files) places (3 + i) ≡ taken_at files (Some p)
    = entry_at (take at input) (taken_at files) places i ∙ ap (taken_at files) e in
    same_contents _ _
    (λ h. entry_changes (drop at input) _ (left_at files) places (set places i (moved_on n p)) i h
    (ap (left_at files) (get_set-same places (moved_on n p) i within) ∙ (left-moved files n p ∙ sym (ap (drop n) left)))
    (get_set-other places (moved_on n p) i))
    (λ h. entry_changes (take at input) _ (taken_at files) places (set places i (moved_on n p)) i h
    (ap (taken_at files) (get_set-same places (moved_on n p) i within) ∙ (taken-moved files n p
    ∙ (sym (ap (λ (x : List ℕ). x ++ take n (left_at files (Some p))) taken)
    ∙ sym (ap (λ (x : List ℕ). at_handle (take at input) (taken_at files) places (3 + i) ++ take n x) left))))
    (get_set-other places (moved_on n p) i))
    (λ h. refl)
    (names_stay files places i n p e)

-- the same by the handle
pub told-read_handle : (files : List (List ℕ × List ℕ)) (input : List ℕ) (at n : ℕ) (places : List Place)
    (log : List (ℕ × ℕ)) (h : ℕ) (p : Place) → 3 ≤ h → slice_get places (h - 3) ≡ Some p →
    told files input at (set places (h - 3) (moved_on n p)) log ≡ after_read h n (told files input at places log)
told-read_handle files input at n places log h p up e =
    let here : 3 + (h - 3) ≡ h = omega arith in
    told-read_place files input at n places log (h - 3) p e
    ∙ ap (λ (k : ℕ). after_read k n (told files input at places log)) here

-- what a handle has left
pub left-place : (files : List (List ℕ × List ℕ)) (input : List ℕ) (at : ℕ) (places : List Place) (log : List (ℕ × ℕ))
    (h : ℕ) (p : Place) → 3 ≤ h → slice_get places (h - 3) ≡ Some p →
    (told files input at places log).left h ≡ left_at files (Some p)
left-place files input at places log h p up e =
    let here : 3 + (h - 3) ≡ h = omega arith in
    subst (λ (k : ℕ). at_handle (drop at input) (left_at files) places k ≡ left_at files (Some p)) here
    (entry_at (drop at input) (left_at files) places (h - 3) ∙ ap (left_at files) e)

-- a handle to read was given, but for standard input
place_of_given : (files : List (List ℕ × List ℕ)) (places : List Place) (i : ℕ) →
    reads_given (slice_get (map (given_as files) places) i) ≡ true → (p : Place) × (slice_get places i ≡ Some p)
place_of_given files [] i e = cc
place_of_given files (p ∷ places) zero e = (p, refl)
place_of_given files (p ∷ places) (suc i) e = place_of_given files places i e

both_hold : (a b : Bool) → (a && b) ≡ true → (a ≡ true) × (b ≡ true)
both_hold true b e = (refl, e)
both_hold false b e = cc

pub readable_place : (files : List (List ℕ × List ℕ)) (input : List ℕ) (at : ℕ) (places : List Place)
    (log : List (ℕ × ℕ)) (h : ℕ) → is_readable (told files input at places log) h ≡ true → (h ≡ 0 → ⊥) →
    (3 ≤ h) × ((p : Place) × (slice_get places (h - 3) ≡ Some p))
readable_place files input at places log h e other =
    let not_zero : (h == 0) ≡ false = grind (arith, nat_tests) in
    let given = reads_given (slice_get (map (given_as files) places) (h - 3)) in
    let rest : (nat_le 3 h && given) ≡ true = sym (ap (λ (b : Bool). b || (nat_le 3 h && given)) not_zero) ∙ e in
    let both = both_hold (nat_le 3 h) given rest in
    let up : nat_le 3 h ≡ true = both.0 in
    (grind (arith, nat_tests), place_of_given files places (h - 3) both.1)

none_written : (b : Bool) → (b && false) ≡ false
none_written true = refl
none_written false = refl

-- a handle to write was given, or is one of the two
pub writable_below : (files : List (List ℕ × List ℕ)) (input : List ℕ) (at : ℕ) (places : List Place)
    (log : List (ℕ × ℕ)) (h : ℕ) → is_writable (told files input at places log) h ≡ true → h < 3 + length places
writable_below files input at places log h e =
    elim (cases_lt h (3 + length places)) [
      | inl below ↦ below
      | inr past ↦ absurd (false≢true (sym (nothing past) ∙ e))
    ]
  where
    nothing : 3 + length places ≤ h → is_writable (told files input at places log) h ≡ false
    nothing past =
        let names = length-map places (given_as files) in
        let beyond : length (map (given_as files) places) ≤ h - 3 = omega (arith, names) in
        let none : slice_get (map (given_as files) places) (h - 3) ≡ None
        = slice_get_past (map (given_as files) places) (h - 3) beyond in
        let given = writes_given (slice_get (map (given_as files) places) (h - 3)) in
        let one : (h == 1) ≡ false = grind (arith, nat_tests) in
        let two : (h == 2) ≡ false = grind (arith, nat_tests) in
        ap (λ (b : Bool). b || h == 2 || (nat_le 3 h && given)) one
        ∙ (ap (λ (b : Bool). false || b || (nat_le 3 h && given)) two
        ∙ (ap (λ (r : Option (List ℕ × Bool)). nat_le 3 h && writes_given r) none ∙ none_written (nat_le 3 h)))
