-- What a router knows of a mark that is offered.
use Rattle.std.proofs.Common.{◌≡◌, ℕ, ◌<◌, ◌≤◌, Bool, true, false, List, []}
use Rattle.std.proofs.Common.{◌∷◌, ◌++◌, length, Option, Some, None, refl, ap, sym, subst, ◌∙◌, arith}
use Rattle.std.specs.Prelude.{not, ◌&&◌, ◌||◌, ◌==◌, nat_lt, nat_le}
use Rattle.std.proofs.lemmas.Bool.Decides.{nat_tests}
use Rattle.mb_message.specs.Bytes.{is_data}
use Rattle.mb_message.specs.declared.mark.Mark.{Mark}
use Rattle.mb_message.specs.declared.mark.Mark.TheVariants.{Short, Rt, Open, Byte, End, Abort}
use Rattle.mb_message.specs.Signs.{sign_of, suits_sign}
use Rattle.mb_stream.proofs.StandingLemmas.{open_after}
use Rattle.mb_merge.specs.declared.source.Held.{Held}
use Rattle.mb_merge.specs.declared.router.Passed.{Passed}
use Rattle.mb_merge.specs.Links.{Merger, link_of}
use Rattle.mb_merge.specs.Passing.{has_room, is_realtime_mark, may_pass, opens, passes_now}
use Rattle.mb_merge.specs.Calls.{IsSettled, may_offer}
use Rattle.mb_merge.proofs.Flows.{Suit}
use Rattle.mb_merge.proofs.Fits.{Fits, waits-why, held_marks, offered_turn}
use Rattle.mb_rig.specs.Merging.Tags.{Tag, is_realtime_sign, is_sound}
use Rattle.mb_rig.specs.Merging.Playing.{AreHeld, IsOffered}
use Rattle.mb_rig.specs.Merging.Heard.{opens_sign}
use Rattle.mb_rig.proofs.Merging.Lateness.{true≢false, none≢some}

pub mark-realtime : (mark : Mark) → is_realtime_sign (sign_of mark) ≡ is_realtime_mark mark
mark-realtime (Short x) = refl
mark-realtime (Rt x) = refl
mark-realtime Open = refl
mark-realtime (Byte x) = refl
mark-realtime End = refl
mark-realtime Abort = refl

pub mark-opens : (b : Bool) (mark : Mark) → opens_sign b (sign_of mark) ≡ opens b mark
mark-opens b (Short x) = refl
mark-opens b (Rt x) = refl
mark-opens b Open = refl
mark-opens b (Byte x) = refl
mark-opens b End = refl
mark-opens b Abort = refl

first : (a c : Bool) → (a && c) ≡ true → a ≡ true
first true c e = refl
first false c e = absurd (true≢false (sym e))

flips : (b : Bool) → not b ≡ true → b ≡ false
flips true e = absurd (true≢false (sym e))
flips false e = refl

-- what is open behind a mark that suits, by the router and by the signs
pub suits-opens : (b : Bool) (mark : Mark) → suits_sign b (sign_of mark) ≡ true →
    opens b mark ≡ open_after b (sign_of mark)
suits-opens b (Short x) fit = flips b fit
suits-opens b (Rt x) fit = refl
suits-opens b Open fit = refl
suits-opens b (Byte x) fit = first b (is_data x) fit
suits-opens b End fit = refl
suits-opens b Abort fit = refl

-- a mark that suits is one that a stream can have
pub mark-sound : (b : Bool) (mark : Mark) → suits_sign b (sign_of mark) ≡ true → is_sound (sign_of mark) ≡ true
mark-sound b (Short x) fit = x.valid
mark-sound b (Rt x) fit = x.valid
mark-sound b Open fit = refl
mark-sound b (Byte x) fit = second b (is_data x) fit
  where
    second : (a c : Bool) → (a && c) ≡ true → c ≡ true
    second true c e = e
    second false c e = absurd (true≢false (sym e))
mark-sound b End fit = refl
mark-sound b Abort fit = refl

and-true : (a b : Bool) → a ≡ true → b ≡ true → (a && b) ≡ true
and-true true b e f = f
and-true false b e f = absurd (true≢false (sym e))

pub offer-may : (m : Merger) (x moment : ℕ) (mark : Mark) → x < length m.links →
    suits_sign (link_of m x).in_sysex (sign_of mark) ≡ true → (link_of m x).last ≤ moment → m.draining ≡ false →
    has_room m x mark ≡ true → may_offer m x moment mark ≡ true
offer-may m x moment mark below fit later quiet room =
    and-true _ _ (less x (length m.links) below) (and-true _ _ fit
    (and-true _ _ (at_most (link_of m x).last moment later)
    (and-true _ _ (ap not quiet) room)))
  where
    less : (a b : ℕ) → a < b → nat_lt a b ≡ true
    less a b e = grind (arith, nat_tests)

    at_most : (a b : ℕ) → a ≤ b → nat_le a b ≡ true
    at_most a b e = grind (arith, nat_tests)

-- where nothing is offered or held, what has passed is what was taken
pub nothing-held : (m : Merger) (x : ℕ) → Fits m → m.offered ≡ None → (link_of m x).held ≡ [] →
    (link_of m x).is_open ≡ (link_of m x).in_sysex
nothing-held m x fits idle none =
    subst (λ hs. Suit (link_of m x).is_open (held_marks hs) (link_of m x).in_sysex) none
    (subst (λ o. Suit (link_of m x).is_open (offered_turn o x ++ held_marks (link_of m x).held) (link_of m x).in_sysex)
    idle (fits.turn x).suit)

-- a mark that suits an open source may pass
open-may : (m : Merger) (x : ℕ) (mark : Mark) → (link_of m x).is_open ≡ true → is_realtime_mark mark ≡ false →
    suits_sign true (sign_of mark) ≡ true → may_pass m.links x mark ≡ true
open-may m x (Short s) opened calm fit = absurd (true≢false (sym fit))
open-may m x (Rt r) opened calm fit = absurd (true≢false calm)
open-may m x Open opened calm fit = absurd (true≢false (sym fit))
open-may m x (Byte b) opened calm fit = opened
open-may m x End opened calm fit = opened
open-may m x Abort opened calm fit = opened

-- a mark that is held is of a closed source
pub held-closed : (m : Merger) (x : ℕ) (mark : Mark) → Fits m → IsSettled m → m.offered ≡ None →
    x < length m.links → suits_sign (link_of m x).in_sysex (sign_of mark) ≡ true → passes_now m x mark ≡ false →
    (link_of m x).is_open ≡ false
held-closed m x mark fits settled idle below fit waits = by_test (link_of m x).is_open refl
  where
    calm : is_realtime_mark mark ≡ false
    calm = waits-why m x mark waits

    goes : (link_of m x).held ≡ [] → may_pass m.links x mark ≡ true → passes_now m x mark ≡ true
    goes none may = ap (λ b. b || ((length (link_of m x).held == 0) && may_pass m.links x mark)) calm
        ∙ (ap (λ hs. (length hs == 0) && may_pass m.links x mark) none ∙ may)

    by_test : (b : Bool) → (link_of m x).is_open ≡ b → b ≡ false
    by_test false e = refl
    by_test true e =
        let none : (link_of m x).held ≡ [] = settled.owners x below e in
        let inside : (link_of m x).in_sysex ≡ true = sym (nothing-held m x fits idle none) ∙ e in
        absurd (true≢false (sym (goes none (open-may m x mark e calm
        (ap (λ b. suits_sign b (sign_of mark)) (sym inside) ∙ fit))) ∙ waits))

pub no-tags : (x : ℕ) (hs : List Held) (ts : List Tag) → AreHeld x hs ts → hs ≡ [] → ts ≡ []
no-tags x [] [] are e = refl
no-tags x [] (t ∷ ts) are e = absurd are
no-tags x (h ∷ hs) ts are e = absurd (no_cons e)
  where
    no_cons : ◌≡◌ {A = List Held} (h ∷ hs) [] → ⊥
    no_cons e = cc

pub no-marks : (x : ℕ) (hs : List Held) (ts : List Tag) → AreHeld x hs ts → ts ≡ [] → hs ≡ []
no-marks x [] ts are e = refl
no-marks x (h ∷ hs) [] are e = absurd are
no-marks x (h ∷ hs) (t ∷ ts) are e = absurd (no_cons e)
  where
    no_cons : ◌≡◌ {A = List Tag} (t ∷ ts) [] → ⊥
    no_cons e = cc

pub no-offer : (o : Option Passed) (t : Option Tag) → IsOffered o t → o ≡ None → t ≡ None
no-offer None None are e = refl
no-offer None (Some t) are e = absurd are
no-offer (Some p) t are e = absurd (none≢some p (sym e))
