-- Where the bytes and the packets of a list stand.
--
--   Few q          bytes that wait: at most two, no F7
--   FewHeld o q       none outside a SysEx
use Rattle.std.proofs.Common.{◌≡◌, ℕ, ◌+◌, ◌==◌, ◌≤◌, Bool, true, false, List, [], ◌∷◌, ◌++◌, if◌then◌else◌, refl, sym}
use Rattle.std.proofs.Common.{ap, subst, arith}
use Rattle.std.proofs.lemmas.Bool.{false≢true}
use Rattle.mb_message.specs.Signs.{Sign, ShortSign, RtSign, OpenSign, ByteSign, EndSign, AbortSign}
use Rattle.mb_stream.proofs.StandingLemmas.{Suited}
use Rattle.mb_usb.specs.Packets.{packet, single}
use Rattle.mb_usb.specs.Written.{Placed, at_place, rest_of_sysex, end_of_sysex, part_packets, sysex_packets}
use Rattle.mb_usb.specs.Written.{usb_packets}
use Rattle.mb_usb.proofs.Places.{From, From-less, From-append}

-- where things stand

pub rest_of_sysex-From : (i : ℕ) (ms : List Sign) → From i (rest_of_sysex i ms)
rest_of_sysex-From i [] = tt
rest_of_sysex-From i (ByteSign b ∷ ms) = (
  omega arith,
  From-less i (i + 1) (rest_of_sysex (i + 1) ms) (omega arith)
      (rest_of_sysex-From (i + 1) ms),
)
rest_of_sysex-From i (RtSign b ∷ ms) = From-less i (i + 1) (rest_of_sysex (i + 1) ms) (omega arith)
    (rest_of_sysex-From (i + 1) ms)
rest_of_sysex-From i (EndSign ∷ ms) = (omega arith, tt)
rest_of_sysex-From i (ShortSign s a b ∷ ms) = tt
rest_of_sysex-From i (OpenSign ∷ ms) = tt
rest_of_sysex-From i (AbortSign ∷ ms) = tt

pub end_of_sysex-least : (i : ℕ) (ms : List Sign) → i ≤ end_of_sysex i ms
end_of_sysex-least i [] = omega arith
end_of_sysex-least i (ByteSign b ∷ ms) = omega (arith, end_of_sysex-least (i + 1) ms)
end_of_sysex-least i (RtSign b ∷ ms) = omega (arith, end_of_sysex-least (i + 1) ms)
end_of_sysex-least i (EndSign ∷ ms) = omega arith
end_of_sysex-least i (ShortSign s a b ∷ ms) = omega arith
end_of_sysex-least i (OpenSign ∷ ms) = omega arith
end_of_sysex-least i (AbortSign ∷ ms) = omega arith

pub part_of_one-From : (c n e : ℕ) (x : Placed ℕ) → n ≤ x.place → n ≤ e → From n (part_packets c e (x ∷ []))
part_of_one-From c n e x at le =
    let Goal : Bool → Type 0 = λ t.
    From n (if t then at_place x.place (packet c 5 (x.thing ∷ [])) ∷ [] else at_place e (single c x.thing) ∷ []) in
    elim (x.thing == 0xf7) as Goal [ true ↦ (at, tt) | false ↦ (le, tt) ]

part_of_two-From : (c n e : ℕ) (x y : Placed ℕ) → n ≤ y.place → n ≤ e → From n (part_packets c e (x ∷ y ∷ []))
part_of_two-From c n e x y at le =
    let Goal : Bool → Type 0 = λ t.
    From n (if t then at_place y.place (packet c 6 (x.thing ∷ y.thing ∷ [])) ∷ []
    else at_place e (single c x.thing) ∷ at_place e (single c y.thing) ∷ []) in
    elim (y.thing == 0xf7) as Goal [ true ↦ (at, tt) | false ↦ (le, (le, tt)) ]

pub sysex_packets-From : (c n e : ℕ) (xs : List (Placed ℕ)) → From n xs → n ≤ e → From n (sysex_packets c e xs)
sysex_packets-From c n e [] f le = tt
sysex_packets-From c n e (x ∷ []) f le = From-append n _ [] (part_of_one-From c n e x f.0 le) tt
sysex_packets-From c n e (x ∷ y ∷ []) f le = From-append n _ [] (part_of_two-From c n e x y f.1.0 le) tt
sysex_packets-From c n e (x ∷ y ∷ z ∷ xs) f le = (f.1.1.0, sysex_packets-From c n e xs f.1.1.1 le)

pub usb_packets-From : (c i : ℕ) (ms : List Sign) → From i (usb_packets c i ms)
usb_packets-From c i [] = tt
usb_packets-From c i (ShortSign s a b ∷ ms) = (
  omega arith,
  From-less i (i + 1) (usb_packets c (i + 1) ms) (omega arith)
      (usb_packets-From c (i + 1) ms),
)
usb_packets-From c i (RtSign b ∷ ms) = (
  omega arith,
  From-less i (i + 1) (usb_packets c (i + 1) ms) (omega arith)
      (usb_packets-From c (i + 1) ms),
)
usb_packets-From c i (OpenSign ∷ ms) =
    let rest = rest_of_sysex (i + 1) ms in
    let bytes : From i (at_place i 0xf0 ∷ rest) = (
      omega arith,
      From-less i (i + 1) rest (omega arith)
          (rest_of_sysex-From (i + 1) ms),
    ) in
    let least : i + 1 ≤ end_of_sysex (i + 1) ms = end_of_sysex-least (i + 1) ms in
    From-append i (sysex_packets c (end_of_sysex (i + 1) ms) (at_place i 0xf0 ∷ rest)) (usb_packets c (i + 1) ms)
    (sysex_packets-From c i (end_of_sysex (i + 1) ms) (at_place i 0xf0 ∷ rest) bytes (omega arith))
    (From-less i (i + 1) (usb_packets c (i + 1) ms) (omega arith) (usb_packets-From c (i + 1) ms))
usb_packets-From c i (ByteSign b ∷ ms) = From-less i (i + 1) (usb_packets c (i + 1) ms) (omega arith)
    (usb_packets-From c (i + 1) ms)
usb_packets-From c i (EndSign ∷ ms) = From-less i (i + 1) (usb_packets c (i + 1) ms) (omega arith)
    (usb_packets-From c (i + 1) ms)
usb_packets-From c i (AbortSign ∷ ms) = From-less i (i + 1) (usb_packets c (i + 1) ms) (omega arith)
    (usb_packets-From c (i + 1) ms)

pub later-packets : (c i : ℕ) (ms : List Sign) → From i (usb_packets c (i + 1) ms)
later-packets c i ms = From-less i (i + 1) (usb_packets c (i + 1) ms) (omega arith) (usb_packets-From c (i + 1) ms)

-- bytes that wait

abbrev pub IsNoEnd : Placed ℕ → Type 0
IsNoEnd x = (x.thing == 0xf7) ≡ false

abbrev pub Few : List (Placed ℕ) → Type 0
Few [] = Unit {0}
Few (x ∷ []) = IsNoEnd x
Few (x ∷ y ∷ []) = IsNoEnd x × IsNoEnd y
Few (x ∷ y ∷ z ∷ xs) = ⊥

-- none outside a SysEx
abbrev pub FewHeld : Bool → List (Placed ℕ) → Type 0
FewHeld true q = Few q
FewHeld false [] = Unit {0}
FewHeld false (x ∷ xs) = ⊥

pub FewHeld-few : (o : Bool) (q : List (Placed ℕ)) → FewHeld o q → Few q
FewHeld-few true q h = h
FewHeld-few false [] h = tt
FewHeld-few false (x ∷ q) h = absurd h

pub single-packets : (c e : ℕ) (x : Placed ℕ) → IsNoEnd x → part_packets c e (x ∷ []) ≡ at_place e (single c x.thing) ∷
    []
single-packets c e x none =
    ap (λ (t : Bool). if t then at_place x.place (packet c 5 (x.thing ∷ [])) ∷ [] else at_place e (single c x.thing) ∷
    []) none

pub two-packets : (c e : ℕ) (x y : Placed ℕ) → IsNoEnd y →
    part_packets c e (x ∷ y ∷ []) ≡ at_place e (single c x.thing) ∷ at_place e (single c y.thing) ∷ []
two-packets c e x y none =
    ap (λ (t : Bool). if t then at_place y.place (packet c 6 (x.thing ∷ y.thing ∷ [])) ∷ []
    else at_place e (single c x.thing) ∷ at_place e (single c y.thing) ∷ []) none

-- Bytes that wait stand earlier, but their packets don't.
pub sysex_packets-pending : (c n e : ℕ) (q xs : List (Placed ℕ)) → Few q → From n xs → n ≤ e →
    From n (sysex_packets c e (q ++ xs))
sysex_packets-pending c n e [] xs few f le = sysex_packets-From c n e xs f le
sysex_packets-pending c n e (x ∷ []) [] few f le =
    From-append n (part_packets c e (x ∷ [])) [] (subst (From n) (sym (single-packets c e x few)) (le, tt)) tt
sysex_packets-pending c n e (x ∷ []) (y ∷ []) few f le = From-append n _ [] (part_of_two-From c n e x y f.0 le) tt
sysex_packets-pending c n e (x ∷ []) (y ∷ z ∷ xs) few f le = (f.1.0, sysex_packets-From c n e xs f.1.1 le)
sysex_packets-pending c n e (x ∷ y ∷ []) [] few f le =
    From-append n (part_packets c e (x ∷ y ∷ [])) [] (subst (From n) (sym (two-packets c e x y few.1)) (le, (le, tt)))
    tt
sysex_packets-pending c n e (x ∷ y ∷ []) (z ∷ xs) few f le = (f.0, sysex_packets-From c n e xs f.1 le)
sysex_packets-pending c n e (x ∷ y ∷ z ∷ q) xs few f le = absurd few

pub rest_of_sysex-outside : (i : ℕ) (ms : List Sign) → Suited false ms → rest_of_sysex i ms ≡ []
rest_of_sysex-outside i [] s = refl
rest_of_sysex-outside i (ShortSign a b c ∷ ms) s = refl
rest_of_sysex-outside i (RtSign b ∷ ms) s = rest_of_sysex-outside (i + 1) ms s.1
rest_of_sysex-outside i (OpenSign ∷ ms) s = refl
rest_of_sysex-outside i (ByteSign b ∷ ms) s = absurd (false≢true s.0)
rest_of_sysex-outside i (EndSign ∷ ms) s = absurd (false≢true s.0)
rest_of_sysex-outside i (AbortSign ∷ ms) s = refl
