-- A run is the longest that stands side by side: what is left of the packet's bytes, and stands in the input, begins
-- with no data.
use Rattle.std.proofs.Common.{◌≡◌, ℕ, ◌+◌, ◌-◌, ◌%◌, ◌<◌, ◌≤◌, inl, inr, Bool, true, false, ◌||◌, ◌==◌, nat_le}
use Rattle.std.proofs.Common.{if◌then◌else◌, Option, IfSome, min, List, [], ◌∷◌, ◌++◌, length, take, drop, refl, sym}
use Rattle.std.proofs.Common.{◌∙◌, ap, ap₂, subst, arith, length-append}
use Rattle.std.proofs.Math.Seq.{take-append_seam}
use Rattle.std.proofs.lemmas.List.{append-nil, length-take}
use Rattle.std.proofs.lemmas.Bool.{cases_lt}
use Rattle.mb_message.specs.declared.event.Seen.{Seen}
use Rattle.mb_stream.specs.Told.{Told}
use Rattle.mb_stream.specs.ReaderLaw.{IsLongest, StatusNext, answer}
use Rattle.mb_din.specs.State.{State}
use Rattle.mb_usb.specs.declared.under.Under.{Under}
use Rattle.mb_usb.specs.declared.under.Under.TheVariants.{Between, One, Two, Three}
use Rattle.mb_usb.specs.declared.under.Packets.{Packets}
use Rattle.mb_usb.specs.Reading.{used}
use Rattle.mb_usb.specs.Under.{left_of, under_after, packet_after, packet_behind}
use Rattle.mb_usb.specs.Hands.{Hands}
use Rattle.mb_usb.proofs.HandsLemmas.{take-all, drop-all}

pub used-three : (n : ℕ) → used n ≤ 3
used-three n = by_tests (nat_le n 1) ((n == 5) || (n == 15)) ((n == 2) || (n == 6) || (n == 12) || (n == 13)) where
  by_tests : (a b c : Bool) → (if a then 0 else (if b then 1 else (if c then 2 else 3))) ≤ 3
  by_tests true b c = omega arith
  by_tests false true c = omega arith
  by_tests false false true = omega arith
  by_tests false false false = omega arith

left-after : (u : Under) (b : ℕ) → 0 < left_of u → left_of (under_after u b) ≡ left_of u - 1
left-after Between b h = absurd (omega arith)
left-after (One h) b some = refl
left-after (Two h a) b some = omega arith
left-after (Three h a b) c some = omega (arith, used-three (h % 16))

left-behind : (p : Packets) (ts : List ℕ) → length ts ≤ left_of p.under → left_of (packet_behind p ts).under ≡
    left_of p.under - length ts
left-behind p [] h = omega arith
left-behind p (b ∷ bs) h =
    let one : left_of (packet_after p b).under ≡ left_of p.under - 1 = left-after p.under b (omega arith) in
    let rest : left_of (packet_behind (packet_after p b) bs).under ≡ left_of (packet_after p b).under - length bs =
    left-behind (packet_after p b) bs (omega arith) in
    omega arith

-- what was not taken of the piece is what still stands there of the packet's bytes
pub kept-is : (was now : Packets) (r s : State) (input left : List ℕ) (told : List Told) (h : Hands was now r s input
    left told) → take (left_of now.under) left ≡ h.kept
kept-is was now r s input left told h =
    let many = left_of was.under in
    let lengths : length h.taken + length h.kept ≡ min many (length input) = omega (
      arith,
      length-append h.taken h.kept,
      ap length h.piece,
      length-take many input,
    ) in
    let less : left_of now.under ≡ many - length h.taken = ap (λ (z : Packets). left_of z.under) h.packet ∙
    left-behind was h.taken (omega arith) in
    ap₂ take less h.left_is ∙
    (elim (cases_lt (length input) many) [
      | inl short ↦
          ap (λ z. take (many - length h.taken) (h.kept ++ z)) (drop-all many input (omega arith)) ∙
          (ap (take (many - length h.taken)) (append-nil h.kept) ∙ take-all (many - length h.taken) h.kept
          (omega arith))
      | inr long ↦
          let all : many - length h.taken ≡ length h.kept = omega arith in
          ap (λ z. take z (h.kept ++ drop many input)) all ∙ take-append_seam h.kept (drop many input)
    ])

pub longest : (was now : Packets) (r s : State) (input left kept : List ℕ) (seen : Option Seen)
    (h : Hands was now r s input left (answer seen)) → h.kept ≡ kept → IfSome seen (IsLongest kept) →
    IfSome seen (IsLongest (take (left_of now.under) left))
longest was now r s input left kept seen h e run =
    subst (λ z. IfSome seen (IsLongest z)) (sym (kept-is was now r s input left (answer seen) h ∙ e)) run

-- a status that stands in the packet's bytes stands in the input
pub status-stays : (kept more : List ℕ) → StatusNext kept → StatusNext (kept ++ more)
status-stays [] more h = absurd h
status-stays (b ∷ bs) more h = h
