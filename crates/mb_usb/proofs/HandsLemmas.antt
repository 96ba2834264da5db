-- Bytes of the packet under way, handed to their cable's reader: which they are, and what is left.
use Rattle.std.proofs.Common.{◌≡◌, ℕ, zero, suc, ◌+◌, ◌-◌, ◌≤◌, inl, inr, min, List, [], ◌∷◌, ◌++◌, length, take, drop}
use Rattle.std.proofs.Common.{refl, sym, ◌∙◌, ap, ap₂, subst, arith, append_assoc, length-append}
use Rattle.std.proofs.Math.Seq.{take-length, drop-length, take-append_seam, drop-append_seam}
use Rattle.std.proofs.lemmas.List.{take-append-drop}
use Rattle.std.proofs.lemmas.Bool.{cases_lt}
use Rattle.mb_stream.specs.Payload.{Entry}
use Rattle.mb_stream.specs.Told.{Told}
use Rattle.mb_stream.specs.Reading.{so_far}
use Rattle.mb_din.specs.Reader.{Stands, IsFrontTaken, NextSays}
use Rattle.mb_din.specs.State.{State}
use Rattle.mb_usb.specs.declared.under.Packets.{Packets}
use Rattle.mb_usb.specs.Under.{left_of, packet_after, packet_behind}
use Rattle.mb_usb.specs.Hands.{Hands, piece_of, placed}

pub take-all : (l : ℕ) (xs : List ℕ) → length xs ≤ l → take l xs ≡ xs
take-all zero [] h = refl
take-all (suc l) [] h = refl
take-all zero (x ∷ xs) h = absurd (omega arith)
take-all (suc l) (x ∷ xs) h = ap (λ z. x ∷ z) (take-all l xs (omega arith))

pub drop-all : (l : ℕ) (xs : List ℕ) → length xs ≤ l → drop l xs ≡ []
drop-all zero [] h = refl
drop-all (suc l) [] h = refl
drop-all zero (x ∷ xs) h = absurd (omega arith)
drop-all (suc l) (x ∷ xs) h = drop-all l xs (omega arith)

pub take-min : (xs : List ℕ) (l : ℕ) → take (min (length xs) l) xs ≡ take l xs
take-min xs l = elim (cases_lt l (length xs)) [
  | inl less ↦ let e : min (length xs) l ≡ l = omega arith in ap (λ z. take z xs) e
  | inr more ↦ let e : min (length xs) l ≡ length xs = omega arith in ap (λ z. take z xs) e ∙
      (take-length xs ∙ sym (take-all l xs more))
]

pub drop-min : (xs : List ℕ) (l : ℕ) → drop (min (length xs) l) xs ≡ drop l xs
drop-min xs l = elim (cases_lt l (length xs)) [
  | inl less ↦ let e : min (length xs) l ≡ l = omega arith in ap (λ z. drop z xs) e
  | inr more ↦ let e : min (length xs) l ≡ length xs = omega arith in ap (λ z. drop z xs) e ∙
      (drop-length xs ∙ sym (drop-all l xs more))
]

pub packet_behind-offset : (p : Packets) (bs : List ℕ) → (packet_behind p bs).offset ≡ p.offset + length bs
packet_behind-offset p [] = let e : p.offset ≡ p.offset + 0 = omega arith in e
packet_behind-offset p (b ∷ bs) = let e : p.offset + 1 + length bs ≡ p.offset + length (b ∷ bs) = omega arith in
    packet_behind-offset (packet_after p b) bs ∙ e

-- a front of a front
pub hands-kept : (was now : Packets) (reader put next : State) (input piece kept taken behind : List ℕ) (n : ℕ)
    (answer : List Told) →
    piece ≡ take (min (length input) (left_of was.under)) input → put ≡ placed was reader →
    IsFrontTaken put next piece kept →
    n ≡ length piece - length kept → taken ≡ take n input → behind ≡ drop n input → now ≡ packet_behind was taken →
    ((es : List Entry) → Stands reader es (so_far es) → Stands put es (so_far es)) →
    NextSays put next piece kept answer →
    (h : Hands was now reader next input behind answer) × (h.kept ≡ kept)
hands-kept was now reader put next input piece kept taken behind n answer p at front count t l passed stays says =
    let left = left_of was.under in
    let piece_is : piece ≡ piece_of was input = p ∙ take-min input left in
    let all : input ≡ front.0 ++ (kept ++ drop left input) =
    sym (take-append-drop left input) ∙ (ap (λ z. z ++ drop left input) (sym piece_is ∙ front.1) ∙
    append_assoc front.0 kept (drop left input)) in
    let many : n ≡ length front.0 = omega (arith, ap length front.1, length-append front.0 kept) in
    let taken_is : taken ≡ front.0 = t ∙ (ap₂ take many all ∙ take-append_seam front.0 (kept ++ drop left input)) in (
      record {
        taken = front.0;
        kept = kept;
        piece = sym piece_is ∙ front.1;
        left_is = l ∙ (ap₂ drop many all ∙ drop-append_seam front.0 (kept ++ drop left input));
        packet = passed ∙ ap (packet_behind was) taken_is;
        offset = front.2 ∙ ap (λ (s : State). s.offset + length front.0) at;
        stays = λ es s. subst (λ z. Stands z es (so_far es)) at (stays es s);
        says = subst (λ z. NextSays z next (piece_of was input) kept answer) at
            (subst (λ z. NextSays put next z kept answer) piece_is says);
      },
      refl,
    )

pub hands-end : (was now : Packets) (reader next : State) (input left : List ℕ) (answer : List Told) →
    Hands was now reader next input left answer →
    now.offset + length left ≡ was.offset + length input
hands-end was now reader next input left answer h =
    let rest = drop (left_of was.under) input in
    let at : now.offset ≡ was.offset + length h.taken = ap (λ (z : Packets). z.offset) h.packet ∙
    packet_behind-offset was h.taken in
    let all : length input ≡ length (piece_of was input) + length rest =
    ap length (sym (take-append-drop (left_of was.under) input)) ∙ length-append (piece_of was input) rest in
    let piece : length (piece_of was input) ≡ length h.taken + length h.kept = ap length h.piece ∙
    length-append h.taken h.kept in
    let behind : length left ≡ length h.kept + length rest = ap length h.left_is ∙ length-append h.kept rest in
    omega arith

pub hands-at : (was now : Packets) (reader next : State) (input left : List ℕ) (answer : List Told) →
    Hands was now reader next input left answer → next.offset ≡ now.offset
hands-at was now reader next input left answer h =
    h.offset ∙ sym (ap (λ (z : Packets). z.offset) h.packet ∙ packet_behind-offset was h.taken)
