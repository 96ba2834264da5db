-- The steps of the readers of USB packets, by the law of readers of packets of any kind.
use Rattle.std.proofs.Common.{◌≡◌, ℕ, zero, suc, ◌+◌, ◌/◌, ◌<◌, ◌≢◌, Option, Some, None, List, [], ◌∷◌, ◌++◌, length}
use Rattle.std.proofs.Common.{map, take, drop, refl, sym, ◌∙◌, ap, ap₂, subst, arith}
use Rattle.std.proofs.lemmas.List.{take-append-drop, length-take}
use Rattle.mb_message.specs.declared.note.Note.{Note}
use Rattle.mb_stream.specs.Told.{Told, Notes}
use Rattle.mb_din.specs.State.{State}
use Rattle.mb_ports.specs.Events.{Ported}
use Rattle.mb_ports.specs.Machine.{under_from, due_after}
use Rattle.mb_ports.specs.Reader.{Whole, Holds, all_known, bare}
use Rattle.mb_stream.specs.ReaderLaw.{Tells, AllTold}
use Rattle.mb_ports.proofs.MachineLaw.{LowPorts}
use Rattle.mb_ports.proofs.ReaderLaw.{whole, tells-due, tells-pass, all_told-none}
use Rattle.mb_ports.proofs.CarryLaw.{Call, tells-carry}
use Rattle.mb_usb.specs.declared.under.Under.{Under}
use Rattle.mb_usb.specs.declared.under.Packets.{Packets}
use Rattle.mb_usb.specs.Under.{left_of, head_of, packet_after, packet_behind}
use Rattle.mb_usb.specs.Hands.{Hands, piece_of}
use Rattle.mb_usb.specs.Cables.{notes_in, port_by, usb, whole_of}
use Rattle.mb_usb.proofs.HandsLemmas.{packet_behind-offset}
use Rattle.mb_usb.proofs.CablesLaw.{steady}

-- a packet without a note that is due
plain : (p : Packets) (rs : ℕ → State) → p.due ≡ None → whole_of p rs ≡ whole p.offset p.under [] rs
plain p rs e = ap (λ (d : Option Note). whole p.offset p.under (notes_in d) rs) e

abbrev HoldsAt : (ℕ → Option ℕ) → ℕ → Packets → (ℕ → State) → List ℕ → List Ported → Type 0
HoldsAt f n p rs bytes told = Holds (usb f) n (whole_of p rs) bytes told

pub step-due : (f : ℕ → Option ℕ) (n : ℕ) → LowPorts (usb f) n → (p q : Packets) (rs : ℕ → State) (x : Note)
    (input : List ℕ) → p.due ≡ Some x → q ≡ record p { due = None } →
    Tells bare (all_known (usb f) n) (HoldsAt f n p rs) (HoldsAt f n q rs) input input ((None, Notes x.at x.kind) ∷ [])
step-due f n lows p q rs x input e same =
    subst (λ (z : Packets). Tells bare (all_known (usb f) n) (HoldsAt f n p rs) (HoldsAt f n z rs) input input
    ((None, Notes x.at x.kind) ∷ [])) (sym same)
    (tells-due (usb f) n lows p.offset p.under rs input (notes_in p.due) [] x (ap notes_in e))

-- nothing was due
pub same-undue : (p q : Packets) → p.due ≡ None → q ≡ record p { due = None } → p ≡ q
same-undue p q e same = ap (λ (d : Option Note). record { offset = p.offset; under = p.under; due = d }) e ∙ sym same

pub step-pass : (f : ℕ → Option ℕ) (n : ℕ) → LowPorts (usb f) n → (p q : Packets) (rs : ℕ → State) (b : ℕ) (input left :
    List ℕ) → p.due ≡ None → port_by (left_of p.under) (f (head_of p.under / 16)) ≡ None → q ≡ packet_after p b →
    input ≡ b ∷ left →
    Tells bare (all_known (usb f) n) (HoldsAt f n p rs) (HoldsAt f n q rs) input left []
step-pass f n lows p q rs b input left due none same front =
    subst (λ (z : List ℕ). Tells bare (all_known (usb f) n) (HoldsAt f n p rs) (HoldsAt f n q rs) z left []) (sym front)
    (subst (λ (z : Packets). Tells bare (all_known (usb f) n) (HoldsAt f n p rs) (HoldsAt f n z rs) (b ∷ left) left [])
    (sym same)
    (subst (λ (z : Whole Under). Tells bare (all_known (usb f) n) (Holds (usb f) n z) (HoldsAt f n (packet_after p b)
    rs) (b ∷ left) left []) (sym (plain p rs due))
    (tells-pass (usb f) n lows p.offset p.under rs b left none)))

behind-under : (f : ℕ → Option ℕ) (p : Packets) (bs : List ℕ) → (packet_behind p bs).under ≡ under_from (usb f) p.under
    bs
behind-under f p [] = refl
behind-under f p (b ∷ bs) = behind-under f (packet_after p b) bs

behind-due : (f : ℕ → Option ℕ) (p : Packets) (bs : List ℕ) → notes_in (packet_behind p bs).due ≡ due_after (usb f)
    p.under (notes_in p.due) p.offset bs
behind-due f p [] = refl
behind-due f p (b ∷ bs) = behind-due f (packet_after p b) bs

behind-whole : (f : ℕ → Option ℕ) (p : Packets) (rs : ℕ → State) (bs : List ℕ) → p.due ≡ None →
    whole (p.offset + length bs) (under_from (usb f) p.under bs) (due_after (usb f) p.under [] p.offset bs) rs ≡
    whole_of (packet_behind p bs) rs
behind-whole f p rs bs due =
    let o : p.offset + length bs ≡ (packet_behind p bs).offset = sym (packet_behind-offset p bs) in
    let u : under_from (usb f) p.under bs ≡ (packet_behind p bs).under = sym (behind-under f p bs) in
    let d : due_after (usb f) p.under [] p.offset bs ≡ notes_in (packet_behind p bs).due =
    ap (λ (z : Option Note). due_after (usb f) p.under (notes_in z) p.offset bs) (sym due) ∙ sym (behind-due f p bs) in
    ap₂ (λ (z : ℕ) (v : Under). whole z v (due_after (usb f) p.under [] p.offset bs) rs) o u ∙
    ap (λ (z : List Note). whole (packet_behind p bs).offset (packet_behind p bs).under z rs) d

-- the piece has a byte, and no more than the packet still carries
piece-some : (left : ℕ) (b : ℕ) (rest : List ℕ) → left ≢ 0 → 0 < length (take left (b ∷ rest))
piece-some zero b rest h = absurd (h refl)
piece-some (suc left) b rest h = omega arith

pub step-carry : (f : ℕ → Option ℕ) (n : ℕ) → LowPorts (usb f) n → (p q : Packets) (rs readers : ℕ → State) (port b : ℕ)
    (input rest left : List ℕ) (answer : List Told) → p.due ≡ None →
    port_by (left_of p.under) (f (head_of p.under / 16)) ≡ Some port → left_of p.under ≢ 0 → input ≡ b ∷ rest →
    Hands p q (rs port) (readers port) input left answer → ((c : ℕ) → c < n → (c ≡ port → ⊥) → readers c ≡ rs c) →
    Tells bare (all_known (usb f) n) (HoldsAt f n p rs) (HoldsAt f n q readers) input left (map (λ t. (Some port, t))
    answer)
step-carry f n lows p q rs readers port b input rest left answer due here over first h others =
    let many = left_of p.under in
    let seen = map (λ t. (Some port, t)) answer in
    let call : Call (usb f) n p.offset p.under rs readers port many (piece_of p input) h.kept h.taken answer = record {
      steady = steady f p.under port here;
      fits = omega (arith, length-take many input);
      some = subst (λ (z : List ℕ). 0 < length (take many z)) (sym first) (piece-some many b rest over);
      cut = h.piece;
      offset = h.offset;
      stays = h.stays;
      says = h.says;
      others = others;
    } in
    let tells = tells-carry (usb f) n lows p.offset p.under rs readers port many (piece_of p input) (drop many input)
    h.kept h.taken answer call in
    subst (λ (z : Packets). Tells bare (all_known (usb f) n) (HoldsAt f n p rs) (HoldsAt f n z readers) input left seen)
    (sym h.packet)
    (subst (λ (z : List ℕ). Tells bare (all_known (usb f) n) (HoldsAt f n p rs) (HoldsAt f n (packet_behind p h.taken)
    readers) input z seen) (sym h.left_is)
    (subst (λ (z : List ℕ). Tells bare (all_known (usb f) n) (HoldsAt f n p rs) (HoldsAt f n (packet_behind p h.taken)
    readers) z (h.kept ++ drop many input) seen) (take-append-drop many input)
    (subst (λ (z : Whole Under). Tells bare (all_known (usb f) n) (HoldsAt f n p rs) (Holds (usb f) n z)
    (piece_of p input ++ drop many input) (h.kept ++ drop many input) seen) (behind-whole f p readers h.taken due)
    (subst (λ (z : Whole Under). Tells bare (all_known (usb f) n) (Holds (usb f) n z)
    (Holds (usb f) n (whole (p.offset + length h.taken) (under_from (usb f) p.under h.taken)
    (due_after (usb f) p.under [] p.offset h.taken) readers)) (piece_of p input ++ drop many input) (h.kept ++
    drop many input) seen) (sym (plain p rs due))
    tells))))

pub step-none : (f : ℕ → Option ℕ) (n : ℕ) (q : Packets) (rs : ℕ → State) (was : List ℕ → List Ported → Type 0)
    (input : List ℕ) → q.due ≡ None →
    Tells bare (all_known (usb f) n) was (HoldsAt f n q rs) input [] [] → AllTold (all_known (usb f) n) was input
step-none f n q rs was input due tells =
    all_told-none (usb f) n q.offset q.under rs was input (subst (λ (z : Whole Under). Tells bare (all_known (usb f) n)
    was (Holds (usb f) n z) input [] []) (plain q rs due) tells)
