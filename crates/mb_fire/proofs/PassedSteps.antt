-- The steps of a reader of one port over bytes that are passed over in one go.
use Rattle.std.proofs.Common.{◌≡◌, ℕ, ◌+◌, None, List, [], ◌∷◌, ◌++◌, length, refl, sym, ◌∙◌, ap, subst, arith}
use Rattle.std.proofs.Common.{length-append}
use Rattle.mb_din.specs.State.{State}
use Rattle.mb_fire.specs.declared.due.Due.{Due}
use Rattle.mb_fire.specs.declared.due.Due.TheVariants.{Nothing}
use Rattle.mb_fire.specs.declared.under.Packets.{Packets}
use Rattle.mb_fire.specs.Passed.{ArePassed, PassedOver}
use Rattle.mb_fire.specs.State.{IsBehind}
use Rattle.mb_fire.specs.Under.{due_first, due_rest, packet_after, packet_behind}
use Rattle.mb_fire.proofs.HandsLemmas.{packet_behind-offset}
use Rattle.mb_fire.proofs.OnlyPort.{OnlyTells, then-none, then-pass, pass-behind, undue-behind}

-- with nothing due there is nothing to take
undue-same : (p : Packets) → p.due ≡ Nothing → p ≡ record p { due = due_rest p.due }
undue-same p e = ap (λ (d : Due). record p { due = d }) (e ∙ sym (ap due_rest e))

then-passed : (w : ℕ) (a p : Packets) (x r : State) (start taken left : List ℕ) →
    OnlyTells w a x p r start (taken ++ left) [] → ArePassed w p taken →
    OnlyTells w a x (packet_behind p taken) r start left []
then-passed w a p x r start [] left before passed = before
then-passed w a p x r start (b ∷ bs) left before passed =
    then-passed w a (packet_after p b) x r start bs left
    (then-pass w a p p (packet_after p b) x r start (b ∷ (bs ++ left)) (bs ++ left) b before (ap due_first passed.0)
    (undue-same p passed.0) passed.1 refl refl)
    passed.2

pub then-over : (w : ℕ) (a p q t : Packets) (x r : State) (start input left : List ℕ) →
    OnlyTells w a x p r start input [] → due_first p.due ≡ None → q ≡ record p { due = due_rest p.due } →
    PassedOver w q t input left →
    OnlyTells w a x t r start left []
then-over w a p q t x r start input left before due same h =
    let at_q : OnlyTells w a x q r start input [] = then-none w a p q x r start input before due same in
    subst (λ (z : Packets). OnlyTells w a x z r start left []) (sym h.behind)
    (then-passed w a q x r start h.taken left (subst (λ (z : List ℕ). OnlyTells w a x q r start z []) h.front at_q)
    h.passed)

passed-behind : (w : ℕ) (p : Packets) (r : State) (taken : List ℕ) → IsBehind p r → ArePassed w p taken →
    IsBehind (packet_behind p taken) r
passed-behind w p r [] h passed = h
passed-behind w p r (b ∷ bs) h passed =
    passed-behind w (packet_after p b) r bs (pass-behind p p (packet_after p b) r b h (undue-same p passed.0) refl)
    passed.2

pub over-behind : (w : ℕ) (p q t : Packets) (r : State) (input left : List ℕ) → IsBehind p r →
    q ≡ record p { due = due_rest p.due } → PassedOver w q t input left → IsBehind t r
over-behind w p q t r input left h same over =
    subst (λ (z : Packets). IsBehind z r) (sym over.behind)
    (passed-behind w q r over.taken (undue-behind p q r h same) over.passed)

pub over-ends : (w : ℕ) (q t : Packets) (input left : List ℕ) → PassedOver w q t input left → t.offset + length left
    ≡ q.offset + length input
over-ends w q t input left h =
    omega (
      arith,
      ap (λ (z : Packets). z.offset) h.behind,
      packet_behind-offset q h.taken,
      ap length h.front,
      length-append h.taken left,
    )
