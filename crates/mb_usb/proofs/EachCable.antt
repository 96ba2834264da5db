-- The steps of the reader of all cables, behind what its loop did before.
use Rattle.std.proofs.Common.{◌≡◌, ℕ, ◌/◌, ◌<◌, ◌≢◌, Bool, true, false, ◌==◌, if◌then◌else◌, Option, Some, None, List}
use Rattle.std.proofs.Common.{[], ◌∷◌, map, refl, sym, ap, subst}
use Rattle.std.proofs.lemmas.Bool.{lt-ltb, eqb-true}
use Rattle.mb_message.specs.declared.note.Note.{Note}
use Rattle.mb_message.specs.declared.event.Seen.{Seen}
use Rattle.mb_message.specs.declared.event.PortSeen.TheVariants.{Unit}
use Rattle.mb_stream.specs.Told.{Told}
use Rattle.mb_stream.proofs.ReaderLemmas.{tells-refl, tells-trans, tells-as, all_told-as}
use Rattle.mb_din.specs.State.{State}
use Rattle.mb_stream.specs.ReaderLaw.{answer, Tells, AllTold}
use Rattle.mb_ports.specs.Events.{Ported}
use Rattle.mb_ports.specs.Reader.{all_known, port_answer, bare}
use Rattle.mb_usb.specs.declared.under.Packets.{Packets}
use Rattle.mb_usb.specs.Under.{left_of, head_of, packet_after}
use Rattle.mb_usb.specs.Hands.{Hands}
use Rattle.mb_usb.specs.State.{reader_at}
use Rattle.mb_usb.specs.Cables.{all_cables_so_far, port_by, usb, each_cable, UsbHolds}
use Rattle.mb_usb.proofs.CablesLaw.{each_low, each_law}
use Rattle.mb_usb.proofs.Steps.{same-undue, step-due, step-pass, step-carry, step-none}

each-tells : (was now : List ℕ → List Ported → Type 0) (input left : List ℕ) (seen : List (Option ℕ × Told)) →
    Tells bare (all_known (usb each_cable) 16) was now input left seen → Tells bare all_cables_so_far was now input left
    seen
each-tells was now input left seen tells = tells-as bare (all_known (usb each_cable) 16) all_cables_so_far was now input
    left seen each_law tells

undue : (p q : Packets) (dins : List State) → p.due ≡ None → q ≡ record p { due = None } →
    UsbHolds p dins ≡ UsbHolds q dins
undue p q dins e same = ap (λ (z : Packets). UsbHolds z dins) (same-undue p q e same)

not-carried : (left : ℕ) (port : Option ℕ) → left ≡ 0 → port_by left port ≡ None
not-carried left port e = ap (λ z. port_by z port) e

pub carried-by : (left : ℕ) (port : Option ℕ) (p : ℕ) → left ≢ 0 → port ≡ Some p → port_by left port ≡ Some p
carried-by left port p over e = by_test (left == 0) refl where
  by_test : (t : Bool) → (left == 0) ≡ t → (if t then None else port) ≡ Some p
  by_test true z = absurd (over (eqb-true left 0 z))
  by_test false z = e

each-is : (h p : ℕ) → p ≡ h → p < 16 → each_cable h ≡ Some p
each-is h p e low =
    subst (λ z. each_cable z ≡ Some p) e (ap (λ t. if t then Some p else None) (lt-ltb p 16 low))

pub then-due : (was : List ℕ → List Ported → Type 0) (start input : List ℕ) (p q : Packets) (dins : List State)
    (x : Note) → Tells bare all_cables_so_far was (UsbHolds p dins) start input [] →
    p.due ≡ Some x → q ≡ record p { due = None } → Tells bare all_cables_so_far was (UsbHolds q dins) start input
    (port_answer (Some (Unit x)))
then-due was start input p q dins x tells due same =
    tells-trans bare all_cables_so_far was (UsbHolds p dins) (UsbHolds q dins) start input input []
    (port_answer (Some (Unit x))) tells
    (each-tells (UsbHolds p dins) (UsbHolds q dins) input input (port_answer (Some (Unit x)))
    (step-due each_cable 16 each_low p q (reader_at dins) x input due same))

pub then-pass : (was : List ℕ → List Ported → Type 0) (start input rest : List ℕ) (p q r : Packets) (dins : List State)
    (b : ℕ) → Tells bare all_cables_so_far was (UsbHolds p dins) start input [] →
    p.due ≡ None → q ≡ record p { due = None } → left_of q.under ≡ 0 → r ≡ packet_after q b → input ≡ b ∷ rest →
    Tells bare all_cables_so_far was (UsbHolds r dins) start rest []
then-pass was start input rest p q r dins b tells due same none after first =
    tells-trans bare all_cables_so_far was (UsbHolds p dins) (UsbHolds r dins) start input rest [] [] tells
    (subst (λ (z : List ℕ → List Ported → Type 0). Tells bare all_cables_so_far z (UsbHolds r dins) input rest [])
    (sym (undue p q dins due same))
    (each-tells (UsbHolds q dins) (UsbHolds r dins) input rest [] (step-pass each_cable 16 each_low q r (reader_at dins)
    b input rest (ap (λ (z : Packets). z.due) same) (not-carried (left_of q.under)
    (each_cable (head_of q.under / 16)) none) after first)))

pub then-carry : (was : List ℕ → List Ported → Type 0) (start input rest left : List ℕ) (p q r : Packets)
    (dins next : List State) (port b : ℕ) (seen : Option Seen) → Tells bare all_cables_so_far was (UsbHolds p dins)
    start input [] →
    p.due ≡ None → q ≡ record p { due = None } → left_of q.under ≢ 0 → port ≡ head_of q.under / 16 → port < 16 →
    input ≡ b ∷ rest → Hands q r (reader_at dins port) (reader_at next port) input left (answer seen) →
    ((c : ℕ) → (c ≡ port → ⊥) → reader_at next c ≡ reader_at dins c) → Tells bare all_cables_so_far was
    (UsbHolds r next) start left (map (λ t. (Some port, t)) (answer seen))
then-carry was start input rest left p q r dins next port b seen tells due same over at low first hands others =
    let told = map (λ t. (Some port, t)) (answer seen) in
    tells-trans bare all_cables_so_far was (UsbHolds p dins) (UsbHolds r next) start input left [] told tells
    (subst (λ (z : List ℕ → List Ported → Type 0). Tells bare all_cables_so_far z (UsbHolds r next) input left told)
    (sym (undue p q dins due same))
    (each-tells (UsbHolds q dins) (UsbHolds r next) input left told
    (step-carry each_cable 16 each_low q r (reader_at dins) (reader_at next) port b input rest left (answer seen)
    (ap (λ (z : Packets). z.due) same)
    (carried-by (left_of q.under) (each_cable (head_of q.under / 16)) port over (each-is (head_of q.under / 16) port at
    low)) over first hands (λ c low_port apart. others c apart))))

pub then-none : (was : List ℕ → List Ported → Type 0) (start input : List ℕ) (p q : Packets) (dins : List State) →
    Tells bare all_cables_so_far was (UsbHolds p dins) start input [] →
    p.due ≡ None → q ≡ record p { due = None } → Tells bare all_cables_so_far was (UsbHolds q dins) start input []
then-none was start input p q dins tells due same =
    subst (λ (z : List ℕ → List Ported → Type 0). Tells bare all_cables_so_far was z start input [])
    (undue p q dins due same) tells

pub then-all_told : (was : List ℕ → List Ported → Type 0) (start input : List ℕ) (q : Packets) (dins : List State) →
    Tells bare all_cables_so_far was (UsbHolds q dins) start input [] →
    q.due ≡ None → input ≡ [] → AllTold all_cables_so_far was start
then-all_told was start input q dins tells due none =
    all_told-as (all_known (usb each_cable) 16) all_cables_so_far was start each_law
    (step-none each_cable 16 q (reader_at dins) was start due
    (tells-as bare all_cables_so_far (all_known (usb each_cable) 16) was (UsbHolds q dins) start [] [] (λ bs.
    sym (each_law bs))
    (subst (λ (z : List ℕ). Tells bare all_cables_so_far was (UsbHolds q dins) start z []) none tells)))

pub begins : (p : Packets) (dins : List State) (input : List ℕ) → Tells bare all_cables_so_far (UsbHolds p dins)
    (UsbHolds p dins) input input []
begins p dins input = tells-refl bare all_cables_so_far (UsbHolds p dins) input
