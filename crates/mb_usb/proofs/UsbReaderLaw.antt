-- The public contract of the readers of USB packets, from the law of their packets.
use Rattle.std.proofs.Common.{◌≡◌, ℕ, ◌+◌, ◌%◌, ◌<◌, Option, None, IfNone, List, [], ◌∷◌, length, get_or, refl, sym}
use Rattle.std.proofs.Common.{◌∙◌, ap, subst, arith}
use Rattle.std.proofs.lemmas.List.{get_or_default}
use Rattle.mb_stream.specs.Payload.{Entry}
use Rattle.mb_stream.specs.Groups.{last_of}
use Rattle.mb_stream.specs.Told.{Told, at_end}
use Rattle.mb_stream.specs.Reading.{so_far}
use Rattle.mb_din.specs.Reader.{Stands}
use Rattle.mb_din.specs.State as din
use Rattle.mb_din.specs.State.{State}
use Rattle.mb_ports.specs.Events.{Ported, port_payload}
use Rattle.mb_ports.specs.Machine.{events, under_from}
use Rattle.mb_ports.specs.Reader.{all_known, bare}
use Rattle.mb_stream.specs.ReaderLaw.{Tells, AllTold}
use Rattle.mb_ports.proofs.ReaderLaw.{start-holds, finish-stands}
use Rattle.mb_usb.specs.declared.under.Under.TheVariants.{Between}
use Rattle.mb_usb.specs.declared.under.Packets.{Packets}
use Rattle.mb_usb.specs.Reading.{cable_payload}
use Rattle.mb_usb.specs.Under.{taken_of}
use Rattle.mb_usb.specs.State.{UsbState, reader_at}
use Rattle.mb_usb.specs.Cables.{all_cables_so_far, notes_in, usb, each_cable, UsbHolds, UsbStands, UsbTells, UsbAllTold}
use Rattle.mb_usb.proofs.CablesLaw.{each_low, each_law, each-payload}

abbrev pub usb_state : Packets → List State → UsbState
usb_state packet readers = record { packet = packet; readers = readers }

pub next-tells : (was : UsbState) (p q : Packets) (dins next : List State) (input left : List ℕ)
    (seen : List (Option ℕ × Told)) → usb_state p dins ≡ was →
    Tells bare all_cables_so_far (UsbHolds p dins) (UsbHolds q next) input left seen → UsbTells was (usb_state q next)
    input left seen
next-tells was p q dins next input left seen e tells =
    subst (λ (s : UsbState). UsbTells s (usb_state q next) input left seen) e tells

pub next-all_told : {X : Type 0} (was : UsbState) (p : Packets) (dins : List State) (input : List ℕ)
    (result : Option X) → usb_state p dins ≡ was →
    IfNone result (AllTold all_cables_so_far (UsbHolds p dins) input) → IfNone result (UsbAllTold was input)
next-all_told was p dins input result e all = subst (λ (s : UsbState). IfNone result (UsbAllTold s input)) e all

-- `was` is the reader when it had told all that is known of the bytes; of other cables since then perhaps the end was
-- told
pub finish-told : (was : UsbState) (dins : List State) (cable : ℕ) (d : State) (answer : List Told) →
    reader_at dins cable ≡ reader_at was.readers cable → cable < 16 → cable < length dins →
    ((es : List Entry) → Stands (get_or dins cable d) es (so_far es) → answer ≡ at_end (last_of es)) →
    (bytes : List ℕ) → UsbStands was bytes (all_cables_so_far bytes) →
    answer ≡ at_end (last_of (cable_payload cable bytes))
finish-told was dins cable d answer same low here says bytes h =
    let p = was.packet in
    let known : UsbHolds p was.readers bytes (all_known (usb each_cable) 16 bytes) =
    subst (UsbHolds p was.readers bytes) (sym (each_law bytes)) h in
    let stands : Stands (reader_at was.readers cable) (port_payload cable (events (usb each_cable) bytes))
    (so_far (port_payload cable (events (usb each_cable) bytes))) =
    finish-stands (usb each_cable) 16 each_low p.offset p.under (notes_in p.due) (reader_at was.readers) bytes known
    cable low in
    let own : Stands (reader_at was.readers cable) (cable_payload cable bytes) (so_far (cable_payload cable bytes)) =
    subst (λ es. Stands (reader_at was.readers cable) es (so_far es)) (each-payload cable bytes low) stands in
    says (cable_payload cable bytes) (subst (λ (s : State). Stands s (cable_payload cable bytes)
    (so_far (cable_payload cable bytes))) (sym same ∙ get_or_default dins cable din.fresh d here) own)

pub new-stands : (p : Packets) (dins : List State) → p ≡ record { offset = 0; under = Between; due = None } →
    ((c : ℕ) → c < 16 → Stands (reader_at dins c) [] []) → UsbHolds p dins [] []
new-stands p dins e fresh =
    subst (λ (z : Packets). UsbHolds z dins [] []) (sym e) (start-holds (usb each_cable) 16 (reader_at dins)
    (omega arith) fresh)

-- How much of a packet was taken.
four-more : (n : ℕ) → (n + 4) % 4 ≡ n % 4
four-more n = omega arith

pub taken-from : (port_of : ℕ → Option ℕ) (bytes : List ℕ) → taken_of (under_from (usb port_of) Between bytes) ≡
    length bytes % 4
taken-from f [] = refl
taken-from f (h ∷ []) = refl
taken-from f (h ∷ a ∷ []) = refl
taken-from f (h ∷ a ∷ b ∷ []) = refl
taken-from f (h ∷ a ∷ b ∷ c ∷ bs) =
    let four : length bs + 4 ≡ length (h ∷ a ∷ b ∷ c ∷ bs) = omega arith in
    taken-from f bs ∙ (sym (four-more (length bs)) ∙ ap (λ n. n % 4) four)

pub partial-is : (was : UsbState) (p : Packets) (dins : List State) (result : ℕ) → usb_state p dins ≡ was →
    result ≡ taken_of p.under →
    (bytes : List ℕ) (told : List Ported) → UsbStands was bytes told → result ≡ length bytes % 4
partial-is was p dins result e taken bytes told h =
    let holds : UsbHolds p dins bytes told = subst (λ (s : UsbState). UsbStands s bytes told) (sym e) h in
    taken ∙ (ap taken_of holds.under ∙ taken-from each_cable bytes)
