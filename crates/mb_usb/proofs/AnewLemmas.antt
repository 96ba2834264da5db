-- A cable's end was told: its reader begins anew, and stands for the recording with the cable's packets empty.
use Rattle.std.proofs.Common.{◌≡◌, ℕ, suc, ◌+◌, ◌*◌, ◌/◌, ◌%◌, ◌<◌, ◌≢◌, Bool, true, false, ◌==◌, if◌then◌else◌, Option}
use Rattle.std.proofs.Common.{List, [], ◌∷◌, ◌++◌, length, take, flat_map, refl, sym, ◌∙◌, ap, ap₂, subst, arith}
use Rattle.std.specs.Prelude.{slice_set}
use Rattle.std.proofs.lemmas.Bool.{eqb-true}
use Rattle.std.proofs.lemmas.List.{get_or-set_same, get_or-set_other}
use Rattle.std.proofs.lemmas.Bool.Decides.{nat_tests}
use Rattle.mb_stream.specs.Payload.{Entry, heard_from}
use Rattle.mb_din.specs.Reader.{Stands}
use Rattle.mb_din.specs.State as din
use Rattle.mb_din.specs.State.{State}
use Rattle.mb_ports.specs.Machine.{under_from}
use Rattle.mb_ports.specs.Reader.{all_known}
use Rattle.mb_ports.specs.OnePort.{one_known}
use Rattle.mb_ports.proofs.ReaderLaw.{anew-holds}
use Rattle.mb_ports.proofs.OnePortLaw.{anew-one}
use Rattle.mb_usb.specs.declared.under.Under.{Under}
use Rattle.mb_usb.specs.declared.under.Under.TheVariants.{Between, One, Two, Three}
use Rattle.mb_usb.specs.declared.under.Packets.{Packets}
use Rattle.mb_usb.specs.Reading.{EventPacket, cable_of, used, heard_in, packets_from, usb_whole}
use Rattle.mb_usb.specs.Under.{taken_of}
use Rattle.mb_usb.specs.State.{UsbState, CableState, reader_at}
use Rattle.mb_usb.specs.Cables.{notes_in, usb, each_cable, only_cable, UsbHolds, CableHolds, without_cable, UsbAnew}
use Rattle.mb_usb.specs.Cables.{CableAnew}
use Rattle.mb_usb.proofs.CablesLaw.{each_low, each_law, each-payload, only_low, only_law, only-payload}
use Rattle.mb_usb.proofs.OnlyCable.{cable_state}
use Rattle.mb_usb.proofs.UsbReaderLaw.{usb_state, taken-from}

-- As long as before, and as many bytes of a packet under way.

length-without : (c : ℕ) (bytes : List ℕ) → length (without_cable c bytes) ≡ length bytes
length-without c [] = refl
length-without c (h ∷ []) = refl
length-without c (h ∷ a ∷ []) = refl
length-without c (h ∷ a ∷ b ∷ []) = refl
length-without c (h ∷ a ∷ b ∷ d ∷ bs) = ap (λ n. suc (suc (suc (suc n)))) (length-without c bs)

between : (u : Under) → taken_of u ≡ 0 → u ≡ Between
between Between e = refl
between (One h) e = cc
between (Two h a) e = cc
between (Three h a b) e = cc

whole-between : (f : ℕ → Option ℕ) (bytes : List ℕ) → usb_whole bytes ≡ true → under_from (usb f) Between bytes ≡
    Between
whole-between f bytes h = between (under_from (usb f) Between bytes) (taken-from f bytes ∙
    eqb-true (length bytes % 4) 0 h)

same-under : (f : ℕ → Option ℕ) (c : ℕ) (bytes : List ℕ) → usb_whole bytes ≡ true →
    under_from (usb f) Between (without_cable c bytes) ≡ under_from (usb f) Between bytes
same-under f c bytes h =
    whole-between f (without_cable c bytes) (ap (λ n. n % 4 == 0) (length-without c bytes) ∙ h) ∙
    sym (whole-between f bytes h)

-- What the packets carry.

abbrev on_cable : ℕ → EventPacket → List Entry
on_cable c p = if cable_of p == c then heard_in p else []

abbrev at_head : (at head : ℕ) → List ℕ → EventPacket
at_head at head rest = record { at = at; head = head; rest = rest }

take-none : (xs : List ℕ) → take 0 xs ≡ []
take-none [] = refl
take-none (x ∷ xs) = refl

abbrev nothing : List Entry
nothing = []

neither : (t : Bool) → (if t then nothing else nothing) ≡ nothing
neither true = refl
neither false = refl

silent-packet : (c at h : ℕ) (rest : List ℕ) (t : Bool) → (h / 16 == c) ≡ t →
    on_cable c (at_head at (if t then c * 16 else h) rest) ≡ []
silent-packet c at h rest true e =
    let none : (c * 16) % 16 ≡ 0 = omega arith in
    ap (λ n. if (c * 16) / 16 == c then heard_from (at + 1) 0 (take (used n) rest) else []) none ∙
    (ap (λ z. if (c * 16) / 16 == c then heard_from (at + 1) 0 z else []) (take-none rest) ∙
    neither ((c * 16) / 16 == c))
silent-packet c at h rest false e = ap (λ (t : Bool). if t then heard_in (at_head at h rest) else []) e

silent-from : (c at : ℕ) (bytes : List ℕ) → flat_map (on_cable c) (packets_from at (without_cable c bytes)) ≡ []
silent-from c at [] = refl
silent-from c at (h ∷ []) = ap (λ z. z ++ []) (silent-packet c at h [] (h / 16 == c) refl)
silent-from c at (h ∷ a ∷ []) = ap (λ z. z ++ []) (silent-packet c at h (a ∷ []) (h / 16 == c) refl)
silent-from c at (h ∷ a ∷ b ∷ []) = ap (λ z. z ++ []) (silent-packet c at h (a ∷ b ∷ []) (h / 16 == c) refl)
silent-from c at (h ∷ a ∷ b ∷ d ∷ bs) =
    ap₂ (λ y z. y ++ z) (silent-packet c at h (a ∷ b ∷ d ∷ []) (h / 16 == c) refl) (silent-from c (at + 4) bs)

apart : (m n : ℕ) → (m ≡ n → ⊥) → (m == n) ≡ false
apart m n h = grind (arith, nat_tests)

other-packet : (c d at h : ℕ) (rest : List ℕ) (t : Bool) → (d ≡ c → ⊥) → (h / 16 == c) ≡ t →
    on_cable d (at_head at (if t then c * 16 else h) rest) ≡ on_cable d (at_head at h rest)
other-packet c d at h rest true other e =
    let here : h / 16 ≡ c = eqb-true (h / 16) c e in
    let emptied_too : (c * 16) / 16 ≡ c = omega arith in
    let left : ((c * 16) / 16 == d) ≡ false = apart ((c * 16) / 16) d (λ same. other (sym same ∙ emptied_too)) in
    let right : (h / 16 == d) ≡ false = apart (h / 16) d (λ same. other (sym same ∙ here)) in
    ap (λ (t : Bool). if t then heard_in (at_head at (c * 16) rest) else []) left ∙
    sym (ap (λ (t : Bool). if t then heard_in (at_head at h rest) else []) right)
other-packet c d at h rest false other e = refl

other-from : (c d at : ℕ) (bytes : List ℕ) → (d ≡ c → ⊥) →
    flat_map (on_cable d) (packets_from at (without_cable c bytes)) ≡ flat_map (on_cable d) (packets_from at bytes)
other-from c d at [] other = refl
other-from c d at (h ∷ []) other = ap (λ z. z ++ []) (other-packet c d at h [] (h / 16 == c) other refl)
other-from c d at (h ∷ a ∷ []) other = ap (λ z. z ++ []) (other-packet c d at h (a ∷ []) (h / 16 == c) other refl)
other-from c d at (h ∷ a ∷ b ∷ []) other = ap (λ z. z ++ []) (other-packet c d at h (a ∷ b ∷ []) (h / 16 == c) other
    refl)
other-from c d at (h ∷ a ∷ b ∷ e ∷ bs) other =
    ap₂ (λ y z. y ++ z) (other-packet c d at h (a ∷ b ∷ e ∷ []) (h / 16 == c) other refl) (other-from c d (at + 4) bs
    other)

-- The readers.

rests : (offset : ℕ) → Stands (record din.fresh { offset = offset }) [] []
rests offset = record { ahead = []; told_is = refl; rises = omega arith; runs = tt; state = refl }

fresh-stands : (r : State) (offset : ℕ) → r ≡ record din.fresh { offset = offset } → Stands r [] []
fresh-stands r offset e = subst (λ (s : State). Stands s [] []) (sym e) (rests offset)

-- `now` are the readers afterwards
anew-all : (p : Packets) (dins now : List State) (c : ℕ) → c < 16 → Stands (reader_at now c) [] [] →
    ((d : ℕ) → (d ≡ c → ⊥) → reader_at now d ≡ reader_at dins d) → UsbAnew c (usb_state p dins) (usb_state p now)
anew-all p dins now c low fresh others bytes h all =
    let instead = without_cable c bytes in
    let known : UsbHolds p dins bytes (all_known (usb each_cable) 16 bytes) =
    subst (UsbHolds p dins bytes) (sym (each_law bytes)) h in
    subst (UsbHolds p now instead) (each_law instead)
    (anew-holds (usb each_cable) 16 each_low p.offset p.under (notes_in p.due) (reader_at dins) (reader_at now) bytes
    instead c low known
    (length-without c bytes) (same-under each_cable c bytes all) (each-payload c instead low ∙ silent-from c 0 bytes)
    (λ d below other. each-payload d instead below ∙ (other-from c d 0 bytes other ∙ sym (each-payload d bytes below)))
    fresh (λ d below other. others d other))

pub usb-anew : (was : UsbState) (p : Packets) (dins : List State) (c : ℕ) (r : State) (offset : ℕ) → usb_state p dins ≡
    was → c < 16 → c < length dins →
    r ≡ record din.fresh { offset = offset } → UsbAnew c was (usb_state p (slice_set dins c r))
usb-anew was p dins c r offset e low here fresh =
    subst (λ (s : UsbState). UsbAnew c s (usb_state p (slice_set dins c r))) e
    (anew-all p dins (slice_set dins c r) c low (fresh-stands (reader_at (slice_set dins c r) c) offset
    (get_or-set_same dins c r din.fresh here ∙ fresh))
    (λ d other. get_or-set_other dins c d r din.fresh other))

anew-alone : (c : ℕ) (p : Packets) (r now : State) → Stands now [] [] →
    CableAnew (cable_state c p r) (cable_state c p now)
anew-alone c p r now fresh bytes h all =
    let instead = without_cable c bytes in
    let known : CableHolds c p r bytes (one_known (usb (only_cable c)) bytes) = subst (CableHolds c p r bytes)
    (sym (only_law c bytes)) h in
    subst (CableHolds c p now instead) (only_law c instead)
    (anew-one (usb (only_cable c)) (only_low c) p.offset p.under (notes_in p.due) (λ _. r) (λ _. now) bytes instead
    known
    (length-without c bytes) (same-under (only_cable c) c bytes all) (only-payload c instead ∙ silent-from c 0 bytes)
    fresh)

pub cable-anew : (was : CableState) (c : ℕ) (p : Packets) (r now : State) (offset : ℕ) → cable_state c p r ≡ was →
    now ≡ record din.fresh { offset = offset } → CableAnew was (cable_state c p now)
cable-anew was c p r now offset e fresh =
    subst (λ (s : CableState). CableAnew s (cable_state c p now)) e
    (anew-alone c p r now (fresh-stands now offset fresh))
