-- The steps of a reader of one cable, behind what its loop did before.
use Rattle.std.proofs.Common.{◌≡◌, ℕ, ◌+◌, ◌*◌, ◌/◌, ◌%◌, ◌<◌, ◌≤◌, ◌≢◌, Bool, true, false, not, ◌&&◌, ◌==◌}
use Rattle.std.proofs.Common.{if◌then◌else◌, Option, Some, None, IfNone, List, [], ◌∷◌, ◌++◌, length, map, refl, sym}
use Rattle.std.proofs.Common.{◌∙◌, ap, ap₂, subst, arith}
use Rattle.std.proofs.lemmas.Bool.{eq-eqb, eqb-true}
use Rattle.std.proofs.lemmas.Bool.Decides.{nat_tests}
use Rattle.mb_message.specs.declared.note.Note.{Note}
use Rattle.mb_message.specs.declared.event.Seen.{Seen}
use Rattle.mb_stream.specs.Payload.{Entry}
use Rattle.mb_stream.specs.Groups.{last_of}
use Rattle.mb_stream.specs.Told.{Told, Notes, Known, at_end}
use Rattle.mb_stream.specs.Reading.{so_far}
use Rattle.mb_stream.proofs.ReaderLemmas.{tells-refl, tells-trans, tells-as}
use Rattle.mb_din.specs.Reader.{Stands}
use Rattle.mb_din.specs.State as din
use Rattle.mb_din.specs.State.{State}
use Rattle.mb_stream.specs.ReaderLaw.{answer, Tells, AllTold, bare_told}
use Rattle.mb_ports.specs.Events.{Ported}
use Rattle.mb_ports.specs.Reader.{Holds, all_known, bare}
use Rattle.mb_ports.specs.OnePort.{one_known}
use Rattle.mb_ports.proofs.ReaderLaw.{start-holds}
use Rattle.mb_ports.proofs.OnePortLaw.{tells-one, all_told-one, finish-one}
use Rattle.mb_usb.specs.declared.under.Under.{Under}
use Rattle.mb_usb.specs.declared.under.Under.TheVariants.{Between}
use Rattle.mb_usb.specs.declared.under.Packets.{Packets}
use Rattle.mb_usb.specs.Reading.{cable_payload}
use Rattle.mb_usb.specs.Under.{left_of, head_of, is_of_cable, taken_of, packet_after, packet_behind, is_rested}
use Rattle.mb_usb.specs.Hands.{Hands}
use Rattle.mb_usb.specs.State.{is_unbroken, CableState, IsBehind, owed_by, owed_alone}
use Rattle.mb_usb.specs.Cables.{cable_so_far, port_by, usb, only_cable, whole_of, CableHolds, CableStands, CableTells}
use Rattle.mb_usb.specs.Cables.{CableAllTold}
use Rattle.mb_usb.proofs.CablesLaw.{only_low, only_law, only-payload}
use Rattle.mb_usb.proofs.Steps.{same-undue, step-due, step-pass, step-carry, step-none}
use Rattle.mb_usb.proofs.HandsLemmas.{packet_behind-offset, hands-end}
use Rattle.mb_usb.proofs.ReadLemmas.{rested-after, hands-rested, unbroken-after, unbroken-behind, owed-reader}
use Rattle.mb_usb.proofs.ReadLemmas.{owed_by-bound}
use Rattle.mb_usb.proofs.EachCable.{carried-by}
use Rattle.mb_usb.proofs.UsbReaderLaw.{taken-from}

abbrev pub OnlyHolds : ℕ → Packets → State → List ℕ → List Ported → Type 0
OnlyHolds c p r bytes told = Holds (usb (only_cable c)) 1 (whole_of p (λ _. r)) bytes told

abbrev pub only_known : ℕ → List ℕ → List Ported
only_known c bytes = all_known (usb (only_cable c)) 1 bytes

-- what the loop did so far
pub record OnlyTells (c : ℕ) (p : Packets) (r : State) (q : Packets) (s : State) (input left : List ℕ)
    (seen : List (Option ℕ × Told)) : Type 0 where
  pub tells : Tells bare (only_known c) (OnlyHolds c p r) (OnlyHolds c q s) input left seen

pub begins : (c : ℕ) (p : Packets) (r : State) (input : List ℕ) → OnlyTells c p r p r input input []
begins c p r input = record { tells = tells-refl bare (only_known c) (OnlyHolds c p r) input }

undue : (c : ℕ) (p q : Packets) (r : State) → p.due ≡ None → q ≡ record p { due = None } →
    OnlyHolds c p r ≡ OnlyHolds c q r
undue c p q r e same = ap (λ (z : Packets). OnlyHolds c z r) (same-undue p q e same)

pub join : (c : ℕ) (a p q : Packets) (x r s : State) (start input left : List ℕ) (seen : List (Option ℕ × Told)) →
    OnlyTells c a x p r start input [] →
    Tells bare (only_known c) (OnlyHolds c p r) (OnlyHolds c q s) input left seen → OnlyTells c a x q s start left seen
join c a p q x r s start input left seen before step = record {
  tells = tells-trans bare (only_known c) (OnlyHolds c a x) (OnlyHolds c p r) (OnlyHolds c q s) start input left [] seen
      before.tells step;
}

pub then-due : (c : ℕ) (a p q : Packets) (x r : State) (start input : List ℕ) (n : Note) →
    OnlyTells c a x p r start input [] → p.due ≡ Some n → q ≡ record p { due = None } →
    OnlyTells c a x q r start input ((None, Notes n.at n.kind) ∷ [])
then-due c a p q x r start input n before due same =
    join c a p q x r r start input input ((None, Notes n.at n.kind) ∷ []) before (step-due (only_cable c) 1 (only_low c)
    p q (λ _. r) n input due same)

pub then-none : (c : ℕ) (a p q : Packets) (x r : State) (start input : List ℕ) → OnlyTells c a x p r start input [] →
    p.due ≡ None → q ≡ record p { due = None } → OnlyTells c a x q r start input []
then-none c a p q x r start input before due same = subst (λ (z : Packets). OnlyTells c a x z r start input [])
    (same-undue p q due same) before

-- Nothing was taken: what the loop did so far stands, said of what is kept then.

pub kept-tells : (c : ℕ) (a p : Packets) (x r s : State) (start input left : List ℕ) → OnlyTells c a x p r start input
    [] → s ≡ r → left ≡ input → OnlyTells c a x p s start left []
kept-tells c a p x r s start input left before e f =
    subst (λ (z : State). OnlyTells c a x p z start left []) (sym e) (subst (λ (z : List ℕ).
    OnlyTells c a x p r start z []) (sym f) before)

pub kept-behind : (p : Packets) (r s : State) → IsBehind p r → s ≡ r → IsBehind p s
kept-behind p r s h e = subst (λ (z : State). IsBehind p z) (sym e) h

pub kept-owes : (c : ℕ) (p : Packets) (r s : State) (input left : List ℕ) (most : ℕ) → 2 * length input + owed_alone c p
    r ≤ most → s ≡ r → left ≡ input → 2 * length left + owed_alone c p s ≤ most
kept-owes c p r s input left most h e f =
    subst (λ (z : State). 2 * length left + owed_alone c p z ≤ most) (sym e) (subst (λ (z : List ℕ).
    2 * length z + owed_alone c p r ≤ most) (sym f) h)

abbrev only_if : Bool → Option ℕ
only_if t = if t then Some 0 else None

-- no byte of the packet is still carried, or another cable's are
passed : (c : ℕ) (p : Packets) → is_of_cable c p.under ≡ false →
    port_by (left_of p.under) (only_cable c (head_of p.under / 16)) ≡ None
passed c p h = by_tests (left_of p.under == 0) (head_of p.under / 16 == c) h where
  by_tests : (t u : Bool) → (u && not t) ≡ false → (if t then None else only_if u) ≡ None
  by_tests true u e = refl
  by_tests false true e = cc
  by_tests false false e = refl

-- the next byte is the cable's
pub is-of : (c : ℕ) (u : Under) → is_of_cable c u ≡ true → (left_of u ≢ 0) × (head_of u / 16 ≡ c)
is-of c u h = by_tests (left_of u == 0) (head_of u / 16 == c) refl refl h where
  by_tests : (t v : Bool) → (left_of u == 0) ≡ t → (head_of u / 16 == c) ≡ v → (v && not t) ≡ true →
      (left_of u ≢ 0) × (head_of u / 16 ≡ c)
  by_tests true true e f h = cc
  by_tests true false e f h = cc
  by_tests false false e f h = cc
  by_tests false true e f h = (grind (arith, nat_tests), eqb-true (head_of u / 16) c f)

pub then-pass : (c : ℕ) (a p q t : Packets) (x r : State) (start input rest : List ℕ) (b : ℕ) →
    OnlyTells c a x p r start input [] → p.due ≡ None → q ≡ record p { due = None } → is_of_cable c q.under ≡ false →
    t ≡ packet_after q b → input ≡ b ∷ rest → OnlyTells c a x t r start rest []
then-pass c a p q t x r start input rest b before due same over after first =
    join c a q t x r r start input rest [] (then-none c a p q x r start input before due same)
    (step-pass (only_cable c) 1 (only_low c) q t (λ _. r) b input rest (ap (λ (z : Packets). z.due) same)
    (passed c q over) after first)

pub only-is : (c h : ℕ) → h ≡ c → only_cable c h ≡ Some 0
only-is c h e = ap (λ (t : Bool). if t then Some 0 else None) (eq-eqb h c e)

pub then-carry : (c : ℕ) (a p q t : Packets) (x r s : State) (start input rest left : List ℕ) (b : ℕ)
    (seen : Option Seen) → OnlyTells c a x p r start input [] → p.due ≡ None → q ≡ record p { due = None } →
    is_of_cable c q.under ≡ true → input ≡ b ∷ rest → Hands q t r s input left (answer seen) →
    OnlyTells c a x t s start left (map (λ y. (Some 0, y)) (answer seen))
then-carry c a p q t x r s start input rest left b seen before due same of_it first hands =
    let facts : (left_of q.under ≢ 0) × (head_of q.under / 16 ≡ c) = is-of c q.under of_it in
    join c a q t x r s start input left (map (λ y. (Some 0, y)) (answer seen)) (then-none c a p q x r start input before
    due same)
    (step-carry (only_cable c) 1 (only_low c) q t (λ _. r) (λ _. s) 0 b input rest left (answer seen)
    (ap (λ (z : Packets). z.due) same)
    (carried-by (left_of q.under) (only_cable c (head_of q.under / 16)) 0 facts.0 (only-is c (head_of q.under / 16)
    facts.1)) facts.0 first hands
    (λ d low apart. let none : d ≡ 0 = omega arith in absurd (apart none)))

-- The clauses.

pub tells-literal : (c : ℕ) (a q : Packets) (x s : State) (start left : List ℕ) (seen : List (Option ℕ × Told))
    (told : List Told) → map (λ y. y.1) seen ≡ told → OnlyTells c a x q s start left seen →
    Tells bare_told (cable_so_far c) (CableHolds c a x) (CableHolds c q s) start left told
tells-literal c a q x s start left seen told e h =
    tells-as bare_told (one_known (usb (only_cable c))) (cable_so_far c) (CableHolds c a x) (CableHolds c q s) start
    left told (only_law c)
    (tells-one (usb (only_cable c)) (only_low c) (whole_of a (λ _. x)) (whole_of q (λ _. s)) start left seen told e
    h.tells)

pub tolds : (ts : List Told) → map (λ (y : Option ℕ × Told). y.1) (map (λ y. (Some 0, y)) ts) ≡ ts
tolds [] = refl
tolds (t ∷ ts) = ap (λ z. t ∷ z) (tolds ts)

pub all_told-literal : (c : ℕ) (a q : Packets) (x s : State) (start input : List ℕ) → OnlyTells c a x q s start input
    [] → q.due ≡ None → input ≡ [] → AllTold (cable_so_far c) (CableHolds c a x) start
all_told-literal c a q x s start input h due none bytes told holds front =
    let nothing : Tells bare (only_known c) (OnlyHolds c a x) (OnlyHolds c q s) start [] [] =
    subst (λ (z : List ℕ). Tells bare (only_known c) (OnlyHolds c a x) (OnlyHolds c q s) start z []) none h.tells in
    all_told-one (usb (only_cable c)) (only_low c) (whole_of a (λ _. x)) start (step-none (only_cable c) 1 q (λ _.
    s) (OnlyHolds c a x) start due nothing) bytes told holds (front.0, only_law c (bytes ++ start) ∙ front.1) ∙
    only_law c (bytes ++ start)

abbrev pub cable_state : ℕ → Packets → State → CableState
cable_state cable packet reader = record { cable = cable; packet = packet; reader = reader }

pub next-tells : (was : CableState) (c : ℕ) (p q : Packets) (r s : State) (input left : List ℕ) (told : List Told) →
    cable_state c p r ≡ was →
    Tells bare_told (cable_so_far c) (CableHolds c p r) (CableHolds c q s) input left told →
    CableTells was (cable_state c q s) input left told
next-tells was c p q r s input left told e tells = subst (λ (z : CableState). CableTells z (cable_state c q s) input
    left told) e tells

pub next-all_told : {X : Type 0} (was : CableState) (c : ℕ) (p : Packets) (r : State) (input : List ℕ)
    (result : Option X) → cable_state c p r ≡ was →
    IfNone result (AllTold (cable_so_far c) (CableHolds c p r) input) → IfNone result (CableAllTold was input)
next-all_told was c p r input result e all = subst (λ (z : CableState). IfNone result (CableAllTold z input)) e all

pub new-stands : (c : ℕ) (p : Packets) (r : State) → p ≡ record { offset = 0; under = Between; due = None } →
    Stands r [] [] → CableHolds c p r [] []
new-stands c p r e fresh = record {
  with_port = [];
  holds = subst (λ (z : Packets). OnlyHolds c z r [] []) (sym e) (start-holds (usb (only_cable c)) 1 (λ _.
      r) (omega arith) (λ q low. fresh));
  told_is = refl;
}

pub finish-told : (was : CableState) (c : ℕ) (p : Packets) (r : State) (told : List Told) → cable_state c p r ≡ was →
    ((es : List Entry) → Stands r es (so_far es) → told ≡ at_end (last_of es)) →
    (bytes : List ℕ) → CableStands was bytes (cable_so_far was.cable bytes) →
    told ≡ at_end (last_of (cable_payload was.cable bytes))
finish-told was c p r told e says bytes h =
    let holds : CableHolds c p r bytes (cable_so_far c bytes) = subst (λ (s : CableState).
    CableStands s bytes (cable_so_far s.cable bytes)) (sym e) h in
    let stands = finish-one (usb (only_cable c)) (only_low c) (whole_of p (λ _. r)) bytes
    (subst (CableHolds c p r bytes) (sym (only_law c bytes)) holds) in
    let own : Stands r (cable_payload c bytes) (so_far (cable_payload c bytes)) = subst (λ es. Stands r es (so_far es))
    (only-payload c bytes) stands in
    says (cable_payload c bytes) own ∙ ap (λ (s : CableState). at_end (last_of (cable_payload s.cable bytes))) e

pub partial-is : (was : CableState) (c : ℕ) (p : Packets) (r : State) (result : ℕ) → cable_state c p r ≡ was →
    result ≡ taken_of p.under →
    (bytes : List ℕ) (told : List Known) → CableStands was bytes told → result ≡ length bytes % 4
partial-is was c p r result e taken bytes told h =
    let holds : CableHolds c p r bytes told = subst (λ (s : CableState). CableStands s bytes told) (sym e) h in
    taken ∙ (ap taken_of holds.holds.under ∙ taken-from (only_cable c) bytes)

-- What a call keeps true, and by what callers' loops end.

pub pass-behind : (p q t : Packets) (r : State) (b : ℕ) → IsBehind p r → q ≡ record p { due = None } →
    t ≡ packet_after q b → IsBehind t r
pass-behind p q t r b h same after = record {
  rested = ap is_rested after ∙ rested-after q b;
  unbroken = ap (λ (z : Packets). is_unbroken z.due) after ∙ unbroken-after q b;
  low = omega (arith, h.low, ap (λ (z : Packets). z.offset) same, ap (λ (z : Packets). z.offset) after);
}

pub carry-behind : (p t : Packets) (r s : State) (input left : List ℕ) (told : List Told) → IsBehind p r →
    Hands p t r s input left told → s.offset ≡ t.offset → IsBehind t s
carry-behind p t r s input left told h hands at = record {
  rested = hands-rested p t r s input left told hands h.rested;
  unbroken = ap (λ (z : Packets). is_unbroken z.due) hands.packet ∙ unbroken-behind p hands.taken h.unbroken;
  low = omega arith;
}

pub undue-behind : (p q : Packets) (r : State) → IsBehind p r → q ≡ record p { due = None } → IsBehind q r
undue-behind p q r h same = record {
  rested = ap is_rested same;
  unbroken = ap (λ (z : Packets). is_unbroken z.due) same;
  low = omega (arith, h.low, ap (λ (z : Packets). z.offset) same);
}

pub owed-bound : (c : ℕ) (p : Packets) (r : State) → owed_alone c p r ≤ 1
owed-bound c p r = owed_by-bound p.due (if is_of_cable c p.under then 1 else 0) (din.owed r) (owed-reader r.progress)

pub falls : (c : ℕ) (p : Packets) (r : State) (behind input : List ℕ) (owes most : ℕ) → length behind < length input →
    2 * length input + owes ≤ most → 2 * length behind + owed_alone c p r ≤ most
falls c p r behind input owes most less h = omega (arith, owed-bound c p r)

-- the same cable's reader owes less where no byte was taken
pub carry-owed : (c : ℕ) (p t : Packets) (r s : State) (input left : List ℕ) (told : List Told)
    (h : Hands p t r s input left told) → p.due ≡ None → is_of_cable c p.under ≡ true →
    2 * length left + din.owed s < 2 * length input + din.owed r → 2 * length left + owed_alone c t s < 2 *
    length input + owed_alone c p r
carry-owed c p t r s input left told h due of_it less = by_taken h.taken h.packet lengths where
  if_one : Bool → ℕ
  if_one b = if b then 1 else 0

  one : (if is_of_cable c p.under then 1 else 0) ≡ if_one true
  one = ap if_one of_it

  lengths : length left + length h.taken ≡ length input
  lengths = omega (
    arith,
    hands-end p t r s input left told h,
    ap (λ (z : Packets). z.offset) h.packet,
    packet_behind-offset p h.taken,
  )

  by_taken : (taken : List ℕ) → t ≡ packet_behind p taken → length left + length taken ≡ length input →
      2 * length left + owed_alone c t s < 2 * length input + owed_alone c p r
  by_taken [] e l =
      let old : owed_alone c p r ≡ din.owed r = ap₂ (λ (d : Option Note) (n : ℕ). owed_by d n (din.owed r)) due one in
      let new : owed_alone c t s ≡ din.owed s = ap (λ (z : Packets). owed_alone c z s) e ∙
      ap₂ (λ (d : Option Note) (n : ℕ). owed_by d n (din.owed s)) due one in
      omega (arith, old, new)
  by_taken (b ∷ bs) e l = omega (arith, owed-bound c t s)
