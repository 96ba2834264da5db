-- The events of packets byte by byte are the literal cuts: what each cable carries, and the notes on packets. The bytes
-- of a packet that its cable carries stand side by side.
use Rattle.std.proofs.Common.{◌≡◌, ℕ, zero, suc, ◌+◌, ◌-◌, ◌/◌, ◌%◌, ◌<◌, ◌≤◌, Bool, true, false, ◌||◌, ◌==◌, nat_lt}
use Rattle.std.proofs.Common.{nat_le, if◌then◌else◌, Option, Some, None, List, [], ◌∷◌, ◌++◌, map, flat_map, take, refl}
use Rattle.std.proofs.Common.{sym, ◌∙◌, ap, ap₂, arith, append_assoc, append-nil}
use Rattle.std.proofs.lemmas.Bool.{ltb-true}
use Rattle.std.proofs.lemmas.Bool.Decides.{nat_tests}
use Rattle.mb_message.specs.declared.note.Note.{Note}
use Rattle.mb_message.specs.declared.note.NoteKind.TheVariants.{ReservedCin, CinMismatch}
use Rattle.mb_stream.specs.Payload.{Spot, Entry, Heard, heard_from}
use Rattle.mb_stream.specs.Told.{Notes, Known}
use Rattle.mb_stream.specs.Order.{in_order}
use Rattle.mb_stream.specs.Reading.{payload_told}
use Rattle.mb_message.specs.Front.{IsFront}
use Rattle.mb_ports.specs.Events.{Event, port_payload, unit_notes, Ported, ported, unported, known_of, below_from}
use Rattle.mb_ports.specs.Events.{port_told}
use Rattle.mb_ports.specs.Machine.{Machine, remark, remarked, carried_by, spot, byte_events, events_from, events}
use Rattle.mb_ports.specs.Machine.{Steady}
use Rattle.mb_ports.specs.Reader.{all_known}
use Rattle.mb_ports.specs.OnePort.{one_known}
use Rattle.mb_ports.proofs.MachineLaw.{LowPorts, port_payload-append, port_payload-notes}
use Rattle.mb_ports.proofs.OnePortLaw.{one_so_far, one-stays}
use Rattle.mb_usb.specs.declared.under.Under.{Under}
use Rattle.mb_usb.specs.declared.under.Under.TheVariants.{Between, One, Two, Three}
use Rattle.mb_usb.specs.Reading.{EventPacket, cable_of, packets_from, packets, used, heard_in, cable_payload, suits_cin}
use Rattle.mb_usb.specs.Reading.{unit_note}
use Rattle.mb_usb.specs.Under.{under_after, left_of, head_of, note_at}
use Rattle.mb_usb.specs.Cables.{of_cable, all_cables_so_far, cable_so_far, notes_in, port_by, usb, each_cable}
use Rattle.mb_usb.specs.Cables.{only_cable}

-- A packet uses none of its other bytes, or one, two or three.
data Use : ℕ → Type 0 where
  None_used : Use 0
  One_used : Use 1
  Two_used : Use 2
  Three_used : Use 3

use_of : (n : ℕ) → Use (used n)
use_of n = by_tests (nat_le n 1) ((n == 5) || (n == 15)) ((n == 2) || (n == 6) || (n == 12) || (n == 13)) where
  by_tests : (a b c : Bool) → Use (if a then 0 else (if b then 1 else (if c then 2 else 3)))
  by_tests true b c = None_used
  by_tests false true c = One_used
  by_tests false false true = Two_used
  by_tests false false false = Three_used

-- Side by side.

carries : (left : ℕ) (port : Option ℕ) (p : ℕ) → port_by left port ≡ Some p → port ≡ Some p
carries left port p e = by_test (left == 0) e where
  by_test : (t : Bool) → (if t then None else port) ≡ Some p → port ≡ Some p
  by_test true e = cc
  by_test false e = e

steady-three : (f : ℕ → Option ℕ) (h a b p k : ℕ) → Use k → used (h % 16) ≡ k → f (h / 16) ≡ Some p →
    Steady (usb f) (Three h a b) p (k - 2)
steady-three f h a b p k None_used e here = tt
steady-three f h a b p k One_used e here = tt
steady-three f h a b p k Two_used e here = tt
steady-three f h a b p k Three_used e here = ap (λ z. port_by (z - 2) (f (h / 16))) e ∙ here

steady-two : (f : ℕ → Option ℕ) (h a p k : ℕ) → Use k → used (h % 16) ≡ k → f (h / 16) ≡ Some p →
    Steady (usb f) (Two h a) p (k - 1)
steady-two f h a p k None_used e here = tt
steady-two f h a p k One_used e here = tt
steady-two f h a p k Two_used e here = ap (λ z. port_by (z - 1) (f (h / 16))) e ∙ here
steady-two f h a p k Three_used e here = (
  ap (λ z. port_by (z - 1) (f (h / 16))) e ∙ here,
  λ b at. refl,
  λ b.
      steady-three f h a b p 3 Three_used e here,
)

steady-one : (f : ℕ → Option ℕ) (h p k : ℕ) → Use k → used (h % 16) ≡ k → f (h / 16) ≡ Some p →
    Steady (usb f) (One h) p k
steady-one f h p k None_used e here = tt
steady-one f h p k One_used e here = ap (λ z. port_by z (f (h / 16))) e ∙ here
steady-one f h p k Two_used e here = (
  ap (λ z. port_by z (f (h / 16))) e ∙ here,
  λ b at. refl,
  λ b.
      steady-two f h b p 2 Two_used e here,
)
steady-one f h p k Three_used e here = (
  ap (λ z. port_by z (f (h / 16))) e ∙ here,
  λ b at. refl,
  λ b.
      steady-two f h b p 3 Three_used e here,
)

-- as many bytes as the packet under way still carries are its port's, and a note comes behind them
pub steady : (f : ℕ → Option ℕ) (u : Under) (p : ℕ) → port_by (left_of u) (f (head_of u / 16)) ≡ Some p →
    Steady (usb f) u p (left_of u)
steady f Between p e = tt
steady f (One h) p e = steady-one f h p (used (h % 16)) (use_of (h % 16)) refl (carries (used (h % 16)) (f (h / 16)) p
    e)
steady f (Two h a) p e = steady-two f h a p (used (h % 16)) (use_of (h % 16)) refl (carries (used (h % 16) - 1)
    (f (h / 16)) p e)
steady f (Three h a b) p e = steady-three f h a b p (used (h % 16)) (use_of (h % 16)) refl (carries (used (h % 16) - 2)
    (f (h / 16)) p e)

-- What each port carries.

abbrev mine : ℕ → Option ℕ → Spot → List Entry
mine q None x = []
mine q (Some p) x = if p == q then Heard x ∷ [] else []

byte-payload : {U : Type 0} (m : Machine U) (u : U) (q at b : ℕ) → port_payload q (byte_events m u at b) ≡
    mine q (m.port u) (spot at b)
byte-payload m u q at b =
    port_payload-append q (carried_by (m.port u) (spot at b)) (remarked at (m.notes u b at)) ∙
    (ap (λ z. port_payload q (carried_by (m.port u) (spot at b)) ++ z) (port_payload-notes q at (m.notes u b at)) ∙
    (append-nil (port_payload q (carried_by (m.port u) (spot at b))) ∙ by_port (m.port u))) where
      by_port : (port : Option ℕ) → port_payload q (carried_by port (spot at b)) ≡ mine q port (spot at b)
      by_port None = refl
      by_port (Some p) = refl

step-payload : {U : Type 0} (m : Machine U) (u : U) (q at b : ℕ) (bs : List ℕ) →
    port_payload q (events_from m u at (b ∷ bs)) ≡ mine q (m.port u) (spot at b) ++
    port_payload q (events_from m (m.after u b) (at + 1) bs)
step-payload m u q at b bs =
    port_payload-append q (byte_events m u at b) (events_from m (m.after u b) (at + 1) bs) ∙
    ap (λ z. z ++ port_payload q (events_from m (m.after u b) (at + 1) bs)) (byte-payload m u q at b)

abbrev goes : Option ℕ → ℕ → Bool
goes None q = false
goes (Some p) q = p == q

abbrev pick : (ℕ → Option ℕ) → ℕ → EventPacket → List Entry
pick f q p = if goes (f (cable_of p)) q then heard_in p else []

-- a byte of a packet that still carries so many, of a cable that is the port's or isn't
abbrev got : ℕ → Bool → Spot → List Entry
got k t x = if k == 0 then [] else (if t then Heard x ∷ [] else [])

mine-got : (q k : ℕ) (o : Option ℕ) (x : Spot) → mine q (port_by k o) x ≡ got k (goes o q) x
mine-got q k o x = by_test (k == 0) o where
  by_test : (t : Bool) (o : Option ℕ) → mine q (if t then None else o) x ≡
      (if t then [] else (if goes o q then Heard x ∷ [] else []))
  by_test true o = refl
  by_test false None = refl
  by_test false (Some p) = refl

-- the used bytes of a packet, one after the other
three-got : (k at a b c : ℕ) (t : Bool) → Use k → got k t (spot (at + 1) a) ++ (got (k - 1) t (spot (at + 1 + 1) b) ++
    got (k - 2) t (spot (at + 1 + 1 + 1) c)) ≡
    (if t then heard_from (at + 1) 0 (take k (a ∷ b ∷ c ∷ [])) else [])
three-got k at a b c true None_used = refl
three-got k at a b c true One_used = refl
three-got k at a b c true Two_used = refl
three-got k at a b c true Three_used = refl
three-got k at a b c false None_used = refl
three-got k at a b c false One_used = refl
three-got k at a b c false Two_used = refl
three-got k at a b c false Three_used = refl

two-got : (k at a b : ℕ) (t : Bool) → Use k → got k t (spot (at + 1) a) ++ got (k - 1) t (spot (at + 1 + 1) b) ≡
    (if t then heard_from (at + 1) 0 (take k (a ∷ b ∷ [])) else [])
two-got k at a b true None_used = refl
two-got k at a b true One_used = refl
two-got k at a b true Two_used = refl
two-got k at a b true Three_used = refl
two-got k at a b false None_used = refl
two-got k at a b false One_used = refl
two-got k at a b false Two_used = refl
two-got k at a b false Three_used = refl

one-got : (k at a : ℕ) (t : Bool) → Use k → got k t (spot (at + 1) a) ≡
    (if t then heard_from (at + 1) 0 (take k (a ∷ [])) else [])
one-got k at a true None_used = refl
one-got k at a true One_used = refl
one-got k at a true Two_used = refl
one-got k at a true Three_used = refl
one-got k at a false None_used = refl
one-got k at a false One_used = refl
one-got k at a false Two_used = refl
one-got k at a false Three_used = refl

none-got : (k at : ℕ) (t : Bool) → Use k → [] ≡ (if t then heard_from (at + 1) 0 (take k []) else [])
none-got k at true None_used = refl
none-got k at true One_used = refl
none-got k at true Two_used = refl
none-got k at true Three_used = refl
none-got k at false w = refl

-- a byte of a packet behind its first, and what follows it
next-payload : (f : ℕ → Option ℕ) (u : Under) (q k at b : ℕ) (bs : List ℕ) → left_of u ≡ k →
    port_payload q (events_from (usb f) u at (b ∷ bs)) ≡ got k (goes (f (head_of u / 16)) q) (spot at b) ++
    port_payload q (events_from (usb f) (under_after u b) (at + 1) bs)
next-payload f u q k at b bs e =
    step-payload (usb f) u q at b bs ∙
    ap (λ z. z ++ port_payload q (events_from (usb f) (under_after u b) (at + 1) bs))
    (mine-got q (left_of u) (f (head_of u / 16)) (spot at b) ∙ ap (λ z. got z (goes (f (head_of u / 16)) q) (spot at b))
    e)

four_on : (at : ℕ) → at + 1 + 1 + 1 + 1 ≡ at + 4
four_on at = omega arith

cables-from : (f : ℕ → Option ℕ) (q at : ℕ) (bytes : List ℕ) → port_payload q (events_from (usb f) Between at bytes) ≡
    flat_map (pick f q) (packets_from at bytes)
cables-from f q at [] = refl
cables-from f q at (h ∷ []) =
    next-payload f Between q 0 at h [] refl ∙
    (none-got (used (h % 16)) at (goes (f (h / 16)) q) (use_of (h % 16)) ∙
    sym (append-nil (pick f q (record { at = at; head = h; rest = [] }))))
cables-from f q at (h ∷ a ∷ []) =
    let t = goes (f (h / 16)) q in
    next-payload f Between q 0 at h (a ∷ []) refl ∙
    (next-payload f (One h) q (used (h % 16)) (at + 1) a [] refl ∙
    (append-nil (got (used (h % 16)) t (spot (at + 1) a)) ∙
    (one-got (used (h % 16)) at a t (use_of (h % 16)) ∙ sym (append-nil (pick f q (record {
      at = at;
      head = h;
      rest =
          a ∷ [];
    }))))))
cables-from f q at (h ∷ a ∷ b ∷ []) =
    let t = goes (f (h / 16)) q in
    let k = used (h % 16) in
    next-payload f Between q 0 at h (a ∷ b ∷ []) refl ∙
    (next-payload f (One h) q k (at + 1) a (b ∷ []) refl ∙
    (ap (λ z. got k t (spot (at + 1) a) ++ z) (next-payload f (Two h a) q (k - 1) (at + 1 + 1) b [] refl ∙
    append-nil (got (k - 1) t (spot (at + 1 + 1) b))) ∙
    (two-got k at a b t (use_of (h % 16)) ∙ sym (append-nil (pick f q (record {
      at = at;
      head = h;
      rest =
          a ∷ b ∷ [];
    }))))))
cables-from f q at (h ∷ a ∷ b ∷ c ∷ bs) =
    let t = goes (f (h / 16)) q in
    let k = used (h % 16) in
    let first = got k t (spot (at + 1) a) in
    let second = got (k - 1) t (spot (at + 1 + 1) b) in
    let third = got (k - 2) t (spot (at + 1 + 1 + 1) c) in
    let rest : port_payload q (events_from (usb f) Between (at + 1 + 1 + 1 + 1) bs) ≡ flat_map (pick f q)
    (packets_from (at + 4) bs) =
    ap (λ z. port_payload q (events_from (usb f) Between z bs)) (four_on at) ∙ cables-from f q (at + 4) bs in
    next-payload f Between q 0 at h (a ∷ b ∷ c ∷ bs) refl ∙
    (next-payload f (One h) q k (at + 1) a (b ∷ c ∷ bs) refl ∙
    (ap (λ z. first ++ z)
    (next-payload f (Two h a) q (k - 1) (at + 1 + 1) b (c ∷ bs) refl ∙
    ap (λ z. second ++ z) (next-payload f (Three h a b) q (k - 2) (at + 1 + 1 + 1) c bs refl ∙
    ap (λ z. third ++ z) rest)) ∙
    (joined first second third (flat_map (pick f q) (packets_from (at + 4) bs)) ∙
    ap (λ z. z ++ flat_map (pick f q) (packets_from (at + 4) bs)) (three-got k at a b c t (use_of (h % 16))))))
  where
    joined : (x y z w : List Entry) → x ++ (y ++ (z ++ w)) ≡ (x ++ (y ++ z)) ++ w
    joined x y z w = ap (λ v. x ++ v) (sym (append_assoc y z w)) ∙ sym (append_assoc x (y ++ z) w)

-- The notes.

step-notes : {U : Type 0} (m : Machine U) (u : U) (at b : ℕ) (bs : List ℕ) →
    unit_notes (events_from m u at (b ∷ bs)) ≡ map (remark at) (m.notes u b at) ++
    unit_notes (events_from m (m.after u b) (at + 1) bs)
step-notes m u at b bs = by_port (m.port u) (m.notes u b at) (events_from m (m.after u b) (at + 1) bs) where
  noted : (xs : List Note) (es : List Event) → unit_notes (remarked at xs ++ es) ≡ map (remark at) xs ++ unit_notes es
  noted [] es = refl
  noted (x ∷ xs) es = ap (λ z. remark at x ∷ z) (noted xs es)

  by_port : (port : Option ℕ) (xs : List Note) (es : List Event) →
      unit_notes ((carried_by port (spot at b) ++ remarked at xs) ++ es) ≡ map (remark at) xs ++ unit_notes es
  by_port None xs es = noted xs es
  by_port (Some p) xs es = noted xs es

abbrev reserved : ℕ → List Known
reserved at = record { at = at; rank = 4; moment = 0; told = Notes at ReservedCin } ∷ []

abbrev mismatch : ℕ → List Known
mismatch at = record { at = at + 3; rank = 4; moment = 0; told = Notes at CinMismatch } ∷ []

first-note : (at b : ℕ) → map (remark at) (notes_in (note_at Between b at)) ≡ (if nat_le (b % 16) 1 then
    reserved at else [])
first-note at b = by_test (nat_le (b % 16) 1) where
  by_test : (t : Bool) → map (remark at) (notes_in (if t then Some (record { kind = ReservedCin; at = at }) else None))
      ≡ (if t then reserved at else [])
  by_test true = refl
  by_test false = refl

no-more : (t : Bool) (at : ℕ) → (if t then reserved at else []) ≡ (if t then reserved at else
    (if true then [] else mismatch at)) ++ []
no-more true at = refl
no-more false at = refl

last-note : (at h a b c : ℕ) → (if nat_le (h % 16) 1 then reserved at else []) ++
    map (remark (at + 1 + 1 + 1)) (notes_in (note_at (Three h a b) c (at + 1 + 1 + 1))) ≡
    (if nat_le (h % 16) 1 then reserved at else (if suits_cin (h % 16) a b c then [] else mismatch at))
last-note at h a b c = by_test (nat_le (h % 16) 1) (suits_cin (h % 16) a b c) where
  by_test : (t s : Bool) → (if t then reserved at else []) ++
      map (remark (at + 1 + 1 + 1)) (notes_in (if t then None else
      (if s then None else Some (record { kind = CinMismatch; at = at + 1 + 1 + 1 - 3 })))) ≡
      (if t then reserved at else (if s then [] else mismatch at))
  by_test true s = refl
  by_test false true = refl
  by_test false false =
      let here : at + 1 + 1 + 1 ≡ at + 3 = omega arith in
      let start : at + 1 + 1 + 1 - 3 ≡ at = omega arith in
      ap₂ (λ (x y : ℕ). record { at = x; rank = 4; moment = 0; told = Notes y CinMismatch } ∷ []) here start

notes-from : (f : ℕ → Option ℕ) (at : ℕ) (bytes : List ℕ) → unit_notes (events_from (usb f) Between at bytes) ≡
    flat_map unit_note (packets_from at bytes)
notes-from f at [] = refl
notes-from f at (h ∷ []) =
    step-notes (usb f) Between at h [] ∙ (append-nil (map (remark at) (notes_in (note_at Between h at))) ∙
    (first-note at h ∙ no-more (nat_le (h % 16) 1) at))
notes-from f at (h ∷ a ∷ []) =
    step-notes (usb f) Between at h (a ∷ []) ∙
    (ap (λ z. map (remark at) (notes_in (note_at Between h at)) ++ z) (step-notes (usb f) (One h) (at + 1) a []) ∙
    (append-nil (map (remark at) (notes_in (note_at Between h at))) ∙
    (first-note at h ∙ no-more (nat_le (h % 16) 1) at)))
notes-from f at (h ∷ a ∷ b ∷ []) =
    step-notes (usb f) Between at h (a ∷ b ∷ []) ∙
    (ap (λ z. map (remark at) (notes_in (note_at Between h at)) ++ z) (step-notes (usb f) (One h) (at + 1) a (b ∷ []) ∙
    step-notes (usb f) (Two h a) (at + 1 + 1) b []) ∙
    (append-nil (map (remark at) (notes_in (note_at Between h at))) ∙
    (first-note at h ∙ no-more (nat_le (h % 16) 1) at)))
notes-from f at (h ∷ a ∷ b ∷ c ∷ bs) =
    let first = map (remark at) (notes_in (note_at Between h at)) in
    let last = map (remark (at + 1 + 1 + 1)) (notes_in (note_at (Three h a b) c (at + 1 + 1 + 1))) in
    let rest : unit_notes (events_from (usb f) Between (at + 1 + 1 + 1 + 1) bs) ≡ flat_map unit_note
    (packets_from (at + 4) bs) =
    ap (λ z. unit_notes (events_from (usb f) Between z bs)) (four_on at) ∙ notes-from f (at + 4) bs in
    step-notes (usb f) Between at h (a ∷ b ∷ c ∷ bs) ∙
    (ap (λ z. first ++ z)
    (step-notes (usb f) (One h) (at + 1) a (b ∷ c ∷ bs) ∙
    (step-notes (usb f) (Two h a) (at + 1 + 1) b (c ∷ bs) ∙
    (step-notes (usb f) (Three h a b) (at + 1 + 1 + 1) c bs ∙ ap (λ z. last ++ z) rest))) ∙
    (sym (append_assoc first last (flat_map unit_note (packets_from (at + 4) bs))) ∙
    ap (λ z. z ++ flat_map unit_note (packets_from (at + 4) bs)) (ap (λ z. z ++ last) (first-note at h) ∙
    last-note at h a b c)))

-- All cables.

pub each_low : LowPorts (usb each_cable) 16
each_low u p e = by_test (nat_lt (head_of u / 16) 16) refl (carries (left_of u) (each_cable (head_of u / 16)) p e) where
  by_test : (t : Bool) → nat_lt (head_of u / 16) 16 ≡ t → (if t then Some (head_of u / 16) else None) ≡ Some p → p < 16
  by_test true low e = let same : head_of u / 16 ≡ p = cc in let bound : head_of u / 16 < 16 =
      ltb-true (head_of u / 16) 16 low in omega arith
  by_test false low e = cc

each-goes : (h q : ℕ) → q < 16 → goes (each_cable h) q ≡ (h == q)
each-goes h q low = by_test (nat_lt h 16) refl where
  by_test : (t : Bool) → nat_lt h 16 ≡ t → goes (if t then Some h else None) q ≡ (h == q)
  by_test true e = refl
  by_test false e = let no : (h == q) ≡ false = grind (arith, nat_tests) in sym no

pick-same : (f : ℕ → Option ℕ) (q c : ℕ) (ps : List EventPacket) → ((h : ℕ) → goes (f h) q ≡ (h == c)) →
    flat_map (pick f q) ps ≡ flat_map (λ p. if cable_of p == c then heard_in p else []) ps
pick-same f q c [] same = refl
pick-same f q c (p ∷ ps) same = ap₂ (λ (t : Bool) (z : List Entry). (if t then heard_in p else []) ++
    z) (same (cable_of p)) (pick-same f q c ps same)

pub each-payload : (c : ℕ) (bytes : List ℕ) → c < 16 → port_payload c (events (usb each_cable) bytes) ≡ cable_payload c
    bytes
each-payload c bytes low = cables-from each_cable c 0 bytes ∙ pick-same each_cable c c (packets bytes) (λ h.
    each-goes h c low)

each-told : (bytes : List ℕ) (from count : ℕ) → from + count ≤ 16 → flat_map (port_told (events (usb each_cable) bytes))
    (below_from from count) ≡ flat_map (of_cable bytes) (below_from from count)
each-told bytes from zero h = refl
each-told bytes from (suc count) h =
    ap₂ (λ (es : List Entry) (z : List Ported). map (ported from) (payload_told es) ++
    z) (each-payload from bytes (omega arith)) (each-told bytes (from + 1) count (omega arith))

pub each_law : (bytes : List ℕ) → all_known (usb each_cable) 16 bytes ≡ all_cables_so_far bytes
each_law bytes =
    ap₂ (λ (xs : List Ported) (ns : List Known). in_order known_of (xs ++ map unported ns))
    (each-told bytes 0 16 (omega arith)) (notes-from each_cable 0 bytes)

-- One cable.

pub only_low : (c : ℕ) → LowPorts (usb (only_cable c)) 1
only_low c u p e = by_test (head_of u / 16 == c) (carries (left_of u) (only_cable c (head_of u / 16)) p e) where
  by_test : (t : Bool) → (if t then Some 0 else None) ≡ Some p → p < 1
  by_test true e = let same : 0 ≡ p = cc in omega arith
  by_test false e = cc

only-goes : (c h : ℕ) → goes (only_cable c h) 0 ≡ (h == c)
only-goes c h = by_test (h == c) where
  by_test : (t : Bool) → goes (if t then Some 0 else None) 0 ≡ t
  by_test true = refl
  by_test false = refl

pub only-payload : (c : ℕ) (bytes : List ℕ) → port_payload 0 (events (usb (only_cable c)) bytes) ≡ cable_payload c bytes
only-payload c bytes = cables-from (only_cable c) 0 0 bytes ∙ pick-same (only_cable c) 0 c (packets bytes) (only-goes c)

pub only_law : (c : ℕ) (bytes : List ℕ) → one_known (usb (only_cable c)) bytes ≡ cable_so_far c bytes
only_law c bytes =
    one_so_far (events (usb (only_cable c)) bytes) ∙
    ap₂ (λ (es : List Entry) (ns : List Known). in_order (λ k. k) (payload_told es ++ ns)) (only-payload c bytes)
    (notes-from (only_cable c) 0 bytes)

-- what is known of some bytes stays known
pub stays : (c : ℕ) (bytes more : List ℕ) → IsFront (cable_so_far c bytes) (cable_so_far c (bytes ++ more))
stays c bytes more =
    let f : IsFront (one_known (usb (only_cable c)) bytes) (one_known (usb (only_cable c)) (bytes ++ more)) =
    one-stays (usb (only_cable c)) (only_low c) bytes more in
    (f.0, sym (only_law c (bytes ++ more)) ∙ (f.1 ∙ ap (λ ks. ks ++ f.0) (only_law c bytes)))
