-- What is written is a row of packets, each of at most three bytes that suit its code index number. What such a row
-- carries, how long it is, and that nothing is remarked of it.
use Rattle.std.proofs.Common.{◌≡◌, ℕ, ◌+◌, ◌*◌, ◌<◌, ◌≤◌, true, ◌==◌, if◌then◌else◌, List, [], ◌∷◌, ◌++◌, length, take}
use Rattle.std.proofs.Common.{flat_map, refl, sym, ap, ap₂, ◌∙◌, subst, arith, length-append}
use Rattle.std.proofs.lemmas.Bool.{lt-leb, eq-eqb}
use Rattle.mb_message.specs.declared.note.NoteKind.TheVariants.{ReservedCin, CinMismatch}
use Rattle.mb_stream.specs.Payload.{Entry, Heard, Silent}
use Rattle.mb_stream.specs.Told.{Known, Notes}
use Rattle.mb_stream.proofs.LiteralMarks.{heard_bytes, heard_from-bytes}
use Rattle.mb_usb.specs.Packets.{packet, padded}
use Rattle.mb_usb.specs.Reading.{EventPacket, cable_of, cin_of, packets_from, packets, used, heard_in, cable_payload}
use Rattle.mb_usb.specs.Reading.{suits_rest, suits_packet, unit_note}

-- a packet to be written: its code index number, and the bytes that it carries
pub record Cut : Type 0 where
  pub number : ℕ
  pub bytes : List ℕ

abbrev pub cut : ℕ → List ℕ → Cut
cut number bytes = record { number = number; bytes = bytes }

abbrev pub packet_of : ℕ → Cut → List ℕ
packet_of cable x = packet cable x.number x.bytes

-- the number is none that is reserved, it uses just the bytes, and these suit it
pub record IsGood (x : Cut) : Type 0 where
  pub low : x.number < 16
  pub unreserved : 1 < x.number
  pub uses : used x.number ≡ length x.bytes
  pub three : length x.bytes ≤ 3
  pub suits : suits_rest x.number (padded x.bytes) ≡ true

abbrev pub AreGood : List Cut → Type 0
AreGood [] = Unit {0}
AreGood (x ∷ xs) = IsGood x × AreGood xs

pub AreGood-append : (xs ys : List Cut) → AreGood xs → AreGood ys → AreGood (xs ++ ys)
AreGood-append [] ys h k = k
AreGood-append (x ∷ xs) ys h k = (h.0, AreGood-append xs ys h.1 k)

pub AreGood-front : (xs ys : List Cut) → AreGood (xs ++ ys) → AreGood xs
AreGood-front [] ys h = tt
AreGood-front (x ∷ xs) ys h = (h.0, AreGood-front xs ys h.1)

abbrev pub written : ℕ → List Cut → List ℕ
written cable xs = flat_map (packet_of cable) xs

abbrev pub cut_bytes : List Cut → List ℕ
cut_bytes xs = flat_map (λ x. x.bytes) xs

abbrev pub packet_at : ℕ → ℕ → Cut → EventPacket
packet_at cable at x = record { at = at; head = cable * 16 + x.number; rest = padded x.bytes }

abbrev pub packets_at_from : ℕ → ℕ → List Cut → List EventPacket
packets_at_from cable at [] = []
packets_at_from cable at (x ∷ xs) = packet_at cable at x ∷ packets_at_from cable (at + 4) xs

-- a packet has four bytes
pub packets-padded : (at head : ℕ) (bs more : List ℕ) → packets_from at ((head ∷ padded bs) ++ more) ≡ record {
  at = at;
  head = head;
  rest = padded bs;
} ∷ packets_from (at + 4) more
packets-padded at head [] more = refl
packets-padded at head (a ∷ []) more = refl
packets-padded at head (a ∷ b ∷ []) more = refl
packets-padded at head (a ∷ b ∷ c ∷ bs) more = refl

length-padded : (bs : List ℕ) → length (padded bs) ≡ 3
length-padded [] = refl
length-padded (a ∷ []) = refl
length-padded (a ∷ b ∷ []) = refl
length-padded (a ∷ b ∷ c ∷ bs) = refl

take-padded : (bs : List ℕ) → length bs ≤ 3 → take (length bs) (padded bs) ≡ bs
take-padded [] h = refl
take-padded (a ∷ []) h = refl
take-padded (a ∷ b ∷ []) h = refl
take-padded (a ∷ b ∷ c ∷ []) h = refl
take-padded (a ∷ b ∷ c ∷ d ∷ bs) h = absurd (omega arith)

pub packets-written : (cable at : ℕ) (xs : List Cut) → packets_from at (written cable xs) ≡ packets_at_from cable at xs
packets-written cable at [] = refl
packets-written cable at (x ∷ xs) =
    packets-padded at (cable * 16 + x.number) x.bytes (written cable xs)
    ∙ ap (λ ps. packet_at cable at x ∷ ps) (packets-written cable (at + 4) xs)

cin-packet : (cable at : ℕ) (x : Cut) → x.number < 16 → cin_of (packet_at cable at x) ≡ x.number
cin-packet cable at x h = omega arith

cable-packet : (cable at : ℕ) (x : Cut) → x.number < 16 → cable_of (packet_at cable at x) ≡ cable
cable-packet cable at x h = omega arith

pub heard_bytes-append : (xs ys : List Entry) → heard_bytes (xs ++ ys) ≡ heard_bytes xs ++ heard_bytes ys
heard_bytes-append [] ys = refl
heard_bytes-append (Heard x ∷ xs) ys = ap (λ bs. x.byte ∷ bs) (heard_bytes-append xs ys)
heard_bytes-append (Silent s ∷ xs) ys = heard_bytes-append xs ys

carried-packet : (cable at : ℕ) (x : Cut) → IsGood x → heard_bytes (heard_in (packet_at cable at x)) ≡ x.bytes
carried-packet cable at x g =
    heard_from-bytes (at + 1) 0 (take (used (cin_of (packet_at cable at x))) (padded x.bytes))
    ∙ (ap (λ n. take n (padded x.bytes)) (ap used (cin-packet cable at x g.low) ∙ g.uses) ∙ take-padded x.bytes g.three)

carried-from : (cable at : ℕ) (xs : List Cut) → AreGood xs →
    heard_bytes (flat_map (λ p. if cable_of p == cable then heard_in p else []) (packets_at_from cable at xs)) ≡
    cut_bytes xs
carried-from cable at [] g = refl
carried-from cable at (x ∷ xs) g =
    let rest : List Entry = flat_map (λ p. if cable_of p == cable then heard_in p else [])
    (packets_at_from cable (at + 4) xs) in
    ap (λ t. heard_bytes ((if t then heard_in (packet_at cable at x) else []) ++ rest))
    (eq-eqb (cable_of (packet_at cable at x)) cable (cable-packet cable at x g.0.low))
    ∙ (heard_bytes-append (heard_in (packet_at cable at x)) rest
    ∙ ap₂ (λ bs cs. bs ++ cs) (carried-packet cable at x g.0) (carried-from cable (at + 4) xs g.1))

pub usb-carried : (cable : ℕ) (xs : List Cut) → AreGood xs → heard_bytes (cable_payload cable (written cable xs)) ≡
    cut_bytes xs
usb-carried cable xs g =
    ap (λ ps. heard_bytes (flat_map (λ p. if cable_of p == cable then heard_in p else []) ps))
    (packets-written cable 0 xs)
    ∙ carried-from cable 0 xs g

unit-none : (cable at : ℕ) (x : Cut) → IsGood x → unit_note (packet_at cable at x) ≡ []
unit-none cable at x g =
    let p : EventPacket = packet_at cable at x in
    let mismatch : Known = record { at = at + 3; rank = 4; moment = 0; told = Notes at CinMismatch } in
    ap (λ t. if t then record { at = at; rank = 4; moment = 0; told = Notes at ReservedCin } ∷ [] else
    (if suits_packet p then [] else mismatch ∷ []))
    (lt-leb (cin_of p) 1 (subst (λ n. 1 < n) (sym (cin-packet cable at x g.low)) g.unreserved))
    ∙ ap (λ t. if t then [] else mismatch ∷ []) (ap (λ n. suits_rest n (padded x.bytes)) (cin-packet cable at x g.low) ∙
    g.suits)

units-none : (cable at : ℕ) (xs : List Cut) → AreGood xs → flat_map unit_note (packets_at_from cable at xs) ≡ []
units-none cable at [] g = refl
units-none cable at (x ∷ xs) g = ap₂ (λ ks ls. ks ++ ls) (unit-none cable at x g.0) (units-none cable (at + 4) xs g.1)

-- nothing is remarked of a packet
pub unit_notes-none : (cable : ℕ) (xs : List Cut) → AreGood xs → flat_map unit_note (packets (written cable xs)) ≡ []
unit_notes-none cable xs g = ap (λ ps. flat_map unit_note ps) (packets-written cable 0 xs) ∙ units-none cable 0 xs g

pub length-written : (cable : ℕ) (xs : List Cut) → length (written cable xs) ≡ 4 * length xs
length-written cable [] = refl
length-written cable (x ∷ xs) =
    omega (arith, length-append (packet_of cable x) (written cable xs), length-padded x.bytes, length-written cable xs)
