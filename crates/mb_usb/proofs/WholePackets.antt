-- A packet that was taken whole: the same as its bytes one after the other.
use Rattle.std.proofs.Common.{◌≡◌, ◌↔◌, ℕ, zero, suc, ◌+◌, ◌-◌, ◌/◌, ◌%◌, ◌<◌, ◌≤◌, ◌≢◌, ◌⊎◌, inl, inr, Bool, true}
use Rattle.std.proofs.Common.{false, not, ◌&&◌, ◌||◌, ◌==◌, nat_le, if◌then◌else◌, Option, Some, None, OnSome, IsSome}
use Rattle.std.proofs.Common.{List, [], ◌∷◌, ◌++◌, length, take, drop, map, get_or, refl, sym, ◌∙◌, ap, ap₂, subst}
use Rattle.std.proofs.Common.{arith, append-nil, length-append}
use Rattle.std.proofs.lemmas.Bool.Decides.{nat_tests}
use Rattle.std.proofs.lemmas.List.{take_all, length-take}
use Rattle.mb_message.specs.Bytes.{is_data}
use Rattle.mb_message.specs.declared.note.Note.{Note}
use Rattle.mb_message.specs.declared.event.Seen.{Seen}
use Rattle.mb_message.specs.declared.note.NoteKind.TheVariants.{ReservedCin, CinMismatch}
use Rattle.mb_stream.specs.Told.{Told}
use Rattle.mb_stream.specs.Reading.{told_signs}
use Rattle.mb_din.specs.Reader.{TakesWhole, put_to, is_all_data, NextSays}
use Rattle.mb_stream.specs.ReaderLaw.{answer, Tells}
use Rattle.mb_din.specs.State.{State}
use Rattle.mb_stream.proofs.ReaderLemmas.{tells-trans}
use Rattle.mb_usb.specs.declared.under.Under.{Under}
use Rattle.mb_usb.specs.declared.under.Under.TheVariants.{Between, One, Two, Three}
use Rattle.mb_usb.specs.declared.under.Packets.{Packets}
use Rattle.mb_usb.specs.Reading.{used, suits_cin}
use Rattle.mb_usb.specs.Under.{is_of_cable, note_at, under_after, packet_after, packet_behind}
use Rattle.mb_usb.specs.Hands.{Hands}
use Rattle.mb_usb.specs.Whole.{WholeBytes, WholePacket, ArePassed, PassedOver}
use Rattle.mb_usb.specs.State.{IsBehind}
use Rattle.mb_usb.proofs.HandsLemmas.{packet_behind-offset}
use Rattle.mb_usb.specs.Cables.{port_by, only_cable}
use Rattle.mb_usb.proofs.CablesLaw.{only_low}
use Rattle.mb_usb.proofs.Steps.{step-pass, step-carry}
use Rattle.mb_usb.proofs.EachCable.{carried-by}
use Rattle.mb_usb.proofs.Longest.{used-three}
use Rattle.mb_usb.proofs.OnlyCable.{OnlyTells, OnlyHolds, only_known, only-is, join, then-none, then-pass, pass-behind}
use Rattle.mb_usb.proofs.OnlyCable.{undue-behind}
use Rattle.mb_ports.specs.Reader.{bare}

abbrev packet : ℕ → Under → Packets
packet o u = record { offset = o; under = u; due = None }

abbrev Goes_on : (c : ℕ) (p : Packets) (r : State) (q : Packets) (s : State) (input left : List ℕ)
    (seen : List (Option ℕ × Told)) → Type 0
Goes_on c p r q s input left seen = Tells bare (only_known c) (OnlyHolds c p r) (OnlyHolds c q s) input left seen

then_on : (c : ℕ) (p : Packets) (r : State) (q : Packets) (s : State) (t : Packets) (input between left : List ℕ)
    (seen : List (Option ℕ × Told)) → Goes_on c p r q s input between seen → Goes_on c q s t s between left [] →
    Goes_on c p r t s input left seen
then_on c p r q s t input between left seen f g =
    subst (λ z. Goes_on c p r t s input left z) (append-nil seen) (tells-trans bare (only_known c) (OnlyHolds c p r)
    (OnlyHolds c q s) (OnlyHolds c t s) input between left seen [] f g)

-- The notes: none where the number is used, and the bytes suit it.

no_note : (t u : Bool) (x : Note) → u ≡ true → (if t then None else (if u then None else Some x)) ≡ None
no_note true u x h = refl
no_note false true x h = refl
no_note false false x h = cc

is_used : (n : ℕ) → used n ≢ 0 → nat_le n 1 ≡ false
is_used n h = by_test (nat_le n 1) refl where
  by_test : (t : Bool) → nat_le n 1 ≡ t → nat_le n 1 ≡ false
  by_test false e = e
  by_test true e = absurd (h (ap (λ (t : Bool). if t then 0 else (if (n == 5) || (n == 15) then 1 else
      (if (n == 2) || (n == 6) || (n == 12) || (n == 13) then 2 else 3))) e))

-- Its first byte.

head_step : (c o h : ℕ) (r : State) (rest : List ℕ) → used (h % 16) ≢ 0 → Goes_on c (packet o Between) r
    (packet (o + 1) (One h)) r (h ∷ rest) rest []
head_step c o h r rest some =
    let quiet : note_at Between h o ≡ None = ap (λ (t : Bool).
    if t then Some (record { kind = ReservedCin; at = o }) else None) (is_used (h % 16) some) in
    step-pass (only_cable c) 1 (only_low c) (packet o Between) (packet (o + 1) (One h)) (λ _. r) h (h ∷ rest) rest refl
    refl
    (ap (λ (n : Option Note). record { offset = o + 1; under = One h; due = n }) (sym quiet)) refl

-- The bytes that it uses, which its cable's reader takes whole.

carry_step : (c o h u b : ℕ) (r s : State) (told : List Told) (taken rest input left : List ℕ) → h / 16 ≡ c →
    used (h % 16) ≢ 0 → used (h % 16) ≡ u → input ≡ b ∷ rest → take u input ≡ taken → drop u input ≡ left →
    TakesWhole r s (o + 1) taken told →
    Goes_on c (packet (o + 1) (One h)) r (packet_behind (packet (o + 1) (One h)) taken) s input left
    (map (λ y. (Some 0, y)) told)
carry_step c o h u b r s told taken rest input left of some e first front back takes =
    let piece : take (used (h % 16)) input ≡ taken = ap (λ z. take z input) e ∙ front in
    let hands : Hands (packet (o + 1) (One h)) (packet_behind (packet (o + 1) (One h)) taken) r s input left told =
    record {
      taken = taken;
      kept = [];
      piece = piece ∙ sym (append-nil taken);
      left_is = sym (ap (λ z. drop z input) e ∙ back);
      packet = refl;
      offset = takes.offset;
      stays = takes.stays;
      says = subst (λ z. NextSays (put_to (o + 1) r) s z [] told) (sym piece) takes.goes;
    } in
    step-carry (only_cable c) 1 (only_low c) (packet (o + 1) (One h)) (packet_behind (packet (o + 1) (One h)) taken)
    (λ _. r) (λ _. s) 0 b input rest left told refl
    (carried-by (used (h % 16)) (only_cable c (h / 16)) 0 some (only-is c (h / 16) of)) some first hands (λ d low apart.
    let none : d ≡ 0 = omega arith in absurd (apart none))

-- Those that it doesn't use.

unused : (c left : ℕ) (port : Option ℕ) → left ≡ 0 → port_by left port ≡ None
unused c left port e = ap (λ (z : ℕ). port_by z port) e

third_step : (c o h a b : ℕ) (s : State) (rest : List ℕ) → used (h % 16) ≡ 1 → Goes_on c (packet o (Two h a)) s
    (packet (o + 1) (Three h a b)) s (b ∷ rest) rest []
third_step c o h a b s rest e =
    let none : used (h % 16) - 1 ≡ 0 = omega (arith, e) in
    step-pass (only_cable c) 1 (only_low c) (packet o (Two h a)) (packet (o + 1) (Three h a b)) (λ _. s) b (b ∷ rest)
    rest refl (unused c (used (h % 16) - 1) (only_cable c (h / 16)) none) refl refl

fourth_step : (c o h a b d : ℕ) (s : State) (rest : List ℕ) → used (h % 16) ≤ 2 → suits_cin (h % 16) a b d ≡ true →
    Goes_on c (packet o (Three h a b)) s (packet (o + 1) Between) s (d ∷ rest) rest []
fourth_step c o h a b d s rest e suits =
    let none : used (h % 16) - 2 ≡ 0 = omega (arith, e) in
    let quiet : note_at (Three h a b) d o ≡ None = no_note (nat_le (h % 16) 1) (suits_cin (h % 16) a b d)
    (record { kind = CinMismatch; at = o - 3 }) suits in
    step-pass (only_cable c) 1 (only_low c) (packet o (Three h a b)) (packet (o + 1) Between) (λ _. s) d (d ∷ rest) rest
    refl (unused c (used (h % 16) - 2) (only_cable c (h / 16)) none)
    (ap (λ (n : Option Note). record { offset = o + 1; under = Between; due = n }) (sym quiet)) refl

-- All of it.

abbrev Whole : (c o h : ℕ) (r s : State) (told : List Told) (bytes left : List ℕ) → Type 0
Whole c o h r s told bytes left = Goes_on c (packet (o + 1) (One h)) r (packet (o + 1 + 1 + 1 + 1) Between) s (bytes ++
    left) left (map (λ y. (Some 0, y)) told)

by_used : (c o h u a b d : ℕ) (r s : State) (told : List Told) (left : List ℕ) → h / 16 ≡ c → used (h % 16) ≢ 0 →
    used (h % 16) ≤ 3 → used (h % 16) ≡ u → suits_cin (h % 16) a b d ≡ true →
    TakesWhole r s (o + 1) (take u (a ∷ b ∷ d ∷ [])) told →
    Whole c o h r s told (a ∷ b ∷ d ∷ []) left
by_used c o h zero a b d r s told left of some few e suits takes = absurd (some e)
by_used c o h (suc zero) a b d r s told left of some few e suits takes =
    let seen = map (λ y. (Some 0, y)) told in
    let at = packet (o + 1) (One h) in
    let first : Goes_on c at r (packet (o + 1 + 1) (Two h a)) s (a ∷ b ∷ d ∷ left) (b ∷ d ∷ left) seen =
    carry_step c o h 1 a r s told (a ∷ []) (b ∷ d ∷ left) (a ∷ b ∷ d ∷ left) (b ∷ d ∷ left) of some e refl refl refl
    takes in
    let second : Goes_on c at r (packet (o + 1 + 1 + 1) (Three h a b)) s (a ∷ b ∷ d ∷ left) (d ∷ left) seen =
    then_on c at r (packet (o + 1 + 1) (Two h a)) s (packet (o + 1 + 1 + 1) (Three h a b)) (a ∷ b ∷ d ∷ left)
    (b ∷ d ∷ left) (d ∷ left) seen first (third_step c (o + 1 + 1) h a b s (d ∷ left) e) in
    then_on c at r (packet (o + 1 + 1 + 1) (Three h a b)) s (packet (o + 1 + 1 + 1 + 1) Between) (a ∷ b ∷ d ∷ left)
    (d ∷ left) left seen second (fourth_step c (o + 1 + 1 + 1) h a b d s left (omega (arith, e)) suits)
by_used c o h (suc (suc zero)) a b d r s told left of some few e suits takes =
    let seen = map (λ y. (Some 0, y)) told in
    let at = packet (o + 1) (One h) in
    let second : Goes_on c at r (packet (o + 1 + 1 + 1) (Three h a b)) s (a ∷ b ∷ d ∷ left) (d ∷ left) seen =
    carry_step c o h 2 a r s told (a ∷ b ∷ []) (b ∷ d ∷ left) (a ∷ b ∷ d ∷ left) (d ∷ left) of some e refl refl refl
    takes in
    then_on c at r (packet (o + 1 + 1 + 1) (Three h a b)) s (packet (o + 1 + 1 + 1 + 1) Between) (a ∷ b ∷ d ∷ left)
    (d ∷ left) left seen second (fourth_step c (o + 1 + 1 + 1) h a b d s left (omega (arith, e)) suits)
by_used c o h (suc (suc (suc zero))) a b d r s told left of some few e suits takes =
    let quiet : note_at (Three h a b) d (o + 1 + 1 + 1) ≡ None = no_note (nat_le (h % 16) 1) (suits_cin (h % 16) a b d)
    (record { kind = CinMismatch; at = o + 1 + 1 + 1 - 3 }) suits in
    subst (λ (n : Option Note). Goes_on c (packet (o + 1) (One h)) r (record {
      offset = o + 1 + 1 + 1 + 1;
      under =
          Between;
      due = n;
    }) s (a ∷ b ∷ d ∷ left) left (map (λ y. (Some 0, y)) told)) quiet
    (carry_step c o h 3 a r s told (a ∷ b ∷ d ∷ []) (b ∷ d ∷ left) (a ∷ b ∷ d ∷ left) left of some e refl refl refl
    takes)
by_used c o h (suc (suc (suc (suc u)))) a b d r s told left of some few e suits takes = absurd (omega (arith, e, few))

by_bytes : (c o h : ℕ) (r s : State) (told : List Told) (bytes left : List ℕ) → h / 16 ≡ c → length bytes ≡ 3 →
    WholeBytes (h % 16) bytes (o + 1) r s told → Whole c o h r s told bytes left
by_bytes c o h r s told (a ∷ b ∷ d ∷ []) left of three w = by_used c o h (used (h % 16)) a b d r s told left of w.some
    (used-three (h % 16)) refl w.suits w.takes
by_bytes c o h r s told [] left of three w = absurd (omega (arith, three))
by_bytes c o h r s told (a ∷ []) left of three w = absurd (omega (arith, three))
by_bytes c o h r s told (a ∷ b ∷ []) left of three w = absurd (omega (arith, three))
by_bytes c o h r s told (a ∷ b ∷ d ∷ e ∷ l) left of three w = absurd (omega (arith, three))

packet-step : (c : ℕ) (p q : Packets) (r s : State) (input left : List ℕ) (told : List Told) → p.due ≡ None →
    WholePacket c p q r s input left told → Goes_on c p r q s input left (map (λ y. (Some 0, y)) told)
packet-step c p q r s input left told due w =
    let seen = map (λ y. (Some 0, y)) told in
    let first : p ≡ packet p.offset Between = ap₂ (λ (u : Under) (n : Option Note). record {
      offset = p.offset;
      under =
          u;
      due = n;
    }) w.between due in
    let end : p.offset + 1 + 1 + 1 + 1 ≡ p.offset + 4 = omega arith in
    let last : packet (p.offset + 1 + 1 + 1 + 1) Between ≡ q = ap (λ z. packet z Between) end ∙ sym w.behind in
    let front : Goes_on c (packet p.offset Between) r (packet (p.offset + 1) (One w.head)) r (w.head ∷ (w.bytes ++
    left)) (w.bytes ++ left) [] = head_step c p.offset w.head r (w.bytes ++ left) w.carries.some in
    let all : Goes_on c (packet p.offset Between) r (packet (p.offset + 1 + 1 + 1 + 1) Between) s (w.head ∷ (w.bytes ++
    left)) left seen =
    tells-trans bare (only_known c) (OnlyHolds c (packet p.offset Between) r)
    (OnlyHolds c (packet (p.offset + 1) (One w.head)) r) (OnlyHolds c (packet (p.offset + 1 + 1 + 1 + 1) Between) s)
    (w.head ∷ (w.bytes ++ left)) (w.bytes ++ left) left [] seen front (by_bytes c p.offset w.head r s told w.bytes
    left w.of w.three w.carries) in
    subst (λ (z : List ℕ). Goes_on c p r q s z left seen) (sym w.front)
    (subst (λ (z : Packets). Goes_on c z r q s (w.head ∷ (w.bytes ++ left)) left seen) (sym first)
    (subst (λ (z : Packets). Goes_on c (packet p.offset Between) r z s (w.head ∷ (w.bytes ++ left)) left seen) last
    all))

pub then-packet : (c : ℕ) (a p q t : Packets) (x r s : State) (start input left : List ℕ) (told : List Told) →
    OnlyTells c a x p r start input [] → p.due ≡ None → q ≡ record p { due = None } →
    WholePacket c q t r s input left told → OnlyTells c a x t s start left (map (λ y. (Some 0, y)) told)
then-packet c a p q t x r s start input left told before due same w =
    join c a q t x r s start input left (map (λ y. (Some 0, y)) told) (then-none c a p q x r start input before due
    same)
    (packet-step c q t r s input left told (ap (λ (z : Packets). z.due) same) w)

-- The bytes that a number uses, and that they suit it.

suits_by : (e f g h i j k x : Bool) (l m n o p q : Bool) → e ≡ false → f ≡ false → g ≡ false → h ≡ false → i ≡ false →
    j ≡ false → k ≡ false → x ≡ true →
    (if e then l else (if f then m else (if g then n else (if h then o else
    (if i then p else (if j then q else (if k then true else x))))))) ≡ true
suits_by false false false false false false false x l m n o p q a b c d y z w u = u
suits_by true f g h i j k x l m n o p q a b c d y z w u = cc
suits_by false true g h i j k x l m n o p q a b c d y z w u = cc
suits_by false false true h i j k x l m n o p q a b c d y z w u = cc
suits_by false false false true i j k x l m n o p q a b c d y z w u = cc
suits_by false false false false true j k x l m n o p q a b c d y z w u = cc
suits_by false false false false false true k x l m n o p q a b c d y z w u = cc
suits_by false false false false false false true x l m n o p q a b c d y z w u = refl

channel-suits : (n a b d : ℕ) → 8 ≤ n → n ≢ 15 → n ≡ a / 16 → is_data b ≡ true → ((n == 12) || (n == 13) || is_data d) ≡
    true → suits_cin n a b d ≡ true
channel-suits n a b d low not_single same first second =
    let head : (a / 16 == n) ≡ true = grind (arith, nat_tests) in
    suits_by (n == 2) (n == 3) (n == 4) (n == 5) (n == 6) (n == 7) (n == 15) ((a / 16 == n) && is_data b &&
    ((n == 12) || (n == 13) || is_data d)) _ _ _ _ _ _
    (grind (arith, nat_tests)) (grind (arith, nat_tests)) (grind (arith, nat_tests)) (grind (arith, nat_tests))
    (grind (arith, nat_tests)) (grind (arith, nat_tests)) (grind (arith, nat_tests))
    (ap₂ (λ (t u : Bool). t && u && ((n == 12) || (n == 13) || is_data d)) head first ∙ second)

used-two : (n : ℕ) → (n ≡ 12) ⊎ (n ≡ 13) → used n ≡ 2
used-two n (inl e) = ap used e
used-two n (inr e) = ap used e

one-of : (n d : ℕ) → (n ≡ 12) ⊎ (n ≡ 13) → ((n == 12) || (n == 13) || is_data d) ≡ true
one-of n d (inl e) = ap (λ (z : ℕ). (z == 12) || (z == 13) || is_data d) e
one-of n d (inr e) = ap (λ (z : ℕ). (z == 12) || (z == 13) || is_data d) e

eight-of : (n : ℕ) → (n ≡ 12) ⊎ (n ≡ 13) → (8 ≤ n) × (n ≢ 15)
eight-of n (inl e) = (omega (arith, e), λ f. omega (arith, e, f))
eight-of n (inr e) = (omega (arith, e), λ f. omega (arith, e, f))

used-many : (n u : ℕ) → used n ≡ suc u → used n ≢ 0
used-many n u e f = omega (arith, e, f)

both : (t u : Bool) → (t && u) ≡ true → (t ≡ true) × (u ≡ true)
both true true e = (refl, refl)
both true false e = cc
both false u e = cc

pub bytes-two : (free : Bool) (r : Option Seen) (n at : ℕ) (bytes : List ℕ) (reader next : State) → length bytes ≡ 3 →
    (n ≡ 12) ⊎ (n ≡ 13) → n ≡ get_or bytes 0 0 / 16 → IsSome r ↔ ((free && is_data (get_or bytes 1 0)) ≡ true) →
    OnSome r (TakesWhole reader next at (get_or bytes 0 0 ∷ get_or bytes 1 0 ∷ []) (answer r)) →
    OnSome r (WholeBytes n bytes at reader next (answer r))
bytes-two free None n at bytes reader next three number same when takes = tt
bytes-two free (Some x) n at (a ∷ b ∷ d ∷ []) reader next three number same when takes =
    let u : used n ≡ 2 = used-two n number in
    record {
      some = used-many n 1 u;
      suits = channel-suits n a b d (eight-of n number).0 (eight-of n number).1 same
          (both free (is_data b) (when.0 refl)).1 (one-of n d number);
      takes = subst (λ (z : ℕ). TakesWhole reader next at (take z (a ∷ b ∷ d ∷ [])) (answer (Some x))) (sym u) takes;
    }
bytes-two free (Some x) n at [] reader next three number same when takes = absurd (omega (arith, three))
bytes-two free (Some x) n at (a ∷ []) reader next three number same when takes = absurd (omega (arith, three))
bytes-two free (Some x) n at (a ∷ b ∷ []) reader next three number same when takes = absurd (omega (arith, three))
bytes-two free (Some x) n at (a ∷ b ∷ d ∷ e ∷ l) reader next three number same when takes =
    absurd (omega (arith, three))

used-other : (n : ℕ) → 8 ≤ n → n ≢ 15 → n ≢ 12 → n ≢ 13 → used n ≡ 3
used-other n low a b c = grind (arith, nat_tests)

last-data : (n d : ℕ) → is_data d ≡ true → ((n == 12) || (n == 13) || is_data d) ≡ true
last-data n d e = grind (arith, nat_tests)

pub bytes-three : (free : Bool) (r : Option Seen) (n at : ℕ) (bytes : List ℕ) (reader next : State) → length bytes ≡ 3 →
    8 ≤ n → n ≢ 15 → n ≢ 12 → n ≢ 13 → n ≡ get_or bytes 0 0 / 16 →
    IsSome r ↔ ((free && is_data (get_or bytes 1 0) && is_data (get_or bytes 2 0)) ≡ true) →
    OnSome r (TakesWhole reader next at (get_or bytes 0 0 ∷ get_or bytes 1 0 ∷ get_or bytes 2 0 ∷ []) (answer r)) →
    OnSome r (WholeBytes n bytes at reader next (answer r))
bytes-three free None n at bytes reader next three low a15 a12 a13 same when takes = tt
bytes-three free (Some x) n at (a ∷ b ∷ d ∷ []) reader next three low a15 a12 a13 same when takes =
    let u : used n ≡ 3 = used-other n low a15 a12 a13 in
    let data_bytes : ((free && is_data b) ≡ true) × (is_data d ≡ true) = both (free && is_data b) (is_data d)
    (when.0 refl) in
    record {
      some = used-many n 2 u;
      suits = channel-suits n a b d low a15 same (both free (is_data b) data_bytes.0).1 (last-data n d data_bytes.1);
      takes = subst (λ (z : ℕ). TakesWhole reader next at (take z (a ∷ b ∷ d ∷ [])) (answer (Some x))) (sym u) takes;
    }
bytes-three free (Some x) n at [] reader next three low a15 a12 a13 same when takes = absurd (omega (arith, three))
bytes-three free (Some x) n at (a ∷ []) reader next three low a15 a12 a13 same when takes =
    absurd (omega (arith, three))
bytes-three free (Some x) n at (a ∷ b ∷ []) reader next three low a15 a12 a13 same when takes =
    absurd (omega (arith, three))
bytes-three free (Some x) n at (a ∷ b ∷ d ∷ e ∷ l) reader next three low a15 a12 a13 same when takes =
    absurd (omega (arith, three))

goes_on-suits : (n a b d : ℕ) → n ≡ 4 → (is_data a && (is_data b && (is_data d && true))) ≡ true → suits_cin n a b d ≡
    true
goes_on-suits n a b d e h = ap (λ (z : ℕ). suits_cin z a b d) e ∙ by_tests (a == 0xf0) (is_data a) (is_data b)
    (is_data d) h where
      by_tests : (s x y z : Bool) → (x && (y && (z && true))) ≡ true → ((s || x) && y && z) ≡ true
      by_tests true true true true h = refl
      by_tests false true true true h = refl
      by_tests s false y z h = cc
      by_tests s true false z h = cc
      by_tests s true true false h = cc

pub bytes-run : (open_now : Bool) (r : Option Seen) (n at : ℕ) (bytes : List ℕ) (reader next : State) →
    length bytes ≡ 3 → n ≡ 4 → IsSome r ↔ ((open_now && is_all_data bytes) ≡ true) →
    OnSome r (TakesWhole reader next at bytes (answer r)) → OnSome r (WholeBytes n bytes at reader next (answer r))
bytes-run open_now None n at bytes reader next three number when takes = tt
bytes-run open_now (Some x) n at (a ∷ b ∷ d ∷ []) reader next three number when takes =
    let u : used n ≡ 3 = ap used number in
    record {
      some = used-many n 2 u;
      suits = goes_on-suits n a b d number (both open_now (is_all_data (a ∷ b ∷ d ∷ [])) (when.0 refl)).1;
      takes = subst (λ (z : ℕ). TakesWhole reader next at (take z (a ∷ b ∷ d ∷ [])) (answer (Some x))) (sym u) takes;
    }
bytes-run open_now (Some x) n at [] reader next three number when takes = absurd (omega (arith, three))
bytes-run open_now (Some x) n at (a ∷ []) reader next three number when takes = absurd (omega (arith, three))
bytes-run open_now (Some x) n at (a ∷ b ∷ []) reader next three number when takes = absurd (omega (arith, three))
bytes-run open_now (Some x) n at (a ∷ b ∷ d ∷ e ∷ l) reader next three number when takes = absurd (omega (arith, three))

-- Bytes that are passed over.

pub one-passed : (c : ℕ) (p q : Packets) (b : ℕ) (rest : List ℕ) → p.due ≡ None → is_of_cable c p.under ≡ false →
    q ≡ packet_after p b → PassedOver c p q (b ∷ rest) rest
one-passed c p q b rest due other after = record {
  taken = b ∷ [];
  front = refl;
  passed = (due, other, tt);
  behind =
      after;
}

not_same : (h c : ℕ) → h ≢ c → (h == c) ≡ false
not_same h c apart = grind (arith, nat_tests)

pub four-passed : (c : ℕ) (p q : Packets) (h a b d : ℕ) (left : List ℕ) → p.due ≡ None → is_of_cable c p.under ≡ false →
    p.under ≡ Between → h / 16 ≢ c → 1 < h % 16 →
    q ≡ packet_behind p (h ∷ a ∷ b ∷ d ∷ []) → PassedOver c p q (h ∷ a ∷ b ∷ d ∷ left) left
four-passed c p q h a b d left due other between apart carries after =
    let quiet : note_at p.under h p.offset ≡ None =
    ap (λ (u : Under). note_at u h p.offset) between ∙ ap (λ (t : Bool).
    if t then Some (record { kind = ReservedCin; at = p.offset }) else None) (not_reserved (h % 16) carries) in
    let first : under_after p.under h ≡ One h = ap (λ (u : Under). under_after u h) between in
    let next : Packets = packet (p.offset + 1) (One h) in
    let is_next : packet_after p h ≡ next = ap₂ (λ (u : Under) (n : Option Note). record {
      offset = p.offset + 1;
      under = u;
      due = n;
    }) first quiet in
    let foreign : (left_now : ℕ) → ((h / 16 == c) && not (left_now == 0)) ≡ false = λ left_now.
    ap (λ (t : Bool). t && not (left_now == 0)) (not_same (h / 16) c apart) in
    record {
      taken = h ∷ a ∷ b ∷ d ∷ [];
      front = refl;
      passed = (
        due,
        other,
        subst (λ (z : Packets). ArePassed c z (a ∷ b ∷ d ∷ [])) (sym is_next) (
          refl,
          foreign (used (h % 16)),
          (
            refl,
            foreign (used (h % 16) - 1),
            (
              refl,
              foreign (used (h % 16) - 2),
              tt,
            ),
          ),
        ),
      );
      behind = after;
    }
  where
    not_reserved : (n : ℕ) → 1 < n → nat_le n 1 ≡ false
    not_reserved n low = grind (arith, nat_tests)

then-passed : (c : ℕ) (a p : Packets) (x r : State) (start : List ℕ) (taken left : List ℕ) →
    OnlyTells c a x p r start (taken ++ left) [] → ArePassed c p taken → OnlyTells c a x (packet_behind p taken) r start
    left []
then-passed c a p x r start [] left before passed = before
then-passed c a p x r start (b ∷ bs) left before passed =
    then-passed c a (packet_after p b) x r start bs left
    (then-pass c a p p (packet_after p b) x r start (b ∷ (bs ++ left)) (bs ++ left) b before passed.0
    (ap (λ (n : Option Note). record p { due = n }) passed.0) passed.1 refl refl)
    passed.2

pub then-over : (c : ℕ) (a p q t : Packets) (x r : State) (start input left : List ℕ) → OnlyTells c a x p r start input
    [] → p.due ≡ None → q ≡ record p { due = None } → PassedOver c q t input left → OnlyTells c a x t r start left []
then-over c a p q t x r start input left before due same w =
    let at_q : OnlyTells c a x q r start input [] = then-none c a p q x r start input before due same in
    subst (λ (z : Packets). OnlyTells c a x z r start left []) (sym w.behind)
    (then-passed c a q x r start w.taken left (subst (λ (z : List ℕ). OnlyTells c a x q r start z []) w.front at_q)
    w.passed)

passed-behind : (c : ℕ) (p : Packets) (r : State) (taken : List ℕ) → IsBehind p r → ArePassed c p taken →
    IsBehind (packet_behind p taken) r
passed-behind c p r [] h passed = h
passed-behind c p r (b ∷ bs) h passed =
    passed-behind c (packet_after p b) r bs (pass-behind p p (packet_after p b) r b h (ap (λ (n : Option Note).
    record p { due = n }) passed.0) refl) passed.2

pub over-behind : (c : ℕ) (p q t : Packets) (r : State) (input left : List ℕ) → IsBehind p r →
    q ≡ record p { due = None } → PassedOver c q t input left → IsBehind t r
over-behind c p q t r input left h same w =
    subst (λ (z : Packets). IsBehind z r) (sym w.behind) (passed-behind c q r w.taken (undue-behind p q r h same)
    w.passed)

pub over-ends : (c : ℕ) (q t : Packets) (input left : List ℕ) → PassedOver c q t input left → t.offset + length left ≡
    q.offset + length input
over-ends c q t input left w =
    omega (
      arith,
      ap (λ (z : Packets). z.offset) w.behind,
      packet_behind-offset q w.taken,
      ap length w.front,
      length-append w.taken left,
    )

-- three elements, and those behind them
pub front-three : (xs : List ℕ) → 3 ≤ length xs → xs ≡ get_or xs 0 0 ∷
    (get_or xs 1 0 ∷ (get_or xs 2 0 ∷ take (length xs - 3) (drop 3 xs)))
front-three [] few = absurd (omega arith)
front-three (a ∷ []) few = absurd (omega arith)
front-three (a ∷ b ∷ []) few = absurd (omega arith)
front-three (a ∷ b ∷ d ∷ l) few = ap (λ z. a ∷ (b ∷ (d ∷ z)))
    (sym (take_all (length (a ∷ b ∷ d ∷ l) - 3) l (omega arith)))

pub packet-few : (c : ℕ) (p q : Packets) (r s : State) (input left : List ℕ) (told : List Told) →
    WholePacket c p q r s input left told →
    length (told_signs told) ≤ length input
packet-few c p q r s input left told w =
    omega (
      arith,
      w.carries.takes.few,
      length-take (used (w.head % 16)) w.bytes,
      ap length w.front,
      length-append w.bytes left,
    )
