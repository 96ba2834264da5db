-- The packets of a list in the order of their places are those that the running form writes at each mark.
--
--   placed_from c i p ms    the packets at each mark and at the end of the list, with their places
use Rattle.std.proofs.Common.{◌≡◌, ℕ, ◌+◌, ◌==◌, ◌<◌, ◌≤◌, Bool, true, false, List, [], ◌∷◌, ◌++◌, if◌then◌else◌}
use Rattle.std.proofs.Common.{flat_map, length, refl, sym, ap, ◌∙◌, arith, append_assoc}
use Rattle.std.proofs.lemmas.Bool.Decides.{nat_tests}
use Rattle.std.proofs.lemmas.Bool.{false≢true}
use Rattle.std.proofs.lemmas.Grind.{flat_map-append}
use Rattle.mb_message.specs.Bytes.{is_data}
use Rattle.mb_message.specs.Signs.{Sign, ShortSign, RtSign, OpenSign, ByteSign, EndSign, AbortSign}
use Rattle.mb_stream.specs.Spelling.{data_of}
use Rattle.mb_stream.specs.Standing.{suited, is_open}
use Rattle.mb_stream.proofs.StandingLemmas.{Suited, Suited-from_suited, Suited-append, open_from, is_open-from}
use Rattle.mb_usb.specs.Packets.{packet, cin_of_short, single}
use Rattle.mb_usb.specs.Running.{pending_after, packets_at, usb_at, usb_from, pending_from}
use Rattle.mb_usb.specs.Written.{Placed, at_place, by_place, before_place, bytes_of, rest_of_sysex, end_of_sysex}
use Rattle.mb_usb.specs.Written.{sysex_packets, usb_packets, usb_written, usb_live}
use Rattle.mb_usb.proofs.RunningLemmas.{usb_from-append, usb_from-one}
use Rattle.mb_usb.proofs.Places.{From, From-less, From-append, by_place-first, by_place-front, all_at}
use Rattle.mb_usb.proofs.Places.{before_place-append, before_place-all, before_place-none}
use Rattle.mb_usb.proofs.PacketPlaces.{rest_of_sysex-From, end_of_sysex-least, sysex_packets-From, later-packets}
use Rattle.mb_usb.proofs.PacketPlaces.{FewHeld, FewHeld-few, single-packets, two-packets, sysex_packets-pending}
use Rattle.mb_usb.proofs.PacketPlaces.{rest_of_sysex-outside}

-- the running form with places

abbrev pub things : List (Placed ℕ) → List ℕ
things [] = []
things (x ∷ xs) = x.thing ∷ things xs

abbrev pub placed_from : (cable place : ℕ) → List ℕ → List Sign → List (Placed (List ℕ))
placed_from c i p [] = all_at i (packets_at c p AbortSign)
placed_from c i p (m ∷ ms) = all_at i (packets_at c p m) ++ placed_from c (i + 1) (pending_after p m) ms

-- all packets from a place on, q waiting there
abbrev all_from : (cable place : ℕ) → List (Placed ℕ) → List Sign → List (Placed (List ℕ))
all_from c i q ms = sysex_packets c (end_of_sysex i ms) (q ++ rest_of_sysex i ms) ++ usb_packets c i ms

all_from-outside : (c i : ℕ) (ms : List Sign) → Suited false ms → all_from c i [] ms ≡ usb_packets c i ms
all_from-outside c i ms s =
    ap (λ (rest : List (Placed ℕ)). sysex_packets c (end_of_sysex i ms) rest ++ usb_packets c i ms)
    (rest_of_sysex-outside i ms s)

data_is_no_end : (b : ℕ) → is_data b ≡ true → (b == 0xf7) ≡ false
data_is_no_end b h = grind (arith, nat_tests)

-- a packet at this place, and then what comes of the marks behind it, where no SysEx is open
closed-step : (c i : ℕ) (p : List ℕ) (ms : List Sign) → Suited false ms →
    by_place (all_from c (i + 1) [] ms) ≡ placed_from c (i + 1) [] ms →
    by_place (at_place i p ∷ usb_packets c (i + 1) ms) ≡ at_place i p ∷ placed_from c (i + 1) [] ms
closed-step c i p ms s behind =
    by_place-first (at_place i p) (usb_packets c (i + 1) ms) (later-packets c i ms) ∙
    ap (λ (ps : List (Placed (List ℕ))). at_place i p ∷ by_place ps) (sym (all_from-outside c (i + 1) ms s)) ∙
    ap (λ (ps : List (Placed (List ℕ))). at_place i p ∷ ps) behind

-- the third byte of a packet of number 4
three-step : (c i : ℕ) (x y : Placed ℕ) (b : ℕ) (ms : List Sign) → (b == 0xf7) ≡ false →
    by_place (all_from c (i + 1) [] ms) ≡ placed_from c (i + 1) [] ms →
    by_place (all_from c i (x ∷ y ∷ []) (ByteSign b ∷ ms)) ≡ placed_from c i (x.thing ∷ y.thing ∷ []) (ByteSign b ∷ ms)
three-step c i x y b ms none behind =
    let packets = all_from c (i + 1) [] ms in
    let later : From i packets =
    From-append i (sysex_packets c (end_of_sysex (i + 1) ms) (rest_of_sysex (i + 1) ms)) (usb_packets c (i + 1) ms)
    (sysex_packets-From c i (end_of_sysex (i + 1) ms) (rest_of_sysex (i + 1) ms)
    (From-less i (i + 1) (rest_of_sysex (i + 1) ms) (omega arith) (rest_of_sysex-From (i + 1) ms))
    (omega (arith, end_of_sysex-least (i + 1) ms)))
    (later-packets c i ms) in
    ap (λ (t : Bool). by_place (at_place i (packet c (if t then 7 else 4) (x.thing ∷ y.thing ∷ b ∷ [])) ∷ packets))
    none ∙
    by_place-first (at_place i (packet c 4 (x.thing ∷ y.thing ∷ b ∷ []))) packets later ∙
    ap (λ (ps : List (Placed (List ℕ))). at_place i (packet c 4 (x.thing ∷ y.thing ∷ b ∷ [])) ∷ ps) behind

-- The one induction, over the marks: q waits before them.
all_from-placed : (c i : ℕ) (o : Bool) (q : List (Placed ℕ)) (ms : List Sign) → FewHeld o q → Suited o ms →
    by_place (all_from c i q ms) ≡ placed_from c i (things q) ms
-- the end of the list
all_from-placed c i false [] [] h s = refl
all_from-placed c i true [] [] h s = refl
all_from-placed c i true (x ∷ []) [] h s = ap (λ (ps : List (Placed (List ℕ))). by_place ((ps ++ []) ++ []))
    (single-packets c i x h)
all_from-placed c i true (x ∷ y ∷ []) [] h s =
    ap (λ (ps : List (Placed (List ℕ))). by_place ((ps ++ []) ++ [])) (two-packets c i x y h.1) ∙
    by_place-first (at_place i (single c x.thing)) (at_place i (single c y.thing) ∷ []) (omega arith, tt)
all_from-placed c i true (x ∷ y ∷ z ∷ q) ms h s = absurd h
all_from-placed c i false (x ∷ q) ms h s = absurd h
-- a real-time message goes before what waits
all_from-placed c i o q (RtSign b ∷ ms) h s =
    let packets = sysex_packets c (end_of_sysex (i + 1) ms) (q ++ rest_of_sysex (i + 1) ms) in
    by_place-front packets (at_place i (single c b)) (usb_packets c (i + 1) ms)
    (sysex_packets-pending c (i + 1) (end_of_sysex (i + 1) ms) q (rest_of_sysex (i + 1) ms) (FewHeld-few o q h)
    (rest_of_sysex-From (i + 1) ms) (end_of_sysex-least (i + 1) ms))
    (later-packets c i ms) ∙
    ap (λ (ps : List (Placed (List ℕ))). at_place i (single c b) ∷ ps) (all_from-placed c (i + 1) o q ms h s.1)
-- outside a SysEx
all_from-placed c i false [] (ShortSign t a b ∷ ms) h s =
    closed-step c i (packet c (cin_of_short t) (t ∷ data_of t a b)) ms s.1 (all_from-placed c (i + 1) false [] ms tt
    s.1)
all_from-placed c i false [] (OpenSign ∷ ms) h s = all_from-placed c (i + 1) true (at_place i 0xf0 ∷ []) ms refl s.1
all_from-placed c i false [] (ByteSign b ∷ ms) h s = absurd (false≢true s.0)
all_from-placed c i false [] (EndSign ∷ ms) h s = absurd (false≢true s.0)
all_from-placed c i false [] (AbortSign ∷ ms) h s = absurd (false≢true s.0)
-- inside
all_from-placed c i true [] (ShortSign t a b ∷ ms) h s = absurd (false≢true s.0)
all_from-placed c i true (x ∷ []) (ShortSign t a b ∷ ms) h s = absurd (false≢true s.0)
all_from-placed c i true (x ∷ y ∷ []) (ShortSign t a b ∷ ms) h s = absurd (false≢true s.0)
all_from-placed c i true [] (OpenSign ∷ ms) h s = absurd (false≢true s.0)
all_from-placed c i true (x ∷ []) (OpenSign ∷ ms) h s = absurd (false≢true s.0)
all_from-placed c i true (x ∷ y ∷ []) (OpenSign ∷ ms) h s = absurd (false≢true s.0)
all_from-placed c i true [] (ByteSign b ∷ ms) h s = all_from-placed c (i + 1) true (at_place i b ∷ []) ms
    (data_is_no_end b s.0) s.1
all_from-placed c i true (x ∷ []) (ByteSign b ∷ ms) h s =
    all_from-placed c (i + 1) true (x ∷ at_place i b ∷ []) ms (h, data_is_no_end b s.0) s.1
all_from-placed c i true (x ∷ y ∷ []) (ByteSign b ∷ ms) h s =
    three-step c i x y b ms (data_is_no_end b s.0) (all_from-placed c (i + 1) true [] ms tt s.1)
all_from-placed c i true [] (EndSign ∷ ms) h s =
    closed-step c i (packet c 5 (0xf7 ∷ [])) ms s.1 (all_from-placed c (i + 1) false [] ms tt s.1)
all_from-placed c i true (x ∷ []) (EndSign ∷ ms) h s =
    closed-step c i (packet c 6 (x.thing ∷ 0xf7 ∷ [])) ms s.1 (all_from-placed c (i + 1) false [] ms tt s.1)
all_from-placed c i true (x ∷ y ∷ []) (EndSign ∷ ms) h s =
    closed-step c i (packet c 7 (x.thing ∷ y.thing ∷ 0xf7 ∷ [])) ms s.1 (all_from-placed c (i + 1) false [] ms tt s.1)
all_from-placed c i true [] (AbortSign ∷ ms) h s =
    ap by_place (sym (all_from-outside c (i + 1) ms s.1)) ∙ all_from-placed c (i + 1) false [] ms tt s.1
all_from-placed c i true (x ∷ []) (AbortSign ∷ ms) h s =
    ap (λ (ps : List (Placed (List ℕ))). by_place ((ps ++ []) ++ usb_packets c (i + 1) ms)) (single-packets c i x h) ∙
    closed-step c i (single c x.thing) ms s.1 (all_from-placed c (i + 1) false [] ms tt s.1)
all_from-placed c i true (x ∷ y ∷ []) (AbortSign ∷ ms) h s =
    ap (λ (ps : List (Placed (List ℕ))). by_place ((ps ++ []) ++ usb_packets c (i + 1) ms)) (two-packets c i x y h.1) ∙
    by_place-first (at_place i (single c x.thing)) (at_place i (single c y.thing) ∷ usb_packets c (i + 1) ms)
    (omega arith, later-packets c i ms) ∙
    ap (λ (ps : List (Placed (List ℕ))). at_place i (single c x.thing) ∷ ps)
    (closed-step c i (single c y.thing) ms s.1 (all_from-placed c (i + 1) false [] ms tt s.1))

-- the packets of a list, in order
pub usb_placed-from : (c : ℕ) (ms : List Sign) → Suited false ms → by_place (usb_packets c 0 ms) ≡ placed_from c 0 [] ms
usb_placed-from c ms s = ap by_place (sym (all_from-outside c 0 ms s)) ∙ all_from-placed c 0 false [] ms tt s

-- as bytes

bytes_of-all_at : (i : ℕ) (xs : List (List ℕ)) → bytes_of (all_at i xs) ≡ flat_map (λ bytes. bytes) xs
bytes_of-all_at i [] = refl
bytes_of-all_at i (x ∷ xs) = ap (λ (ys : List ℕ). x ++ ys) (bytes_of-all_at i xs)

bytes_of-append : (xs ys : List (Placed (List ℕ))) → bytes_of (xs ++ ys) ≡ bytes_of xs ++ bytes_of ys
bytes_of-append xs ys = flat_map-append (λ x. x.thing) xs ys

placed_from-bytes : (c i : ℕ) (p : List ℕ) (ms : List Sign) →
    bytes_of (placed_from c i p ms) ≡ usb_from c p ms ++ usb_at c (pending_from p ms) AbortSign
placed_from-bytes c i p [] = bytes_of-all_at i (packets_at c p AbortSign)
placed_from-bytes c i p (m ∷ ms) =
    bytes_of-append (all_at i (packets_at c p m)) (placed_from c (i + 1) (pending_after p m) ms) ∙
    ap (λ (ys : List ℕ). ys ++ bytes_of (placed_from c (i + 1) (pending_after p m) ms))
    (bytes_of-all_at i (packets_at c p m)) ∙
    ap (λ (ys : List ℕ). usb_at c p m ++ ys) (placed_from-bytes c (i + 1) (pending_after p m) ms) ∙
    sym (append_assoc (usb_at c p m) (usb_from c (pending_after p m) ms) (usb_at c (pending_from (pending_after p m) ms)
    AbortSign))

placed_from-live : (c i n : ℕ) (p : List ℕ) (ms : List Sign) → n ≡ i + length ms →
    bytes_of (before_place n (placed_from c i p ms)) ≡ usb_from c p ms
placed_from-live c i n p [] e =
    let at_end : n ≤ i = omega (arith, e) in
    ap bytes_of (before_place-none n i (packets_at c p AbortSign) at_end)
placed_from-live c i n p (m ∷ ms) e =
    let before : i < n = omega (arith, e) in
    let more = placed_from c (i + 1) (pending_after p m) ms in
    ap bytes_of (before_place-append n (all_at i (packets_at c p m)) more) ∙
    bytes_of-append (before_place n (all_at i (packets_at c p m))) (before_place n more) ∙
    ap (λ (ps : List (Placed (List ℕ))). bytes_of ps ++ bytes_of (before_place n more))
    (before_place-all n i (packets_at c p m) before) ∙
    ap (λ (ys : List ℕ). ys ++ bytes_of (before_place n more)) (bytes_of-all_at i (packets_at c p m)) ∙
    ap (λ (ys : List ℕ). usb_at c p m ++ ys) (placed_from-live c (i + 1) n (pending_after p m) ms (omega (arith, e)))

pub usb_live-from : (c : ℕ) (ms : List Sign) → Suited false ms → usb_live c ms ≡ usb_from c [] ms
usb_live-from c ms s =
    ap (λ (ps : List (Placed (List ℕ))). bytes_of (before_place (length ms) ps)) (usb_placed-from c ms s) ∙
    placed_from-live c 0 (length ms) [] ms (omega arith)

pub usb_written-live : (c : ℕ) (ms : List Sign) → Suited false ms →
    usb_written c ms ≡ usb_live c ms ++ usb_at c (pending_from [] ms) AbortSign
usb_written-live c ms s =
    ap bytes_of (usb_placed-from c ms s) ∙ placed_from-bytes c 0 [] ms ∙
    ap (λ (ys : List ℕ). ys ++ usb_at c (pending_from [] ms) AbortSign) (sym (usb_live-from c ms s))

pub live : (c : ℕ) (ms : List Sign) → suited ms ≡ true → usb_live c ms ≡ usb_from c [] ms
live c ms s = usb_live-from c ms (Suited-from_suited ms s)

pub rest : (c : ℕ) (ms : List Sign) → suited ms ≡ true → usb_written c ms ≡ usb_live c ms ++
    usb_at c (pending_from [] ms) AbortSign
rest c ms s = usb_written-live c ms (Suited-from_suited ms s)

pub broken : (c : ℕ) (ms : List Sign) → suited ms ≡ true → is_open ms ≡ true → usb_live c (ms ++ AbortSign ∷ []) ≡
    usb_written c ms
broken c ms s open_now =
    let aborts : Suited (open_from false ms) (AbortSign ∷ []) = (sym (is_open-from ms) ∙ open_now, tt) in
    usb_live-from c (ms ++ AbortSign ∷ []) (Suited-append false ms (AbortSign ∷ []) (Suited-from_suited ms s) aborts) ∙
    usb_from-append c [] ms (AbortSign ∷ []) ∙
    ap (λ (xs : List ℕ). usb_from c [] ms ++ xs) (usb_from-one c (pending_from [] ms) AbortSign) ∙
    ap (λ (xs : List ℕ). xs ++ usb_at c (pending_from [] ms) AbortSign) (sym (live c ms s)) ∙
    sym (rest c ms s)
