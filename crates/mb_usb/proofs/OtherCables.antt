-- Whatever the marks, each packet that is written for a cable bears its number, so that no other cable carries anything
-- of them.
--
--   IsOf cable bytes     a packet of the cable
use Rattle.std.proofs.Common.{◌≡◌, ℕ, ◌+◌, ◌*◌, ◌/◌, ◌<◌, Bool, true, false, ◌==◌, nat_le, if◌then◌else◌, List, [], ◌∷◌}
use Rattle.std.proofs.Common.{◌++◌, flat_map, refl, sym, ap, ◌∙◌, arith, lit<}
use Rattle.std.proofs.lemmas.Bool.{and_parts, ltb-true, ne_eqb}
use Rattle.mb_message.specs.Bytes.{is_channel}
use Rattle.mb_message.specs.Signs.{Sign, ShortSign, RtSign, OpenSign, ByteSign, EndSign, AbortSign}
use Rattle.mb_stream.specs.Payload.{Entry}
use Rattle.mb_stream.specs.Spelling.{data_of}
use Rattle.mb_usb.specs.Packets.{packet, padded, cin_of_short, single}
use Rattle.mb_usb.specs.Reading.{EventPacket, cable_of, packets_from, heard_in, cable_payload}
use Rattle.mb_usb.specs.Written.{Placed, at_place, rest_of_sysex, end_of_sysex, threes, part_packets, sysex_packets}
use Rattle.mb_usb.specs.Written.{usb_packets, put_at, by_place, usb_placed, bytes_of, usb_written}
use Rattle.mb_usb.proofs.PacketFacts.{packets-padded}

-- its number leaves the cable's in the high half of the first byte
record IsOf (cable : ℕ) (bytes : List ℕ) : Type 0 where
  number : ℕ
  carries : List ℕ
  low : number < 16
  is : bytes ≡ packet cable number carries

abbrev AreOf : ℕ → List (Placed (List ℕ)) → Type 0
AreOf cable [] = Unit {0}
AreOf cable (x ∷ xs) = IsOf cable x.thing × AreOf cable xs

AreOf-append : (cable : ℕ) (xs ys : List (Placed (List ℕ))) → AreOf cable xs → AreOf cable ys → AreOf cable (xs ++ ys)
AreOf-append cable [] ys h k = k
AreOf-append cable (x ∷ xs) ys h k = (h.0, AreOf-append cable xs ys h.1 k)

AreOf-put_at : (cable : ℕ) (x : Placed (List ℕ)) (xs : List (Placed (List ℕ))) → IsOf cable x.thing → AreOf cable xs →
    AreOf cable (put_at x xs)
AreOf-put_at cable x [] h k = (h, tt)
AreOf-put_at cable x (y ∷ ys) h k =
    let Goal : Bool → Type 0 = λ t. AreOf cable (if t then x ∷ y ∷ ys else y ∷ put_at x ys) in
    elim (nat_le x.place y.place) as Goal [ true ↦ (h, k) | false ↦ (k.0, AreOf-put_at cable x ys h k.1) ]

AreOf-by_place : (cable : ℕ) (xs : List (Placed (List ℕ))) → AreOf cable xs → AreOf cable (by_place xs)
AreOf-by_place cable [] h = tt
AreOf-by_place cable (x ∷ xs) h = AreOf-put_at cable x (by_place xs) h.0 (AreOf-by_place cable xs h.1)

-- The packets of a list, by their code index numbers.

of_packet : (cable number : ℕ) (bytes : List ℕ) → number < 16 → IsOf cable (packet cable number bytes)
of_packet cable number bytes low = record { number = number; carries = bytes; low = low; is = refl }

of_single : (cable byte : ℕ) → IsOf cable (single cable byte)
of_single cable byte = of_packet cable 15 (byte ∷ []) (lit< tt)

low_channel : (s : ℕ) (t : Bool) → is_channel s ≡ t → (if t then s / 16 else (if s == 0xf2 then 3 else
    (if s == 0xf6 then 5 else 2))) < 16
low_channel s true e =
    let below : s < 0xf0 = ltb-true s 0xf0 ((and_parts _ _ e).1) in
    omega arith
low_channel s false e =
    let Tune : Bool → Type 0 = λ t. (if t then 5 else 2) < 16 in
    let Position : Bool → Type 0 = λ t. (if t then 3 else (if s == 0xf6 then 5 else 2)) < 16 in
    elim (s == 0xf2) as Position [
      | true ↦ lit< tt
      | false ↦ elim (s == 0xf6) as Tune [ true ↦ lit< tt | false ↦ lit< tt ]
    ]

low_short : (s : ℕ) → cin_of_short s < 16
low_short s = low_channel s (is_channel s) refl

of_part : (cable end : ℕ) (xs : List (Placed ℕ)) → AreOf cable (part_packets cable end xs)
of_part cable end [] = tt
of_part cable end (x ∷ []) =
    let Goal : Bool → Type 0 = λ t.
    AreOf cable (if t then at_place x.place (packet cable 5 (x.thing ∷ [])) ∷ [] else at_place end
    (single cable x.thing) ∷ []) in
    elim (x.thing == 0xf7) as Goal [
      | true ↦ (of_packet cable 5 (x.thing ∷ []) (lit< tt), tt)
      | false ↦
          (of_single cable x.thing, tt)
    ]
of_part cable end (x ∷ y ∷ []) =
    let Goal : Bool → Type 0 = λ t.
    AreOf cable (if t then at_place y.place (packet cable 6 (x.thing ∷ y.thing ∷ [])) ∷ []
    else at_place end (single cable x.thing) ∷ at_place end (single cable y.thing) ∷ []) in
    elim (y.thing == 0xf7) as Goal [
      | true ↦ (of_packet cable 6 (x.thing ∷ y.thing ∷ []) (lit< tt), tt)
      | false ↦ (of_single cable x.thing, (of_single cable y.thing, tt))
    ]
of_part cable end (x ∷ y ∷ z ∷ xs) =
    let bytes : List ℕ = x.thing ∷ y.thing ∷ z.thing ∷ [] in
    let Goal : Bool → Type 0 = λ t. IsOf cable (packet cable (if t then 7 else 4) bytes) in (
      elim (z.thing == 0xf7) as Goal [
        | true ↦ of_packet cable 7 bytes (lit< tt)
        | false ↦ of_packet cable 4 bytes
            (lit< tt)
      ],
      tt,
    )

of_parts : (cable end : ℕ) (parts : List (List (Placed ℕ))) → AreOf cable (flat_map (part_packets cable end) parts)
of_parts cable end [] = tt
of_parts cable end (xs ∷ parts) =
    AreOf-append cable (part_packets cable end xs) (flat_map (part_packets cable end) parts) (of_part cable end xs)
    (of_parts cable end parts)

of_packets : (cable i : ℕ) (ms : List Sign) → AreOf cable (usb_packets cable i ms)
of_packets cable i [] = tt
of_packets cable i (ShortSign s a b ∷ ms) =
    (of_packet cable (cin_of_short s) (s ∷ data_of s a b) (low_short s), of_packets cable (i + 1) ms)
of_packets cable i (RtSign b ∷ ms) = (of_single cable b, of_packets cable (i + 1) ms)
of_packets cable i (OpenSign ∷ ms) =
    let end : ℕ = end_of_sysex (i + 1) ms in
    let bytes : List (Placed ℕ) = at_place i 0xf0 ∷ rest_of_sysex (i + 1) ms in
    AreOf-append cable (sysex_packets cable end bytes) (usb_packets cable (i + 1) ms)
    (of_parts cable end (threes bytes)) (of_packets cable (i + 1) ms)
of_packets cable i (ByteSign b ∷ ms) = of_packets cable (i + 1) ms
of_packets cable i (EndSign ∷ ms) = of_packets cable (i + 1) ms
of_packets cable i (AbortSign ∷ ms) = of_packets cable (i + 1) ms

-- What another cable carries of such packets.

abbrev carried_at : ℕ → ℕ → List ℕ → List Entry
carried_at other at bytes = flat_map (λ p. if cable_of p == other then heard_in p else []) (packets_from at bytes)

silent-packet : (cable other number at : ℕ) (bytes more : List ℕ) → (other ≡ cable → ⊥) → number < 16 →
    carried_at other at (packet cable number bytes ++ more) ≡ carried_at other (at + 4) more
silent-packet cable other number at bytes more apart low =
    let p : EventPacket = record { at = at; head = cable * 16 + number; rest = padded bytes } in
    let of : cable_of p ≡ cable = omega arith in
    ap (λ ps. flat_map (λ q. if cable_of q == other then heard_in q else []) ps)
    (packets-padded at (cable * 16 + number) bytes more)
    ∙ ap (λ t. (if t then heard_in p else []) ++ carried_at other (at + 4) more) (ne_eqb (cable_of p) other (λ e.
    apart (sym e ∙ of)))

silent-from : (cable other at : ℕ) (xs : List (Placed (List ℕ))) → (other ≡ cable → ⊥) → AreOf cable xs →
    carried_at other at (bytes_of xs) ≡ []
silent-from cable other at [] apart h = refl
silent-from cable other at (x ∷ xs) apart h =
    ap (λ bs. carried_at other at (bs ++ bytes_of xs)) h.0.is
    ∙ (silent-packet cable other h.0.number at h.0.carries (bytes_of xs) apart h.0.low
    ∙ silent-from cable other (at + 4) xs apart h.1)

pub alone : (cable other : ℕ) (ms : List Sign) → (other ≡ cable → ⊥) → cable_payload other (usb_written cable ms) ≡ []
alone cable other ms apart = silent-from cable other 0 (usb_placed cable ms) apart
    (AreOf-by_place cable (usb_packets cable 0 ms) (of_packets cable 0 ms))
