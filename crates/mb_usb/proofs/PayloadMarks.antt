-- The reading of a cable has the marks that are read of its payload's bytes: notes on packets stand beside them. The
-- payload has at most as many entries as the recording has bytes.
use Rattle.std.proofs.Common.{◌≡◌, ℕ, ◌+◌, ◌≤◌, Bool, true, false, ◌==◌, nat_le, if◌then◌else◌, List, [], ◌∷◌, ◌++◌}
use Rattle.std.proofs.Common.{length, take, flat_map, refl, sym, ap, ap₂, ◌∙◌, arith, length-take, length-append}
use Rattle.std.proofs.Common.{append-nil}
use Rattle.std.proofs.lemmas.List.Concat.{flat_map-append}
use Rattle.mb_message.specs.declared.note.NoteKind.TheVariants.{ReservedCin, CinMismatch}
use Rattle.mb_stream.specs.Payload.{Entry, Heard, Silent, heard_from}
use Rattle.mb_stream.specs.Told.{Known, Notes}
use Rattle.mb_stream.specs.Order.{in_order}
use Rattle.mb_stream.specs.Reading.{payload_told, end_part, sign_in, note_in, signs_of, notes_of}
use Rattle.mb_stream.specs.Working.{RisesFrom}
use Rattle.mb_stream.proofs.Machine.{Rest, tell, read, Clean, read-tell}
use Rattle.mb_stream.proofs.OrderedMarks.{marked, marked-append, signs-beside}
use Rattle.mb_stream.proofs.LiteralMarks.{AllHeard, heard_bytes, heard_from-all, parts-signs, parts-notes, so_far-signs}
use Rattle.mb_stream.proofs.LiteralMarks.{so_far-notes, end_part-signs, end_part-notes}
use Rattle.mb_din.proofs.FewMarks.{length-heard_from}
use Rattle.mb_usb.specs.Reading.{EventPacket, cable_of, cin_of, packets_from, packets, used, heard_in, cable_payload}
use Rattle.mb_usb.specs.Reading.{suits_packet, unit_note, usb_told, usb_so_far, usb_reading}

AllHeard-append : (xs ys : List Entry) → AllHeard xs → AllHeard ys → AllHeard (xs ++ ys)
AllHeard-append [] ys h k = k
AllHeard-append (Heard x ∷ xs) ys h k = AllHeard-append xs ys h k
AllHeard-append (Silent s ∷ xs) ys h k = absurd h

RisesFrom-lower : (low high : ℕ) (es : List Entry) → low ≤ high → RisesFrom high es → RisesFrom low es
RisesFrom-lower low high [] l h = tt
RisesFrom-lower low high (Silent s ∷ es) l h = RisesFrom-lower low high es l h
RisesFrom-lower low high (Heard x ∷ es) l h = (omega (arith, h.0), h.1)

-- bytes side by side, and what stands behind them
RisesFrom-heard : (at moment : ℕ) (bs : List ℕ) (es : List Entry) → RisesFrom (at + length bs) es →
    RisesFrom at (heard_from at moment bs ++ es)
RisesFrom-heard at moment [] es h = RisesFrom-lower at (at + 0) es (omega arith) h
RisesFrom-heard at moment (b ∷ bs) es h = (
  omega arith,
  RisesFrom-heard (at + 1) moment bs es (RisesFrom-lower (at + 1 + length bs) (at + length (b ∷ bs)) es
      (omega arith) h),
)

abbrev payload_of : ℕ → List EventPacket → List Entry
payload_of cable ps = flat_map (λ p. if cable_of p == cable then heard_in p else []) ps

-- what one packet carries, before the payload of those behind it
packet_rises : (cable at head : ℕ) (bs : List ℕ) (es : List Entry) → length bs ≤ 3 → RisesFrom (at + 4) es →
    RisesFrom at ((if cable_of (record { at = at; head = head; rest = bs }) == cable then
    heard_in (record { at = at; head = head; rest = bs }) else []) ++ es)
packet_rises cable at head bs es few h =
    let p : EventPacket = record { at = at; head = head; rest = bs } in
    let Goal : Bool → Type 0 = λ c. RisesFrom at ((if c then heard_in p else []) ++ es) in
    let taken : List ℕ = take (used (cin_of p)) bs in
    let here : RisesFrom (at + 1) (heard_from (at + 1) 0 taken ++ es) =
    RisesFrom-heard (at + 1) 0 taken es
    (RisesFrom-lower (at + 1 + length taken) (at + 4) es (omega (arith, length-take (used (cin_of p)) bs)) h) in
    elim (cable_of p == cable) as Goal [
      | true ↦ RisesFrom-lower at (at + 1) (heard_in p ++ es) (omega arith) here
      | false ↦ RisesFrom-lower at (at + 4) es (omega arith) h
    ]

payload-rises_from : (cable at : ℕ) (bytes : List ℕ) → RisesFrom at (payload_of cable (packets_from at bytes))
payload-rises_from cable at [] = tt
payload-rises_from cable at (h ∷ a ∷ b ∷ c ∷ bs) =
    packet_rises cable at h (a ∷ b ∷ c ∷ []) (payload_of cable (packets_from (at + 4) bs)) (omega arith)
    (payload-rises_from cable (at + 4) bs)
payload-rises_from cable at (h ∷ []) = packet_rises cable at h [] [] (omega arith) tt
payload-rises_from cable at (h ∷ a ∷ []) = packet_rises cable at h (a ∷ []) [] (omega arith) tt
payload-rises_from cable at (h ∷ a ∷ b ∷ []) = packet_rises cable at h (a ∷ b ∷ []) [] (omega arith) tt

pub payload-rises : (cable : ℕ) (bytes : List ℕ) → RisesFrom 0 (cable_payload cable bytes)
payload-rises cable bytes = payload-rises_from cable 0 bytes

-- what one packet carries, before the payload of those behind it
length-packet : (cable at head : ℕ) (bs : List ℕ) (es : List Entry) →
    length ((if cable_of (record { at = at; head = head; rest = bs }) == cable then heard_in (record {
      at = at;
      head =
          head;
      rest = bs;
    }) else []) ++ es)
    ≤ length bs + length es
length-packet cable at head bs es =
    let p : EventPacket = record { at = at; head = head; rest = bs } in
    let Goal : Bool → Type 0 = λ c. length ((if c then heard_in p else []) ++ es) ≤ length bs + length es in
    let taken : List ℕ = take (used (cin_of p)) bs in
    elim (cable_of p == cable) as Goal [
      | true ↦ omega (
        arith,
        length-append (heard_in p) es,
        length-heard_from (at + 1) 0 taken,
        length-take (used (cin_of p)) bs,
      )
      | false ↦ omega arith
    ]

length-payload_from : (cable at : ℕ) (bytes : List ℕ) → length (payload_of cable (packets_from at bytes)) ≤ length bytes
length-payload_from cable at [] = omega arith
length-payload_from cable at (h ∷ a ∷ b ∷ c ∷ bs) =
    omega (
      arith,
      length-packet cable at h (a ∷ b ∷ c ∷ []) (payload_of cable (packets_from (at + 4) bs)),
      length-payload_from cable (at + 4) bs,
    )
length-payload_from cable at (h ∷ []) = omega (arith, length-packet cable at h [] [])
length-payload_from cable at (h ∷ a ∷ []) = omega (arith, length-packet cable at h (a ∷ []) [])
length-payload_from cable at (h ∷ a ∷ b ∷ []) = omega (arith, length-packet cable at h (a ∷ b ∷ []) [])

pub length-payload : (cable : ℕ) (bytes : List ℕ) → length (cable_payload cable bytes) ≤ length bytes
length-payload cable bytes = length-payload_from cable 0 bytes

payload-heard_of : (cable : ℕ) (ps : List EventPacket) → AllHeard (payload_of cable ps)
payload-heard_of cable [] = tt
payload-heard_of cable (p ∷ ps) =
    let Goal : Bool → Type 0 = λ c. AllHeard ((if c then heard_in p else []) ++ payload_of cable ps) in
    let rest : AllHeard (payload_of cable ps) = payload-heard_of cable ps in
    elim (cable_of p == cable) as Goal [
      | true ↦ AllHeard-append (heard_in p) (payload_of cable ps) (heard_from-all (p.at + 1) 0
          (take (used (cin_of p)) p.rest)) rest
      | false ↦ rest
    ]

pub payload-heard : (cable : ℕ) (bytes : List ℕ) → AllHeard (cable_payload cable bytes)
payload-heard cable bytes = payload-heard_of cable (packets bytes)

unit_marked_by : (c d : Bool) (at : ℕ) → marked (if c then record {
  at = at;
  rank = 4;
  moment = 0;
  told =
      Notes at ReservedCin;
} ∷ []
    else (if d then [] else record { at = at + 3; rank = 4; moment = 0; told = Notes at CinMismatch } ∷ [])) ≡ []
unit_marked_by true d at = refl
unit_marked_by false true at = refl
unit_marked_by false false at = refl

unit_marked : (p : EventPacket) → marked (unit_note p) ≡ []
unit_marked p = unit_marked_by (nat_le (cin_of p) 1) (suits_packet p) p.at

units_marked : (ps : List EventPacket) → marked (flat_map unit_note ps) ≡ []
units_marked [] = refl
units_marked (p ∷ ps) = marked-append (unit_note p) (flat_map unit_note ps) ∙ ap₂ (λ ks ls. ks ++ ls) (unit_marked p)
    (units_marked ps)

-- of any bytes, the part that is known of them
pub usb_so_far-signs : (cable : ℕ) (bytes : List ℕ) →
    signs_of (usb_so_far cable bytes) ≡ tell Rest (heard_bytes (cable_payload cable bytes))
usb_so_far-signs cable bytes =
    let es : List Entry = cable_payload cable bytes in
    let units : List Known = flat_map unit_note (packets bytes) in
    parts-signs (in_order (λ k. k) (payload_told es ++ units))
    ∙ (signs-beside (payload_told es) units (units_marked (packets bytes))
    ∙ so_far-signs 0 es (payload-rises cable bytes) (payload-heard cable bytes))

-- and all
pub usb-signs : (cable : ℕ) (bytes : List ℕ) → signs_of (usb_reading cable bytes) ≡
    read Rest (heard_bytes (cable_payload cable bytes))
usb-signs cable bytes =
    let es : List Entry = cable_payload cable bytes in
    flat_map-append (λ p. sign_in p.told) (usb_so_far cable bytes) (end_part 0 es)
    ∙ (ap₂ (λ ms ns. ms ++ ns) (usb_so_far-signs cable bytes) (end_part-signs 0 es (payload-heard cable bytes))
    ∙ sym (read-tell Rest (heard_bytes es)))

-- where no packet has a note, and the bytes that are carried have none
pub usb-notes : (cable : ℕ) (bytes : List ℕ) → flat_map unit_note (packets bytes) ≡ [] →
    Clean Rest (heard_bytes (cable_payload cable bytes)) →
    notes_of (usb_reading cable bytes) ≡ []
usb-notes cable bytes none clean =
    let es : List Entry = cable_payload cable bytes in
    let told : usb_told cable bytes ≡ payload_told es = ap (λ ks. payload_told es ++ ks) none ∙
    append-nil (payload_told es) in
    flat_map-append (λ p. note_in p.told) (usb_so_far cable bytes) (end_part 0 es)
    ∙ ap₂ (λ ms ns. ms ++ ns)
    (parts-notes (in_order (λ k. k) (usb_told cable bytes))
    ∙ (ap (λ ks. flat_map (λ k. note_in k.told) (in_order (λ k. k) ks)) told
    ∙ so_far-notes 0 es (payload-rises cable bytes) (payload-heard cable bytes) clean))
    (end_part-notes 0 es (payload-heard cable bytes) clean)
