-- The laws of a cable as a carrier of marks: what is read of what was written.
use Rattle.std.proofs.Common.{◌≡◌, ℕ, ◌+◌, ◌*◌, ◌%◌, ◌≤◌, true, false, List, [], ◌++◌, length, flat_map, sym, ap, ◌∙◌}
use Rattle.std.proofs.Common.{subst, arith}
use Rattle.std.proofs.lemmas.Bool.{eq-eqb}
use Rattle.mb_message.specs.Signs.{Sign, AbortSign}
use Rattle.mb_stream.specs.Denotation.{denotation}
use Rattle.mb_stream.specs.Standing.{suited, AreValid}
use Rattle.mb_stream.specs.Reading.{signs_of, notes_of}
use Rattle.mb_stream.proofs.Machine.{Rest, read, Clean}
use Rattle.mb_stream.proofs.Suits.{Suit, Suit-suited, suited-Suit, AreValid-Suit}
use Rattle.mb_stream.proofs.ReadMarks.{Suit-read}
use Rattle.mb_stream.proofs.LiteralMarks.{heard_bytes}
use Rattle.mb_din.proofs.FewMarks.{two_an_entry}
use Rattle.mb_usb.specs.Running.{usb_at, pending_from}
use Rattle.mb_usb.specs.Written.{usb_written}
use Rattle.mb_usb.specs.Reading.{cable_payload, usb_reading, usb_whole, packets, unit_note}
use Rattle.mb_usb.proofs.UsbLaw as written_law
use Rattle.mb_usb.proofs.PacketFacts.{written, usb-carried, unit_notes-none, length-written}
use Rattle.mb_usb.proofs.WrittenCuts.{cuts, cuts-written, cuts-bytes, length-cuts}
use Rattle.mb_usb.proofs.GoodCuts.{AreGood-cuts}
use Rattle.mb_usb.proofs.HeldBytes.{held_back, denotation-held, length-held}
use Rattle.mb_usb.proofs.HeldClean.{Clean-held}
use Rattle.mb_usb.proofs.PayloadMarks.{usb-signs, usb-notes, length-payload}

-- the written list as packets
written-cuts : (cable : ℕ) (ms : List Sign) → suited ms ≡ true → usb_written cable ms ≡ written cable (cuts [] ms)
written-cuts cable ms s =
    written_law.rest cable ms s
    ∙ (ap (λ bs. bs ++ usb_at cable (pending_from [] ms) AbortSign) (written_law.live cable ms s)
    ∙ cuts-written cable [] ms)

-- and what they carry
written-carried : (cable : ℕ) (ms : List Sign) → suited ms ≡ true → AreValid ms →
    heard_bytes (cable_payload cable (usb_written cable ms)) ≡ held_back [] ms
written-carried cable ms s v =
    ap (λ bs. heard_bytes (cable_payload cable bs)) (written-cuts cable ms s)
    ∙ (usb-carried cable (cuts [] ms) (AreGood-cuts ms (Suit-suited ms s v))
    ∙ cuts-bytes [] ms)

written-signs : (cable : ℕ) (ms : List Sign) → suited ms ≡ true → AreValid ms →
    signs_of (usb_reading cable (usb_written cable ms)) ≡ read Rest (held_back [] ms)
written-signs cable ms s v = usb-signs cable (usb_written cable ms) ∙
    ap (λ bs. read Rest bs) (written-carried cable ms s v)

pub means : (cable : ℕ) (ms : List Sign) → suited ms ≡ true → AreValid ms →
    denotation (signs_of (usb_reading cable (usb_written cable ms))) ≡ denotation ms
means cable ms s v = ap denotation (written-signs cable ms s v) ∙ denotation-held ms (Suit-suited ms s v)

pub one_more : (cable : ℕ) (ms : List Sign) → suited ms ≡ true → AreValid ms →
    length (signs_of (usb_reading cable (usb_written cable ms))) ≤ length ms + 1
one_more cable ms s v =
    subst (λ xs. length xs ≤ length ms + 1) (sym (written-signs cable ms s v)) (length-held ms (Suit-suited ms s v))

length-of_written : (cable : ℕ) (ms : List Sign) → suited ms ≡ true → length (usb_written cable ms) ≡ 4 *
    length (cuts [] ms)
length-of_written cable ms s = ap length (written-cuts cable ms s) ∙ length-written cable (cuts [] ms)

pub size : (cable : ℕ) (ms : List Sign) → suited ms ≡ true → length (usb_written cable ms) ≤ 4 * length ms
size cable ms s = omega (arith, length-of_written cable ms s, length-cuts [] ms)

pub clean : (cable : ℕ) (ms : List Sign) → suited ms ≡ true → AreValid ms →
    notes_of (usb_reading cable (usb_written cable ms)) ≡ []
clean cable ms s v =
    let su : Suit false ms = Suit-suited ms s v in
    usb-notes cable (usb_written cable ms)
    (ap (λ bs. flat_map unit_note (packets bs)) (written-cuts cable ms s) ∙ unit_notes-none cable (cuts [] ms)
    (AreGood-cuts ms su))
    (subst (λ bs. Clean Rest bs) (sym (written-carried cable ms s v)) (Clean-held ms su))

pub whole : (cable : ℕ) (ms : List Sign) → suited ms ≡ true → usb_whole (usb_written cable ms) ≡ true
whole cable ms s = eq-eqb (length (usb_written cable ms) % 4) 0 (omega (arith, length-of_written cable ms s))

-- what is read of any bytes
Suit-usb : (cable : ℕ) (bytes : List ℕ) → Suit false (signs_of (usb_reading cable bytes))
Suit-usb cable bytes = subst (λ ms. Suit false ms) (sym (usb-signs cable bytes))
    (Suit-read Rest (heard_bytes (cable_payload cable bytes)) tt)

pub suits : (cable : ℕ) (bytes : List ℕ) → suited (signs_of (usb_reading cable bytes)) ≡ true
suits cable bytes = suited-Suit (signs_of (usb_reading cable bytes)) (Suit-usb cable bytes)

pub valid : (cable : ℕ) (bytes : List ℕ) → AreValid (signs_of (usb_reading cable bytes))
valid cable bytes = AreValid-Suit (signs_of (usb_reading cable bytes)) (Suit-usb cable bytes)

pub few : (cable : ℕ) (bytes : List ℕ) → length (signs_of (usb_reading cable bytes)) ≤ 2 * length bytes
few cable bytes = omega (
  arith,
  ap length (usb-signs cable bytes),
  two_an_entry (cable_payload cable bytes),
  length-payload cable bytes,
)
