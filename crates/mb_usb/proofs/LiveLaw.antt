-- What is read of a cable's live part lacks two bytes at most of what the marks mean: those that wait.
use Rattle.std.proofs.Common.{◌≡◌, ℕ, ◌≤◌, Bool, true, false, List, [], ◌∷◌, ◌++◌, length, refl, sym, ap, ◌∙◌, subst}
use Rattle.std.proofs.Common.{subst₂, length-append, arith}
use Rattle.std.proofs.lemmas.List.Concat.{flat_map-append}
use Rattle.mb_message.specs.Signs.{Sign, ShortSign, RtSign, OpenSign, ByteSign, EndSign, AbortSign}
use Rattle.mb_stream.specs.Denotation.{Denotation, denotation}
use Rattle.mb_stream.specs.Lacking.{Lacks}
use Rattle.mb_stream.specs.Reading.{signs_of}
use Rattle.mb_stream.specs.Spelling.{spelled, full_bytes}
use Rattle.mb_stream.specs.Standing.{suited, AreValid}
use Rattle.mb_stream.proofs.ByteKinds.{One, Two, Kind, DataKind, ChannelKind, CommonKind, TuneKind, StartKind, kind}
use Rattle.mb_stream.proofs.ByteKinds.{EndKind, OtherKind, RtKind, OtherRtKind}
use Rattle.mb_stream.proofs.LackLemmas.{lacks-marks}
use Rattle.mb_stream.proofs.LiteralMarks.{heard_bytes}
use Rattle.mb_stream.proofs.Machine.{Reader, Rest, Waits, Ready, Begun, Inside, ends, at_data, at_end, tells, after}
use Rattle.mb_stream.proofs.Machine.{tell}
use Rattle.mb_stream.proofs.Machine.{read, behind, read-append, read-tell}
use Rattle.mb_stream.proofs.Passable.{Passable, Passable-append}
use Rattle.mb_stream.proofs.ReadMarks.{Suit-read}
use Rattle.mb_stream.proofs.StandingLemmas.{open_from}
use Rattle.mb_stream.proofs.Suits.{Suit, Suit-suited, suited-Suit}
use Rattle.mb_usb.specs.Reading.{cable_payload, usb_so_far}
use Rattle.mb_usb.specs.Running.{pending_from}
use Rattle.mb_usb.specs.Written.{usb_live}
use Rattle.mb_usb.proofs.GoodCuts.{AreGood-cuts}
use Rattle.mb_usb.proofs.HeldBytes.{held_back, HoldsBytes, denotation-held}
use Rattle.mb_usb.proofs.LiveBytes.{live_cuts, live_bytes, live-written, cuts-live, held-live, few_wait, held-after}
use Rattle.mb_usb.proofs.PacketFacts.{AreGood, AreGood-front, usb-carried}
use Rattle.mb_usb.proofs.PayloadMarks.{usb_so_far-signs}
use Rattle.mb_usb.proofs.UsbLaw as written_law
use Rattle.mb_usb.proofs.WrittenCuts.{singles}

live-signs : (cable : ℕ) (ms : List Sign) → suited ms ≡ true → AreValid ms →
    signs_of (usb_so_far cable (usb_live cable ms)) ≡ tell Rest (live_bytes [] ms)
live-signs cable ms s v =
    let good : AreGood (live_cuts [] ms) =
    AreGood-front (live_cuts [] ms) (singles (pending_from [] ms))
    (subst AreGood (cuts-live [] ms) (AreGood-cuts ms (Suit-suited ms s v))) in
    usb_so_far-signs cable (usb_live cable ms)
    ∙ ap (tell Rest)
    (ap (λ bs. heard_bytes (cable_payload cable bs)) (written_law.live cable ms s ∙ live-written cable [] ms)
    ∙ usb-carried cable (live_cuts [] ms) good)

-- What the bytes that wait tell is the start, data or the break of a SysEx, as many bytes at most.

Passable-first : (xs ys : List Sign) → Passable (xs ++ ys) → Passable xs
Passable-first [] ys h = tt
Passable-first (OpenSign ∷ xs) ys h = Passable-first xs ys h
Passable-first (ByteSign b ∷ xs) ys h = Passable-first xs ys h
Passable-first (AbortSign ∷ xs) ys h = Passable-first xs ys h
Passable-first (ShortSign s a b ∷ xs) ys h = absurd h
Passable-first (RtSign b ∷ xs) ys h = absurd h
Passable-first (EndSign ∷ xs) ys h = absurd h

Passable-second : (xs ys : List Sign) → Passable (xs ++ ys) → Passable ys
Passable-second [] ys h = h
Passable-second (OpenSign ∷ xs) ys h = Passable-second xs ys h
Passable-second (ByteSign b ∷ xs) ys h = Passable-second xs ys h
Passable-second (AbortSign ∷ xs) ys h = Passable-second xs ys h
Passable-second (ShortSign s a b ∷ xs) ys h = absurd h
Passable-second (RtSign b ∷ xs) ys h = absurd h
Passable-second (EndSign ∷ xs) ys h = absurd h

Passable-ends : (r : Reader) → Passable (ends r)
Passable-ends Rest = tt
Passable-ends (Waits runs n s) = tt
Passable-ends (Ready n s) = tt
Passable-ends (Begun runs s d) = tt
Passable-ends Inside = tt

length-ends : (r : Reader) → length (full_bytes (ends r)) ≡ 0
length-ends Rest = refl
length-ends (Waits runs n s) = refl
length-ends (Ready n s) = refl
length-ends (Begun runs s d) = refl
length-ends Inside = refl

length-both : (xs ys : List Sign) → length (full_bytes (xs ++ ys)) ≡ length (full_bytes xs ++ full_bytes ys)
length-both xs ys = ap length (flat_map-append spelled xs ys)

few_data : (r : Reader) (b : ℕ) → Passable (at_data r b) → length (full_bytes (at_data r b)) ≤ 1
few_data Rest b h = omega arith
few_data (Waits runs One s) b h = absurd h
few_data (Waits runs Two s) b h = omega arith
few_data (Ready One s) b h = absurd h
few_data (Ready Two s) b h = omega arith
few_data (Begun runs s d) b h = absurd h
few_data Inside b h = omega arith

few_end : (r : Reader) → Passable (at_end r) → length (full_bytes (at_end r)) ≤ 1
few_end Rest h = omega arith
few_end (Waits runs n s) h = omega arith
few_end (Ready n s) h = omega arith
few_end (Begun runs s d) h = omega arith
few_end Inside h = absurd h

few_at : (r : Reader) (k : Kind) (b : ℕ) → Passable (tells r k b) → length (full_bytes (tells r k b)) ≤ 1
few_at r DataKind b h = few_data r b h
few_at r (ChannelKind n) b h = omega (arith, length-ends r)
few_at r (CommonKind n) b h = omega (arith, length-ends r)
few_at r TuneKind b h = absurd (Passable-second (ends r) (ShortSign b 0 0 ∷ []) h)
few_at r StartKind b h =
    omega (
      arith,
      length-ends r,
      length-both (ends r) (OpenSign ∷ []),
      length-append (full_bytes (ends r)) (full_bytes (OpenSign ∷ [])),
    )
few_at r EndKind b h = few_end r h
few_at r OtherKind b h = omega (arith, length-ends r)
few_at r RtKind b h = absurd h
few_at r OtherRtKind b h = omega arith

few_told : (r : Reader) (bs : List ℕ) → Passable (tell r bs) → length (full_bytes (tell r bs)) ≤ length bs
few_told r [] h = omega arith
few_told r (b ∷ bs) h =
    let now : List Sign = tells r (kind b) b in
    let later : List Sign = tell (after r (kind b) b) bs in
    omega (
      arith,
      length-both now later,
      length-append (full_bytes now) (full_bytes later),
      few_at r (kind b) b (Passable-first now later h),
      few_told (after r (kind b) b) bs (Passable-second now later h),
    )

Held-passes : (o : Bool) (r : Reader) (p : List ℕ) → HoldsBytes o r p → Passable (tell r p)
Held-passes true r p h = h.passes
Held-passes false r [] h = tt
Held-passes false r (x ∷ p) h = absurd h

pub lacks_two : (cable : ℕ) (ms : List Sign) → suited ms ≡ true → AreValid ms →
    Lacks 2 (denotation (signs_of (usb_so_far cable (usb_live cable ms)))) (denotation ms)
lacks_two cable ms s v =
    subst₂ (λ (less full : Denotation). Lacks 2 less full) (ap denotation (sym (live-signs cable ms s v)))
    (ap denotation (sym all) ∙ denotation-held ms su)
    (lacks-marks 2 (tell Rest bytes) (read now waiting) suits
    (subst (λ xs. Passable xs) (sym (read-tell now waiting))
    (Passable-append (tell now waiting) (ends (behind now waiting)) passes (Passable-ends (behind now waiting)))) few)
  where
    su : Suit false ms
    su = Suit-suited ms s v

    bytes : List ℕ
    bytes = live_bytes [] ms

    waiting : List ℕ
    waiting = pending_from [] ms

    now : Reader
    now = behind Rest bytes

    all : read Rest (held_back [] ms) ≡ tell Rest bytes ++ read now waiting
    all = ap (read Rest) (held-live ms) ∙ read-append Rest bytes waiting

    suits : suited (tell Rest bytes ++ read now waiting) ≡ true
    suits =
        ap suited (sym all)
        ∙ suited-Suit (read Rest (held_back [] ms)) (Suit-read Rest (held_back [] ms) tt)

    passes : Passable (tell now waiting)
    passes = Held-passes (open_from false ms) now waiting (held-after ms false Rest [] tt su)

    few : length (full_bytes (read now waiting)) ≤ 2
    few =
        omega (
          arith,
          ap (λ xs. length (full_bytes xs)) (read-tell now waiting),
          length-both (tell now waiting) (ends (behind now waiting)),
          length-append (full_bytes (tell now waiting)) (full_bytes (ends (behind now waiting))),
          length-ends (behind now waiting),
          few_told now waiting passes,
          few_wait [] ms (omega arith),
        )
