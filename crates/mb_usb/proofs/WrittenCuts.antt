-- The packets that the running form writes, as their numbers and bytes.
use Rattle.std.proofs.Common.{◌≡◌, ℕ, suc, ◌+◌, ◌≤◌, Bool, true, false, ◌==◌, if◌then◌else◌, List, [], ◌∷◌, ◌++◌, map}
use Rattle.std.proofs.Common.{length, flat_map, refl, sym, ap, ap₂, ◌∙◌, arith, length-append, append_assoc}
use Rattle.std.proofs.lemmas.List.Concat.{flat_map-append}
use Rattle.mb_message.specs.Signs.{Sign, ShortSign, RtSign, OpenSign, ByteSign, EndSign, AbortSign}
use Rattle.mb_stream.specs.Spelling.{data_of}
use Rattle.mb_usb.specs.Packets.{packet, cin_of_short, single}
use Rattle.mb_usb.specs.Running.{pending_after, usb_at, usb_from, pending_from}
use Rattle.mb_usb.proofs.PacketFacts.{Cut, cut, packet_of, written, cut_bytes}
use Rattle.mb_usb.proofs.HeldBytes.{held_back}

abbrev pub singles : List ℕ → List Cut
singles [] = []
singles (b ∷ bs) = cut 15 (b ∷ []) ∷ singles bs

abbrev pub cuts_at : List ℕ → Sign → List Cut
cuts_at p (ShortSign s a b) = cut (cin_of_short s) (s ∷ data_of s a b) ∷ []
cuts_at p (RtSign b) = cut 15 (b ∷ []) ∷ []
cuts_at p OpenSign = []
cuts_at p (ByteSign b) = if length p == 2 then cut 4 (p ++ b ∷ []) ∷ [] else []
cuts_at p EndSign = cut (5 + length p) (p ++ 0xf7 ∷ []) ∷ []
cuts_at p AbortSign = singles p

-- those of a list, and at its end those of an abort
abbrev pub cuts : List ℕ → List Sign → List Cut
cuts p [] = singles p
cuts p (m ∷ ms) = cuts_at p m ++ cuts (pending_after p m) ms

singles-written : (cable : ℕ) (p : List ℕ) → flat_map (λ bytes. bytes) (map (single cable) p) ≡ written cable
    (singles p)
singles-written cable [] = refl
singles-written cable (b ∷ p) = ap (λ bs. single cable b ++ bs) (singles-written cable p)

pub at-written : (cable : ℕ) (p : List ℕ) (m : Sign) → usb_at cable p m ≡ written cable (cuts_at p m)
at-written cable p (ShortSign s a b) = refl
at-written cable p (RtSign b) = refl
at-written cable p OpenSign = refl
at-written cable p (ByteSign b) =
    let Goal : Bool → Type 0 = λ c.
    flat_map (λ bytes. bytes) (if c then packet cable 4 (p ++ b ∷ []) ∷ [] else [])
    ≡ written cable (if c then cut 4 (p ++ b ∷ []) ∷ [] else []) in
    elim (length p == 2) as Goal [ true ↦ refl | false ↦ refl ]
at-written cable p EndSign = refl
at-written cable p AbortSign = singles-written cable p

-- the running form with its end
pub cuts-written : (cable : ℕ) (p : List ℕ) (ms : List Sign) →
    usb_from cable p ms ++ usb_at cable (pending_from p ms) AbortSign ≡ written cable (cuts p ms)
cuts-written cable p [] = singles-written cable p
cuts-written cable p (m ∷ ms) =
    append_assoc (usb_at cable p m) (usb_from cable (pending_after p m) ms)
    (usb_at cable (pending_from (pending_after p m) ms) AbortSign)
    ∙ (ap₂ (λ bs cs. bs ++ cs) (at-written cable p m) (cuts-written cable (pending_after p m) ms)
    ∙ sym (flat_map-append (packet_of cable) (cuts_at p m) (cuts (pending_after p m) ms)))

-- What they carry.

pub singles-bytes : (p : List ℕ) → cut_bytes (singles p) ≡ p
singles-bytes [] = refl
singles-bytes (b ∷ p) = ap (λ bs. b ∷ bs) (singles-bytes p)

cut-bytes_before : (xs : List Cut) (ys : List Cut) (bs cs : List ℕ) → cut_bytes xs ≡ bs → cut_bytes ys ≡ cs →
    cut_bytes (xs ++ ys) ≡ bs ++ cs
cut-bytes_before xs ys bs cs h k = flat_map-append (λ x. x.bytes) xs ys ∙ ap₂ (λ b c. b ++ c) h k

pub cuts-bytes : (p : List ℕ) (ms : List Sign) → cut_bytes (cuts p ms) ≡ held_back p ms
cuts-bytes p [] = singles-bytes p
cuts-bytes p (ShortSign s a b ∷ ms) = ap (λ bs. (s ∷ data_of s a b) ++ bs) (cuts-bytes [] ms)
cuts-bytes p (RtSign b ∷ ms) = ap (λ bs. b ∷ bs) (cuts-bytes p ms)
cuts-bytes p (OpenSign ∷ ms) = cuts-bytes (0xf0 ∷ []) ms
cuts-bytes p (ByteSign b ∷ ms) =
    let Goal : Bool → Type 0 = λ c.
    cut_bytes ((if c then cut 4 (p ++ b ∷ []) ∷ [] else []) ++ cuts (if c then [] else p ++ b ∷ []) ms)
    ≡ (if c then p ++ b ∷ held_back [] ms else held_back (p ++ b ∷ []) ms) in
    elim (length p == 2) as Goal [
      | true ↦ ap (λ bs. (p ++ b ∷ []) ++ bs) (cuts-bytes [] ms) ∙ append_assoc p (b ∷ []) (held_back [] ms)
      | false ↦ cuts-bytes (p ++ b ∷ []) ms
    ]
cuts-bytes p (EndSign ∷ ms) = ap (λ bs. (p ++ 0xf7 ∷ []) ++ bs) (cuts-bytes [] ms) ∙
    append_assoc p (0xf7 ∷ []) (held_back [] ms)
cuts-bytes p (AbortSign ∷ ms) = cut-bytes_before (singles p) (cuts [] ms) p (held_back [] ms) (singles-bytes p)
    (cuts-bytes [] ms)

-- How many there are: one a mark at most, since the bytes that wait came of marks that wrote nothing.

length-singles : (p : List ℕ) → length (singles p) ≡ length p
length-singles [] = refl
length-singles (b ∷ p) = ap suc (length-singles p)

pub length-cuts : (p : List ℕ) (ms : List Sign) → length (cuts p ms) ≤ length ms + length p
length-cuts p [] = omega (arith, length-singles p)
length-cuts p (ShortSign s a b ∷ ms) = omega (arith, length-cuts [] ms)
length-cuts p (RtSign b ∷ ms) = omega (arith, length-cuts p ms)
length-cuts p (OpenSign ∷ ms) = omega (arith, length-cuts (0xf0 ∷ []) ms)
length-cuts p (ByteSign b ∷ ms) =
    let Goal : Bool → Type 0 = λ c.
    length ((if c then cut 4 (p ++ b ∷ []) ∷ [] else []) ++ cuts (if c then [] else p ++ b ∷ []) ms) ≤ suc (length ms) +
    length p in
    elim (length p == 2) as Goal [
      | true ↦ omega (arith, length-cuts [] ms)
      | false ↦ omega (arith, length-cuts (p ++ b ∷ []) ms, length-append p (b ∷ []))
    ]
length-cuts p (EndSign ∷ ms) = omega (arith, length-cuts [] ms)
length-cuts p (AbortSign ∷ ms) = omega (
  arith,
  length-cuts [] ms,
  length-singles p,
  length-append (singles p) (cuts [] ms),
)
