-- What is kept of the packets so far, after one more packet, and after one more stamp.
use Rattle.std.proofs.Common.{◌≡◌, ℕ, ◌+◌, ◌*◌, ◌%◌, ◌<◌, Bool, true, false, nat_lt, if◌then◌else◌, List, [], ◌∷◌, ◌++◌}
use Rattle.std.proofs.Common.{refl, sym, ◌∙◌, ap, arith, append_assoc, append-nil}
use Rattle.std.proofs.lemmas.Bool.Decides.{nat_tests}
use Rattle.std.proofs.lemmas.Grind.{flat_map-append}
use Rattle.mb_clock.specs.Stamps.{StampedPacket, last_or, falls, falls_behind, last_upper, last_bits, with_stamp}
use Rattle.mb_clock.specs.Stamps.{bits_behind}
use Rattle.mb_clock.specs.Stamps.{packet_bits, all_bits}
use Rattle.mb_clock.specs.Moments.{next_moment, moments_from}
use Rattle.mb_clock.specs.Clock.{Clock, last_packet, last_moment, clock_of, begun, upper_at, stamped}
use Rattle.mb_clock.proofs.MomentLemmas.{last_or-push}

abbrev one_if : Bool → ℕ
one_if b = if b then 1 else 0

falls_behind-push : (first : ℕ) (lows : List ℕ) (low : ℕ) → falls_behind first (lows ++ low ∷ []) ≡ falls_behind first
    lows + one_if (nat_lt low (last_or first lows))
falls_behind-push first [] low = omega arith
falls_behind-push first (next ∷ lows) low = omega (arith, falls_behind-push next lows low)

falls-push : (lows : List ℕ) (low : ℕ) → falls (lows ++ low ∷ []) ≡ falls lows + one_if (nat_lt low (last_or 0 lows))
falls-push [] low = grind (arith, nat_tests)
falls-push (first ∷ lows) low = falls_behind-push first lows low

-- a packet with more stamps behind its own
abbrev with_stamps : StampedPacket → List ℕ → StampedPacket
with_stamps p lows = record { high = p.high; lows = p.lows ++ lows }

bits_behind-push : (p : StampedPacket) (lows : List ℕ) (low : ℕ) →
    bits_behind p (lows ++ low ∷ []) ≡ bits_behind p lows ++ last_bits (with_stamp (with_stamps p lows) low) ∷ []
bits_behind-push p [] low = rw append-nil refl
bits_behind-push p (next ∷ lows) low =
    let rest : bits_behind (with_stamp p next) (lows ++ low ∷ []) ≡ bits_behind (with_stamp p next) lows ++
    last_bits (with_stamp (with_stamps (with_stamp p next) lows) low) ∷ [] = bits_behind-push (with_stamp p next)
    lows low in
    let same : p.lows ++ next ∷ [] ++ lows ≡ p.lows ++ (next ∷ lows) = append_assoc p.lows (next ∷ []) lows in
    let after : List ℕ → List ℕ = λ z. bits_behind (with_stamp p next) lows ++
    last_bits (with_stamp (record { high = p.high; lows = z }) low) ∷ [] in
    ap (λ z. last_bits (with_stamp p next) ∷ z) (rest ∙ ap after same)

packet_bits-push : (p : StampedPacket) (low : ℕ) → packet_bits (with_stamp p low) ≡ packet_bits p ++
    last_bits (with_stamp p low) ∷ []
packet_bits-push p low = bits_behind-push (record { high = p.high; lows = [] }) p.lows low

all_bits-push : (ps : List StampedPacket) (p : StampedPacket) → all_bits (ps ++ p ∷ []) ≡ all_bits ps ++ packet_bits p
all_bits-push ps p = flat_map-append packet_bits ps (p ∷ []) ∙ ap (λ z. all_bits ps ++ z) (append-nil (packet_bits p))

moments_from-append : (last : ℕ) (bs cs : List ℕ) → moments_from last (bs ++ cs) ≡ moments_from last bs ++
    moments_from (last_or last (moments_from last bs)) cs
moments_from-append last [] cs = refl
moments_from-append last (b ∷ bs) cs = ap (λ z. next_moment last b ∷ z) (moments_from-append (next_moment last b) bs cs)

-- a stamp's moment is the next of the last
last_moment-stamp : (ps : List StampedPacket) (p : StampedPacket) (low : ℕ) →
    last_moment (ps ++ with_stamp p low ∷ []) ≡ next_moment (last_moment (ps ++ p ∷ [])) (last_bits (with_stamp p low))
last_moment-stamp ps p low =
    let before = all_bits (ps ++ p ∷ []) in
    let b = last_bits (with_stamp p low) in
    let more : all_bits (ps ++ with_stamp p low ∷ []) ≡ before ++ b ∷ [] =
    all_bits-push ps (with_stamp p low) ∙ (ap (λ z. all_bits ps ++ z) (packet_bits-push p low) ∙
    (sym (append_assoc (all_bits ps) (packet_bits p) (b ∷ [])) ∙
    ap (λ z. z ++ b ∷ []) (sym (all_bits-push ps p)))) in
    ap (λ z. last_or 0 (moments_from 0 z)) more ∙ (ap (λ z. last_or 0 z) (moments_from-append 0 before (b ∷ [])) ∙
    last_or-push 0 (moments_from 0 before) (next_moment (last_or 0 (moments_from 0 before)) b))

last_moment-packet : (ps : List StampedPacket) (high : ℕ) → last_moment (ps ++ (record { high = high; lows = [] }) ∷
    []) ≡ last_moment ps
last_moment-packet ps high =
    ap (λ z. last_or 0 (moments_from 0 z)) (all_bits-push ps (record { high = high; lows = [] }) ∙
    append-nil (all_bits ps))

last_packet-push : (ps : List StampedPacket) (p : StampedPacket) → last_packet (ps ++ p ∷ []) ≡ p
last_packet-push ps p = last_or-push (record { high = 0; lows = [] }) ps p

pub clock_of-packet : (ps : List StampedPacket) (high : ℕ) → high < 64 →
    clock_of (ps ++ (record { high = high; lows = [] }) ∷ []) ≡ begun (clock_of ps) high
clock_of-packet ps high small =
    let last : last_packet (ps ++ (record { high = high; lows = [] }) ∷ []) ≡ record { high = high; lows = [] } =
    last_packet-push ps (record { high = high; lows = [] }) in
    let upper : last_upper (last_packet (ps ++ (record { high = high; lows = [] }) ∷ [])) ≡ high = ap last_upper last ∙
    omega arith in
    let lower : last_or 0 (last_packet (ps ++ (record { high = high; lows = [] }) ∷ [])).lows ≡ 0 =
    ap (λ z. last_or 0 z.lows) last in
    let moment : last_moment (ps ++ (record { high = high; lows = [] }) ∷ []) ≡ last_moment ps =
    last_moment-packet ps high in
    cc

upper-stamp : (p : StampedPacket) (low : ℕ) → last_upper (with_stamp p low) ≡ (if nat_lt low (last_or 0 p.lows) then
    (last_upper p + 1) % 64 else last_upper p)
upper-stamp p low = by_fall (nat_lt low (last_or 0 p.lows)) (falls-push p.lows low) where
  by_fall : (fell : Bool) → falls (p.lows ++ low ∷ []) ≡ falls p.lows + one_if fell → last_upper (with_stamp p low) ≡
      (if fell then (last_upper p + 1) % 64 else last_upper p)
  by_fall true more = omega (arith, more)
  by_fall false more = omega (arith, more)

-- what is kept of the last packet and the last moment
abbrev clock_at : StampedPacket → ℕ → Clock
clock_at p moment = record { upper = last_upper p; lower = last_or 0 p.lows; moment = moment }

clock_of-push : (ps : List StampedPacket) (p : StampedPacket) → clock_of (ps ++ p ∷ []) ≡
    clock_at p (last_moment (ps ++ p ∷ []))
clock_of-push ps p = ap (λ z. clock_at z (last_moment (ps ++ p ∷ []))) (last_packet-push ps p)

clock_at-stamp : (p : StampedPacket) (moment low : ℕ) → clock_at (with_stamp p low)
    (next_moment moment (last_bits (with_stamp p low))) ≡ stamped (clock_at p moment) low
clock_at-stamp p moment low =
    let upper : ℕ = upper_at (clock_at p moment) low in
    let with_parts : ℕ → ℕ → Clock = λ u l. record {
      upper = u;
      lower = l;
      moment = next_moment moment (128 * u + l);
    } in
    ap (λ u. with_parts u (last_or 0 (p.lows ++ low ∷ []))) (upper-stamp p low) ∙
    ap (with_parts upper) (last_or-push 0 p.lows low)

pub clock_of-stamp : (ps : List StampedPacket) (p : StampedPacket) (low : ℕ) → clock_of (ps ++ with_stamp p low ∷ []) ≡
    stamped (clock_of (ps ++ p ∷ [])) low
clock_of-stamp ps p low =
    clock_of-push ps (with_stamp p low) ∙
    (ap (clock_at (with_stamp p low)) (last_moment-stamp ps p low) ∙
    (clock_at-stamp p (last_moment (ps ++ p ∷ [])) low ∙
    sym (ap (λ c. stamped c low) (clock_of-push ps p))))
