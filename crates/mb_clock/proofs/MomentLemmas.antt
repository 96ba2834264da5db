-- Each moment is the least that the one before and the stamp allow.
use Rattle.std.proofs.Common.{◌≡◌, ℕ, ◌+◌, ◌*◌, ◌%◌, ◌<◌, ◌≤◌, List, [], ◌∷◌, ◌++◌, refl, sym, ◌∙◌, ap, subst, arith}
use Rattle.mb_clock.specs.Stamps.{StampedPacket, AreSevens, ArePackets, upper_six, lower_seven, last_or, last_bits}
use Rattle.mb_clock.specs.Stamps.{with_stamp}
use Rattle.mb_clock.specs.Stamps.{bits_behind, packet_bits, all_bits}
use Rattle.mb_clock.specs.Moments.{IsNextMoment, AreMoments, AreNear, stamped_alone, next_moment, moments_from}

-- a list of 13 bits each
abbrev pub AreBits : List ℕ → Type 0
AreBits [] = Unit {0}
AreBits (b ∷ bs) = (b < 8192) × AreBits bs

pub next_moment-least : (last b : ℕ) → b < 8192 → IsNextMoment last b (next_moment last b)
next_moment-least last b small = record {
  not_below = omega arith;
  remainder = omega arith;
  least = λ m above rest. omega arith;
}

pub IsNextMoment-only : (last b m : ℕ) → IsNextMoment last b m → m ≡ next_moment last b
IsNextMoment-only last b m h =
    let small : b < 8192 = omega (arith, h.remainder) in
    let next : IsNextMoment last b (next_moment last b) = next_moment-least last b small in
    omega (arith, h.least (next_moment last b) next.not_below next.remainder, next.least m h.not_below h.remainder)

pub moments_from-least : (last : ℕ) (bs : List ℕ) → AreBits bs → AreMoments last bs (moments_from last bs)
moments_from-least last [] small = tt
moments_from-least last (b ∷ bs) small =
    (next_moment-least last b small.0, moments_from-least (next_moment last b) bs small.1)

pub AreMoments-only : (last : ℕ) (bs ms : List ℕ) → AreMoments last bs ms → ms ≡ moments_from last bs
AreMoments-only last [] [] are = refl
AreMoments-only last [] (m ∷ ms) are = absurd are
AreMoments-only last (b ∷ bs) [] are = absurd are
AreMoments-only last (b ∷ bs) (m ∷ ms) are =
    let first : m ≡ next_moment last b = IsNextMoment-only last b m are.0 in
    let rest : ms ≡ moments_from m bs = AreMoments-only m bs ms are.1 in
    subst (λ z. (m ∷ ms) ≡ (z ∷ moments_from z bs)) first (ap (λ z. m ∷ z) rest)

pub last_or-push : {X : Type 0} (before : X) (xs : List X) (x : X) → last_or before (xs ++ x ∷ []) ≡ x
last_or-push before [] x = refl
last_or-push before (y ∷ ys) x = last_or-push y ys x

last_bits-below : (p : StampedPacket) (low : ℕ) → low < 128 → last_bits (with_stamp p low) < 8192
last_bits-below p low small =
    let e : last_or 0 (p.lows ++ low ∷ []) ≡ low = last_or-push 0 p.lows low in
    omega (arith, e)

bits_behind-below : (p : StampedPacket) (lows : List ℕ) → AreSevens lows → AreBits (bits_behind p lows)
bits_behind-below p [] small = tt
bits_behind-below p (low ∷ lows) small =
    (last_bits-below p low small.0, bits_behind-below (with_stamp p low) lows small.1)

AreBits-append : (bs cs : List ℕ) → AreBits bs → AreBits cs → AreBits (bs ++ cs)
AreBits-append [] cs small more = more
AreBits-append (b ∷ bs) cs small more = (small.0, AreBits-append bs cs small.1 more)

pub all_bits-below : (ps : List StampedPacket) → ArePackets ps → AreBits (all_bits ps)
all_bits-below [] are = tt
all_bits-below (p ∷ ps) are =
    AreBits-append (packet_bits p) (all_bits ps) (bits_behind-below (record { high = p.high; lows = [] }) p.lows are.0)
    (all_bits-below ps are.1)

-- moments in packets of their own

near-next : (last moment : ℕ) → last ≤ moment → moment < last + 8192 → moment ≡ next_moment last (moment % 8192)
near-next last moment above near = IsNextMoment-only last (moment % 8192) moment (record {
  not_below = above;
  remainder = refl;
  least = λ m m_above same. omega (arith, near, above, m_above, same);
})

both_parts : (moment : ℕ) → 128 * ((upper_six moment + 0) % 64) + lower_seven moment ≡ moment % 8192
both_parts moment = omega arith

near-from : (last : ℕ) (ms : List ℕ) → AreNear last ms → moments_from last (all_bits (stamped_alone ms)) ≡ ms
near-from last [] near = refl
near-from last (m ∷ ms) near =
    let next : next_moment last (128 * ((upper_six m + 0) % 64) + lower_seven m) ≡ m =
    ap (next_moment last) (both_parts m) ∙ sym (near-next last m near.0 near.1) in
    ap (λ z. z ∷ moments_from z (all_bits (stamped_alone ms))) next ∙ ap (λ z. m ∷ z) (near-from m ms near.2)

pub near-all : (ms : List ℕ) → AreNear 0 ms → moments_from 0 (all_bits (stamped_alone ms)) ≡ ms
near-all ms near = near-from 0 ms near
