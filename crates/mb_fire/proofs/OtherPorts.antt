-- No other port carries anything of what is written on a port.
use Rattle.std.proofs.Common.{◌≡◌, ◌≢◌, ◌⊎◌, inl, inr, ℕ, zero, suc, ◌+◌, ◌*◌, ◌/◌, ◌%◌, ◌<◌, ◌≤◌, Bool, true, false}
use Rattle.std.proofs.Common.{◌==◌, if◌then◌else◌, Option, Some, None, List, [], ◌∷◌, ◌++◌, flat_map, take, refl, sym}
use Rattle.std.proofs.Common.{◌∙◌, ap, ap₂, arith}
use Rattle.std.proofs.lemmas.Bool.{eqb-true, cases_lt}
use Rattle.mb_message.specs.Signs.{Sign}
use Rattle.mb_stream.specs.Payload.{Entry}
use Rattle.mb_stream.specs.Spelling.{full_bytes}
use Rattle.mb_fire.specs.Packets.{Quadlet, quadlets_from, midi_only, midi_quadlets, blocks_of}
use Rattle.mb_fire.specs.Reading.{nth, carried_by, block_payload, packet_payload, fire_payload}
use Rattle.mb_fire.specs.Written.{block, dbc_of, alone, fire_written}
use Rattle.mb_fire.proofs.WrittenPackets.{alone_from, framed, header, written_frames, blocks_at, blocks-are, has-blocks}
use Rattle.mb_fire.proofs.WrittenPackets.{nth-first, stream-of, frames-all}

nth-beyond : (j n : ℕ) (qs : List Quadlet) → n ≤ j → nth j (take n qs) ≡ None
nth-beyond j zero qs h = refl
nth-beyond j (suc n) [] h = refl
nth-beyond zero (suc n) (q ∷ qs) h = absurd (omega arith)
nth-beyond (suc j) (suc n) (q ∷ qs) h = nth-beyond j n qs (omega arith)

-- a quadlet of a block that isn't the last, or that has no byte
nothing-in : (j k at : ℕ) (w : Option ℕ) → (j ≢ k) ⊎ (w ≡ None) →
    carried_by (nth j (midi_only (quadlets_from at (block k w)))) ≡ []
nothing-in zero zero at w (inl apart) = absurd (apart refl)
nothing-in zero zero at w (inr none) = ap (λ z. carried_by (nth 0 (midi_only (quadlets_from at (block 0 z))))) none
nothing-in (suc j) zero at None h = refl
nothing-in (suc j) zero at (Some b) h = refl
nothing-in zero (suc k) at w h = refl
nothing-in (suc j) (suc k) at w (inl apart) = nothing-in j k (at + 4) w (inl (λ same. apart (ap suc same)))
nothing-in (suc j) (suc k) at w (inr none) = nothing-in j k (at + 4) w (inr none)

nothing-of : (j k at i : ℕ) (w : Option ℕ) → (j ≢ k) ⊎ (w ≡ None) →
    carried_by (nth j (midi_quadlets (record { at = at; number = i; bytes = block k w }))) ≡ []
nothing-of j k at i w h = by_place (cases_lt j 8) where
  by_place : (j < 8) ⊎ (8 ≤ j) → carried_by (nth j (take 8 (midi_only (quadlets_from at (block k w))))) ≡ []
  by_place (inl low) = ap carried_by (nth-first j 8 (midi_only (quadlets_from at (block k w))) low)
      ∙ nothing-in j k at w h
  by_place (inr high) = ap carried_by (nth-beyond j 8 (midi_only (quadlets_from at (block k w))) high)

-- the byte that waits for a block
abbrev waits : (stream byte index : ℕ) → Option ℕ
waits m b i = if i == m then Some b else None

block-other : (o p n b at i : ℕ) → (o ≡ p → ⊥) → i < 8 →
    block_payload o (dbc_of n) (record { at = at; number = i; bytes = block (p / 8) (waits (p % 8) b i) }) ≡ []
block-other o p n b at i apart low =
    ap (λ t. if t then q else []) (stream-of n i (o % 8) low (omega arith)) ∙ by_test (i == o % 8) refl
  where
    q : List Entry
    q = carried_by (nth (o / 8) (midi_quadlets
        (record { at = at; number = i; bytes = block (p / 8) (waits (p % 8) b i) })))

    by_test : (t : Bool) → (i == o % 8) ≡ t → (if t then q else []) ≡ []
    by_test false e = refl
    by_test true e = nothing-of (o / 8) (p / 8) at i (waits (p % 8) b i) (either (i == p % 8) refl) where
      either : (t : Bool) → (i == p % 8) ≡ t → (o / 8 ≢ p / 8) ⊎ (waits (p % 8) b i ≡ None)
      either false f = inr (ap (λ t. if t then Some b else None) f)
      either true f =
          let same : o % 8 ≡ p % 8 = sym (eqb-true i (o % 8) e) ∙ eqb-true i (p % 8) f in
          inl (λ place. let all : o ≡ p = omega arith in apart all)

blocks-other : (o p n b s at i c : ℕ) → (o ≡ p → ⊥) → i + c ≤ 8 →
    flat_map (block_payload o (dbc_of n)) (blocks_at s at i (p / 8) (alone_from (p % 8) b i c)) ≡ []
blocks-other o p n b s at i zero apart fits = refl
blocks-other o p n b s at i (suc c) apart fits =
    ap₂ (λ x y. x ++ y) (block-other o p n b at i apart (omega arith))
    (blocks-other o p n b s (at + s) (i + 1) c apart (omega arith))

packet-other : (o p at n b : ℕ) → (o ≡ p → ⊥) → packet_payload o (framed at (p / 8) n (alone (p % 8) b)) ≡ []
packet-other o p at n b apart =
    let k = p / 8 in
    let ws = alone (p % 8) b in
    ap (λ t. if t then flat_map (block_payload o (dbc_of n)) (blocks_of (framed at k n ws) (header k n)) else [])
    (has-blocks k n) ∙
    (ap (flat_map (block_payload o (dbc_of n))) (blocks-are at k n ws refl)
    ∙ blocks-other o p n b (4 * (k + 1)) (at + 10) 0 8 apart (omega arith))

frames-other : (o p at n : ℕ) (bs : List ℕ) → (o ≡ p → ⊥) → flat_map (packet_payload o) (written_frames p at n bs) ≡ []
frames-other o p at n [] apart = refl
frames-other o p at n (b ∷ bs) apart =
    ap₂ (λ x y. x ++ y) (packet-other o p at n b apart)
    (frames-other o p (at + 2 + (8 + 4 * (p / 8 + 1) * 8)) (n + 1) bs apart)

pub others-nothing : (p o : ℕ) (ms : List Sign) → (o ≡ p → ⊥) → fire_payload o (fire_written p ms) ≡ []
others-nothing p o ms apart = ap (flat_map (packet_payload o)) (frames-all p (full_bytes ms))
    ∙ frames-other o p 0 0 (full_bytes ms) apart
