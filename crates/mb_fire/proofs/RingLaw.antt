-- What is given to a writer of eight ports, and what it sends.
use Rattle.std.proofs.Common.{◌≡◌, ℕ, suc, ◌+◌, ◌*◌, ◌/◌, ◌%◌, ◌<◌, Bool, true, false, List, [], ◌∷◌, ◌++◌, length}
use Rattle.std.proofs.Common.{drop, refl, ap, sym, subst, ◌∙◌, arith, append_assoc}
use Rattle.std.specs.Prelude.{if◌then◌else◌, ◌==◌, flat_map, slice_set, ◌≢◌}
use Rattle.std.proofs.lemmas.Bool.Decides.{nat_tests}
use Rattle.std.proofs.lemmas.List.{get_or-set_same, get_or-set_other}
use Rattle.mb_message.specs.Signs.{Sign, signs_of_event, suits_event, open_behind, IsShortRun}
use Rattle.mb_message.specs.declared.event.Ev.{Ev}
use Rattle.mb_stream.specs.Spelling.{spelled, full_bytes}
use Rattle.mb_stream.proofs.StandingLemmas.{joined, is_open-append, open_from}
use Rattle.mb_stream.proofs.EventLemmas.{open_from-event}
use Rattle.mb_fire.specs.Written.{block, packet, cip_header}
use Rattle.mb_fire.specs.Rings.{Waiting, Writer, nothing, ring_at, head, heads, any_of, IsRing, Stands, given}
use Rattle.mb_fire.proofs.RingLemmas.{heads_at, blocks-length}

full-append : (ms ns : List Sign) → full_bytes (ms ++ ns) ≡ full_bytes ms ++ full_bytes ns
full-append [] ns = refl
full-append (m ∷ ms) ns = ap (λ z. spelled m ++ z) (full-append ms ns)
    ∙ sym (append_assoc (spelled m) (full_bytes ms) (full_bytes ns))

ring-put : (was now : Waiting) (marks : List Sign) (sent : List ℕ) (e : Ev) → IsShortRun e → suits_event was.in_sysex e
    ≡ true → now.ring ≡ was.ring ++ full_bytes (signs_of_event e) → now.in_sysex ≡ open_behind was.in_sysex e →
    IsRing was marks sent → IsRing now (marks ++ signs_of_event e) sent
ring-put was now marks sent e run suits ring opens l = record {
  bytes = full-append marks (signs_of_event e) ∙ ap (λ z. z ++ full_bytes (signs_of_event e)) l.bytes
      ∙ append_assoc sent was.ring (full_bytes (signs_of_event e)) ∙ ap (λ z. sent ++ z) (sym ring);
  each_suits = joined marks e l.each_suits (subst (λ o. suits_event o e ≡ true) l.open_now suits);
  open_now = opens ∙ sym (open_from-event was.in_sysex e suits) ∙ ap (λ o. open_from o (signs_of_event e)) l.open_now
      ∙ sym (is_open-append marks (signs_of_event e));
}

pub put_stands : (was : Writer) (p d : ℕ) (rings : List Waiting) (k : ℕ) (x z : Waiting) (e : Ev) →
    record { place = p; dbc = d; rings = rings } ≡ was → k < length rings → z ≡ ring_at rings k → IsShortRun e →
    x.ring ≡ z.ring ++ full_bytes (signs_of_event e) → x.in_sysex ≡ open_behind z.in_sysex e →
    suits_event (ring_at was.rings k).in_sysex e ≡ true →
    (marks : ℕ → List Sign) (sent : ℕ → List ℕ) (number : ℕ) → Stands was marks sent number →
    Stands (record { place = p; dbc = d; rings = slice_set rings k x }) (given marks k (signs_of_event e)) sent
    number
put_stands was p d rings k x z e is h zed run ring opens suits marks sent number st = record {
  rings = λ m l. by_test m l (m == k) refl;
  count = ap (λ (w : Writer). w.dbc) is ∙ st.count;
}
  where
    was_rings : rings ≡ was.rings
    was_rings = ap (λ (w : Writer). w.rings) is

    equal : (c d : ℕ) → (c == d) ≡ true → d ≡ c
    equal c d e = grind (arith, nat_tests)

    differ : (c d : ℕ) → (c == d) ≡ false → c ≢ d
    differ c d e = grind (arith, nat_tests)

    there : z ≡ ring_at was.rings k
    there = zed ∙ ap (λ y. ring_at y k) was_rings

    by_test : (m : ℕ) → m < 8 → (t : Bool) → (m == k) ≡ t →
        IsRing (ring_at (slice_set rings k x) m) (if m == k then marks m ++ signs_of_event e else marks m) (sent m)
    by_test m l true f =
        subst (λ t. IsRing (ring_at (slice_set rings k x) m) (if t then marks m ++ signs_of_event e else marks m)
        (sent m)) (sym f)
        (subst (λ y. IsRing (ring_at (slice_set rings k x) y) (marks y ++ signs_of_event e) (sent y)) (equal m k f)
        (subst (λ y. IsRing y (marks k ++ signs_of_event e) (sent k)) (sym (get_or-set_same rings k x nothing h))
        (ring-put z x (marks k) (sent k) e run
        (subst (λ (y : Waiting). suits_event y.in_sysex e ≡ true) (sym there) suits) ring opens
        (subst (λ y. IsRing y (marks k) (sent k)) (sym there)
        (st.rings k (subst (λ y. y < 8) (sym (equal m k f)) l))))))
    by_test m l false f =
        subst (λ t. IsRing (ring_at (slice_set rings k x) m) (if t then marks m ++ signs_of_event e else marks m)
        (sent m)) (sym f)
        (subst (λ y. IsRing y (marks m) (sent m))
        (sym (get_or-set_other rings k m x nothing (differ m k f) ∙ ap (λ y. ring_at y m) was_rings))
        (st.rings m l))

-- whether a byte waits
pub some_waits : (rings : List Waiting) (i : ℕ) (d : Waiting) → i < length rings → d ≡ ring_at rings i →
    (length d.ring == 0) ≡ false → any_of (drop i (heads rings)) ≡ true
some_waits rings i d h same e = ap any_of (heads_at rings i h)
    ∙ ap (λ z. any_of (head z ∷ drop (i + 1) (heads rings))) (sym same) ∙ by_ring d.ring e
  where
    by_ring : (ring : List ℕ) → (length ring == 0) ≡ false →
        any_of (head (record { ring = ring; in_sysex = d.in_sysex }) ∷ drop (i + 1) (heads rings)) ≡ true
    by_ring [] e = absurd (wrong e)
      where
        wrong : true ≡ false → ⊥
        wrong e = cc
    by_ring (b ∷ bs) e = refl

pub none_waits : (rings : List Waiting) (i : ℕ) (d : Waiting) → i < length rings → d ≡ ring_at rings i →
    (length d.ring == 0) ≡ true → any_of (drop (i + 1) (heads rings)) ≡ any_of (drop i (heads rings))
none_waits rings i d h same e =
    sym (ap any_of (heads_at rings i h) ∙ ap (λ z. any_of (head z ∷ drop (i + 1) (heads rings))) (sym same)
    ∙ by_ring d.ring e)
  where
    by_ring : (ring : List ℕ) → (length ring == 0) ≡ true →
        any_of (head (record { ring = ring; in_sysex = d.in_sysex }) ∷ drop (i + 1) (heads rings))
        ≡ any_of (drop (i + 1) (heads rings))
    by_ring [] e = refl
    by_ring (b ∷ bs) e = absurd (some (length bs) e)
      where
        some : (n : ℕ) → (suc n == 0) ≡ true → ⊥
        some n e = let z : suc n ≡ 0 = zero_of (suc n) e in omega arith
          where
            zero_of : (q : ℕ) → (q == 0) ≡ true → q ≡ 0
            zero_of q e = grind (arith, nat_tests)

heads-length : (rings : List Waiting) → length (heads rings) ≡ length rings
heads-length [] = refl
heads-length (w ∷ ws) = ap suc (heads-length ws)

pub packet_lem : (k n dbc : ℕ) (rings : List Waiting) → length rings ≡ 8 → dbc ≡ (n * 8) % 256 →
    packet k n (heads rings) ≡ ((40 + 32 * k) / 256) ∷ ((40 + 32 * k) % 256) ∷ (cip_header (k + 1) dbc
    ++ flat_map (block k) (heads rings))
packet_lem k n dbc rings eight e =
    ap (λ z. (z / 256) ∷ (z % 256) ∷ (cip_header (k + 1) ((n * 8) % 256) ++ flat_map (block k) (heads rings))) long
    ∙ ap (λ z. ((40 + 32 * k) / 256) ∷ ((40 + 32 * k) % 256) ∷ (cip_header (k + 1) z
    ++ flat_map (block k) (heads rings))) (sym e)
  where
    blocks : length (flat_map (block k) (heads rings)) ≡ 8 * (4 * (k + 1))
    blocks = blocks-length k (heads rings) ∙ ap (λ z. z * (4 * (k + 1))) (heads-length rings ∙ eight)

    long : length (cip_header (k + 1) ((n * 8) % 256) ++ flat_map (block k) (heads rings)) ≡ 40 + 32 * k
    long = let b = blocks in omega arith

pub written_lem : (was : Writer) (p d k n : ℕ) (rings : List Waiting) (out mid behind : List ℕ) →
    record { place = p; dbc = d; rings = rings } ≡ was → length rings ≡ 8 → was.dbc ≡ (n * 8) % 256 → k ≡ p →
    mid ≡ out ++ (((40 + 32 * k) / 256) ∷ ((40 + 32 * k) % 256) ∷ cip_header (k + 1) d) →
    behind ≡ mid ++ flat_map (block k) (heads rings) → behind ≡ out ++ packet was.place n (heads was.rings)
written_lem was p d k n rings out mid behind is eight count place head_is behind_is =
    behind_is ∙ ap (λ z. z ++ flat_map (block k) (heads rings)) head_is
    ∙ append_assoc out (((40 + 32 * k) / 256) ∷ ((40 + 32 * k) % 256) ∷ cip_header (k + 1) d)
    (flat_map (block k) (heads rings))
    ∙ ap (λ z. out ++ z) (sym (packet_lem k n d rings eight (ap (λ (w : Writer). w.dbc) is ∙ count))
    ∙ ap (λ z. packet z n (heads rings)) place ∙ ap (λ (w : Writer). packet w.place n (heads w.rings)) is)
