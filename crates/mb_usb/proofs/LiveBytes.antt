-- What a cable carries of marks while their list goes on: all but the bytes that wait, which are two at most.
use Rattle.std.proofs.Common.{◌≡◌, ℕ, ◌≤◌, ◌==◌, Bool, true, false, if◌then◌else◌, List, [], ◌∷◌, ◌++◌, length}
use Rattle.std.proofs.Common.{refl, sym, ap, ap₂, ◌∙◌, subst, append_assoc, length-append, arith}
use Rattle.std.proofs.lemmas.Bool.Decides.{nat_tests}
use Rattle.std.proofs.lemmas.List.Concat.{flat_map-append}
use Rattle.mb_message.specs.Signs.{Sign, ShortSign, RtSign, OpenSign, ByteSign, EndSign, AbortSign}
use Rattle.mb_stream.specs.Spelling.{data_of}
use Rattle.mb_stream.proofs.ByteKinds.{kind}
use Rattle.mb_stream.proofs.Machine.{Reader, after, behind, behind-append}
use Rattle.mb_stream.proofs.StandingLemmas.{open_from}
use Rattle.mb_stream.proofs.Suits.{Suit}
use Rattle.mb_usb.specs.Running.{pending_after, usb_from, pending_from}
use Rattle.mb_usb.proofs.PacketFacts.{Cut, cut, packet_of, written, cut_bytes}
use Rattle.mb_usb.proofs.WrittenCuts.{singles, singles-bytes, cuts_at, cuts, at-written, cuts-bytes}
use Rattle.mb_usb.proofs.HeldBytes.{held_back, Waiting, Waiting-push, Waiting-start, HoldsBytes}

-- the packets that are written at the marks
abbrev pub live_cuts : List ℕ → List Sign → List Cut
live_cuts p [] = []
live_cuts p (m ∷ ms) = cuts_at p m ++ live_cuts (pending_after p m) ms

pub live-written : (cable : ℕ) (p : List ℕ) (ms : List Sign) → usb_from cable p ms ≡ written cable (live_cuts p ms)
live-written cable p [] = refl
live-written cable p (m ∷ ms) =
    ap₂ (λ bs cs. bs ++ cs) (at-written cable p m) (live-written cable (pending_after p m) ms)
    ∙ sym (flat_map-append (packet_of cable) (cuts_at p m) (live_cuts (pending_after p m) ms))

pub cuts-live : (p : List ℕ) (ms : List Sign) → cuts p ms ≡ live_cuts p ms ++ singles (pending_from p ms)
cuts-live p [] = refl
cuts-live p (m ∷ ms) =
    ap (λ z. cuts_at p m ++ z) (cuts-live (pending_after p m) ms)
    ∙ sym (append_assoc (cuts_at p m) (live_cuts (pending_after p m) ms)
    (singles (pending_from (pending_after p m) ms)))

abbrev pub live_bytes : List ℕ → List Sign → List ℕ
live_bytes p ms = cut_bytes (live_cuts p ms)

pub held-live : (ms : List Sign) → held_back [] ms ≡ live_bytes [] ms ++ pending_from [] ms
held-live ms =
    sym (cuts-bytes [] ms)
    ∙ (ap cut_bytes (cuts-live [] ms)
    ∙ (flat_map-append (λ (x : Cut). x.bytes) (live_cuts [] ms) (singles (pending_from [] ms))
    ∙ ap (λ z. live_bytes [] ms ++ z) (singles-bytes (pending_from [] ms))))

-- two bytes at most wait
few_after : (p : List ℕ) (m : Sign) → length p ≤ 2 → length (pending_after p m) ≤ 2
few_after p (ShortSign s a b) h = omega arith
few_after p (RtSign b) h = h
few_after p OpenSign h = omega arith
few_after p (ByteSign b) h = by (length p == 2) refl
  where
    by : (c : Bool) → (length p == 2) ≡ c → length (if c then [] else p ++ b ∷ []) ≤ 2
    by true e = omega arith
    by false e = omega (arith, length-append p (b ∷ []), fewer e)
      where
        fewer : (length p == 2) ≡ false → length p ≤ 1
        fewer e = grind (arith, nat_tests)
few_after p EndSign h = omega arith
few_after p AbortSign h = omega arith

pub few_wait : (p : List ℕ) (ms : List Sign) → length p ≤ 2 → length (pending_from p ms) ≤ 2
few_wait p [] h = h
few_wait p (m ∷ ms) h = few_wait (pending_after p m) ms (few_after p m h)

-- The reader behind the live bytes, and the bytes that wait behind it.

pub held-after : (ms : List Sign) (o : Bool) (r : Reader) (p : List ℕ) → HoldsBytes o r p → Suit o ms →
    HoldsBytes (open_from o ms) (behind r (live_bytes p ms)) (pending_from p ms)
held-after [] o r p h su = h
held-after (ShortSign s a b ∷ ms) false r [] h su =
    subst (λ (x : Reader). HoldsBytes (open_from false ms) x (pending_from [] ms))
    (sym (behind-append r (s ∷ data_of s a b) (live_bytes [] ms)))
    (held-after ms false (behind r (s ∷ data_of s a b)) [] tt su.1)
held-after (ShortSign s a b ∷ ms) true r p h su = absurd su.0
held-after (RtSign b ∷ ms) false r [] h su = held-after ms false (after r (kind b) b) [] tt su.1
held-after (RtSign b ∷ ms) true r p h su =
    held-after ms true (after r (kind b) b) p (subst (λ k. Waiting (after r k b) p) (sym su.0) h) su.1
held-after (OpenSign ∷ ms) false r [] h su = held-after ms true r (0xf0 ∷ []) (Waiting-start r) su.1
held-after (OpenSign ∷ ms) true r p h su = absurd su.0
held-after (ByteSign b ∷ ms) false r p h su = absurd su.0
held-after (ByteSign b ∷ ms) true r p h su =
    let Goal : Bool → Type 0 = λ c.
    HoldsBytes (open_from true ms)
    (behind r (cut_bytes ((if c then cut 4 (p ++ b ∷ []) ∷ [] else []) ++ live_cuts (if c then [] else p ++ b ∷ [])
    ms)))
    (pending_from (if c then [] else p ++ b ∷ []) ms) in
    let more : Waiting r (p ++ b ∷ []) = Waiting-push r p b h su.0 in
    let later = held-after ms true (behind r (p ++ b ∷ [])) [] (record { passes = tt; inside = more.inside }) su.1 in
    let kept = held-after ms true r (p ++ b ∷ []) more su.1 in
    elim (length p == 2) as Goal [
      | true ↦
          subst (λ (x : Reader). HoldsBytes (open_from true ms) x (pending_from [] ms))
          (sym (behind-append r (p ++ b ∷ []) (live_bytes [] ms))) later
      | false ↦ kept
    ]
held-after (EndSign ∷ ms) false r p h su = absurd su.0
held-after (EndSign ∷ ms) true r p h su =
    subst (λ (x : Reader). HoldsBytes (open_from false ms) x (pending_from [] ms))
    (sym (behind-append r (p ++ 0xf7 ∷ []) (live_bytes [] ms)))
    (held-after ms false (behind r (p ++ 0xf7 ∷ [])) [] tt su.1)
held-after (AbortSign ∷ ms) false r p h su = absurd su.0
held-after (AbortSign ∷ ms) true r p h su =
    subst (λ (x : Reader). HoldsBytes (open_from false ms) x (pending_from [] ms))
    (sym (ap (behind r) carried ∙ behind-append r p (live_bytes [] ms)))
    (held-after ms false (behind r p) [] tt su.1)
  where
    carried : cut_bytes (singles p ++ live_cuts [] ms) ≡ p ++ live_bytes [] ms
    carried =
        flat_map-append (λ (x : Cut). x.bytes) (singles p) (live_cuts [] ms)
        ∙ ap (λ z. z ++ live_bytes [] ms) (singles-bytes p)
held-after (ShortSign s a b ∷ ms) false r (x ∷ p) h su = absurd h
held-after (RtSign b ∷ ms) false r (x ∷ p) h su = absurd h
held-after (OpenSign ∷ ms) false r (x ∷ p) h su = absurd h
