-- Each packet that is written suits its code index number.
use Rattle.std.proofs.Common.{◌≡◌, ℕ, ◌+◌, ◌<◌, Bool, true, false, not, ◌&&◌, ◌||◌, ◌==◌, nat_lt, List, [], ◌∷◌, ◌++◌}
use Rattle.std.proofs.Common.{length, Option, Some, None, refl, sym, ap, ◌∙◌, subst, arith, lit<}
use Rattle.std.proofs.lemmas.Bool.{agree_below_at, and_parts, and_from, eqb-true, ltb-true, leb-false, not-true}
use Rattle.std.proofs.lemmas.Bool.{or_right}
use Rattle.mb_message.specs.Bytes.{is_data, is_realtime, data_length}
use Rattle.mb_message.specs.Signs.{Sign, ShortSign, RtSign, OpenSign, ByteSign, EndSign, AbortSign}
use Rattle.mb_stream.specs.Spelling.{data_of, data_by_length}
use Rattle.mb_stream.proofs.ByteKinds.{Need, One, Two, Kind, DataKind, ChannelKind, CommonKind, TuneKind, StartKind}
use Rattle.mb_stream.proofs.ByteKinds.{EndKind, OtherKind, RtKind, OtherRtKind, kind, facts, length_of_kind, count_of}
use Rattle.mb_stream.proofs.ByteKinds.{is_realtime_kind}
use Rattle.mb_stream.proofs.Suits.{Suit, Fits_kind, Fits_need, data-kind}
use Rattle.mb_usb.specs.Packets.{cin_of_short}
use Rattle.mb_usb.specs.Reading.{used, suits_cin, starts_or_goes_on}
use Rattle.mb_usb.proofs.PacketFacts.{cut, IsGood, AreGood, AreGood-append}
use Rattle.mb_usb.proofs.WrittenCuts.{singles, cuts}

-- what the code index number of a status with so many data bytes is, all tests at once
abbrev number_test : ℕ → ℕ → ℕ → Bool
number_test n s k = nat_lt 1 n && (nat_lt n 16 && ((used n == 1 + k) &&
    (suits_cin n s 0 0 && (not (n == 6) && not (n == 7)))))

abbrev status_test_by : ℕ → Option ℕ → Bool
status_test_by s None = true
status_test_by s (Some k) = number_test (cin_of_short s) s k

record NumberFacts (n s k : ℕ) : Type 0 where
  unreserved : 1 < n
  low : n < 16
  uses : used n ≡ 1 + k
  suits : suits_cin n s 0 0 ≡ true
  not_six : (n == 6) ≡ false
  not_seven : (n == 7) ≡ false

number_facts_by : (n s k : ℕ) → number_test n s k ≡ true → NumberFacts n s k
number_facts_by n s k h =
    let a = and_parts (nat_lt 1 n) _ h in
    let b = and_parts (nat_lt n 16) _ a.1 in
    let c = and_parts (used n == 1 + k) _ b.1 in
    let d = and_parts (suits_cin n s 0 0) _ c.1 in
    let e = and_parts (not (n == 6)) _ d.1 in
    record {
      unreserved = ltb-true 1 n a.0;
      low = ltb-true n 16 b.0;
      uses = eqb-true (used n) (1 + k) c.0;
      suits = d.0;
      not_six = not-true (n == 6) e.0;
      not_seven = not-true (n == 7) e.1;
    }

-- the table of statuses
status_facts : (s k : ℕ) → is_realtime s ≡ false → data_length s ≡ Some k → NumberFacts (cin_of_short s) s k
status_facts s k low e =
    number_facts_by (cin_of_short s) s k
    (subst (λ n. status_test_by s n ≡ true) e
    (agree_below_at (λ x. status_test_by x (data_length x)) (λ x. true) 248 s refl (leb-false 248 s low)))

suits-data : (n s a b : ℕ) → (n == 6) ≡ false → (n == 7) ≡ false → is_data a ≡ true → is_data b ≡ true →
    suits_cin n s a b ≡ suits_cin n s 0 0
suits-data n s a b six seven da db = rw (six, seven, da, db)

good_need : (n s k a b : ℕ) (need : Need) → k ≡ count_of need → NumberFacts n s k → Fits_need need a b →
    IsGood (cut n (s ∷ data_by_length (Some (count_of need)) a b))
good_need n s k a b One e f fits = record {
  low = f.low;
  unreserved = f.unreserved;
  uses = f.uses ∙ ap (λ x. 1 + x) e;
  three = omega arith;
  suits = suits-data n s a 0 f.not_six f.not_seven (data-kind a fits.0) refl ∙ f.suits;
}
good_need n s k a b Two e f fits = record {
  low = f.low;
  unreserved = f.unreserved;
  uses = f.uses ∙ ap (λ x. 1 + x) e;
  three = omega arith;
  suits = suits-data n s a b f.not_six f.not_seven (data-kind a fits.0) (data-kind b fits.1) ∙ f.suits;
}

good_short_by : (s a b : ℕ) (k : Kind) → kind s ≡ k → Fits_kind k a b →
    IsGood (cut (cin_of_short s) (s ∷ data_by_length (length_of_kind k) a b))
good_short_by s a b (ChannelKind n) e f =
    good_need (cin_of_short s) s (count_of n) a b n refl
    (status_facts s (count_of n) ((facts s).is_realtime ∙ ap is_realtime_kind e) ((facts s).data_length ∙
    ap length_of_kind e)) f
good_short_by s a b (CommonKind n) e f =
    good_need (cin_of_short s) s (count_of n) a b n refl
    (status_facts s (count_of n) ((facts s).is_realtime ∙ ap is_realtime_kind e) ((facts s).data_length ∙
    ap length_of_kind e)) f
good_short_by s a b TuneKind e f =
    let t : NumberFacts (cin_of_short s) s 0 =
    status_facts s 0 ((facts s).is_realtime ∙ ap is_realtime_kind e) ((facts s).data_length ∙ ap length_of_kind e) in
    record { low = t.low; unreserved = t.unreserved; uses = t.uses; three = omega arith; suits = t.suits }
good_short_by s a b DataKind e f = absurd f
good_short_by s a b StartKind e f = absurd f
good_short_by s a b EndKind e f = absurd f
good_short_by s a b OtherKind e f = absurd f
good_short_by s a b RtKind e f = absurd f
good_short_by s a b OtherRtKind e f = absurd f

good_short : (s a b : ℕ) → Fits_kind (kind s) a b → IsGood (cut (cin_of_short s) (s ∷ data_of s a b))
good_short s a b f =
    subst (λ n. IsGood (cut (cin_of_short s) (s ∷ data_by_length n a b))) (sym (facts s).data_length)
    (good_short_by s a b (kind s) refl f)

good_single : (b : ℕ) → IsGood (cut 15 (b ∷ []))
good_single b = record { low = lit< tt; unreserved = lit< tt; uses = refl; three = omega arith; suits = refl }

good_singles : (p : List ℕ) → AreGood (singles p)
good_singles [] = tt
good_singles (b ∷ p) = (good_single b, good_singles p)

-- a three of an open SysEx
good_three : (x y b : ℕ) → starts_or_goes_on x ≡ true → is_data y ≡ true → is_data b ≡ true →
    IsGood (cut 4 (x ∷ y ∷ b ∷ []))
good_three x y b hx hy hb =
    record {
      low = lit< tt;
      unreserved = lit< tt;
      uses = refl;
      three = omega arith;
      suits =
          and_from _ _ (and_from _ _ hx hy) hb;
    }

-- The bytes that wait: the first may be the start, none is an end. None waits where no SysEx is open.
abbrev Few : List ℕ → Type 0
Few [] = Unit {0}
Few (x ∷ []) = starts_or_goes_on x ≡ true
Few (x ∷ y ∷ []) = (starts_or_goes_on x ≡ true) × (is_data y ≡ true)
Few (x ∷ y ∷ z ∷ p) = ⊥

abbrev Waits_few : Bool → List ℕ → Type 0
Waits_few true p = Few p
Waits_few false [] = Unit {0}
Waits_few false (x ∷ p) = ⊥

good_end : (p : List ℕ) → Few p → IsGood (cut (5 + length p) (p ++ 0xf7 ∷ []))
good_end [] h = record { low = lit< tt; unreserved = lit< tt; uses = refl; three = omega arith; suits = refl }
good_end (x ∷ []) h = record {
  low = lit< tt;
  unreserved = lit< tt;
  uses = refl;
  three = omega arith;
  suits =
      and_from _ _ h refl;
}
good_end (x ∷ y ∷ []) h =
    record {
      low = lit< tt;
      unreserved = lit< tt;
      uses = refl;
      three = omega arith;
      suits =
          and_from _ _ (and_from _ _ h.0 h.1) refl;
    }
good_end (x ∷ y ∷ z ∷ p) h = absurd h

starts-data : (b : ℕ) → is_data b ≡ true → starts_or_goes_on b ≡ true
starts-data b h = ap (λ t. (b == 0xf0) || t) h ∙ or_right _ _ refl

good_cuts : (o : Bool) (p : List ℕ) (ms : List Sign) → Waits_few o p → Suit o ms → AreGood (cuts p ms)
good_cuts o p [] h su = good_singles p
good_cuts false [] (ShortSign s a b ∷ ms) h su = (good_short s a b su.0, good_cuts false [] ms tt su.1)
good_cuts false [] (RtSign b ∷ ms) h su = (good_single b, good_cuts false [] ms tt su.1)
good_cuts false [] (OpenSign ∷ ms) h su = good_cuts true (0xf0 ∷ []) ms refl su.1
good_cuts false (x ∷ p) (ShortSign s a b ∷ ms) h su = absurd h
good_cuts false (x ∷ p) (RtSign b ∷ ms) h su = absurd h
good_cuts false (x ∷ p) (OpenSign ∷ ms) h su = absurd h
good_cuts false p (ByteSign b ∷ ms) h su = absurd su.0
good_cuts false p (EndSign ∷ ms) h su = absurd su.0
good_cuts false p (AbortSign ∷ ms) h su = absurd su.0
good_cuts true p (ShortSign s a b ∷ ms) h su = absurd su.0
good_cuts true p (RtSign b ∷ ms) h su = (good_single b, good_cuts true p ms h su.1)
good_cuts true p (OpenSign ∷ ms) h su = absurd su.0
good_cuts true [] (ByteSign b ∷ ms) h su = good_cuts true (b ∷ []) ms (starts-data b (data-kind b su.0)) su.1
good_cuts true (x ∷ []) (ByteSign b ∷ ms) h su = good_cuts true (x ∷ b ∷ []) ms (h, data-kind b su.0) su.1
good_cuts true (x ∷ y ∷ []) (ByteSign b ∷ ms) h su =
    (good_three x y b h.0 h.1 (data-kind b su.0), good_cuts true [] ms tt su.1)
good_cuts true (x ∷ y ∷ z ∷ p) (ByteSign b ∷ ms) h su = absurd h
good_cuts true p (EndSign ∷ ms) h su = (good_end p h, good_cuts false [] ms tt su.1)
good_cuts true p (AbortSign ∷ ms) h su = AreGood-append (singles p) (cuts [] ms) (good_singles p)
    (good_cuts false [] ms tt su.1)

pub AreGood-cuts : (ms : List Sign) → Suit false ms → AreGood (cuts [] ms)
AreGood-cuts ms su = good_cuts false [] ms tt su
