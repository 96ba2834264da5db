-- Data bytes of a SysEx are added to the packet under way as many at a time as fit.
use Rattle.std.proofs.Common.{◌≡◌, ℕ, ◌+◌, ◌<◌, ◌≤◌, Bool, true, false, Option, Some, None, List, [], ◌∷◌, ◌++◌, length}
use Rattle.std.proofs.Common.{map, refl, ap, ap₂, sym, ◌∙◌, arith, append_assoc}
use Rattle.std.specs.Prelude.{not, ◌==◌, ◌&&◌, ◌||◌, nat_lt, if◌then◌else◌}
use Rattle.std.specs.Option.{option_or}
use Rattle.std.proofs.lemmas.Bool.Decides.{nat_tests}
use Rattle.mb_message.specs.Signs.{ByteSign}
use Rattle.mb_ble.specs.Written.{Spelled, falls, is_far}
use Rattle.mb_ble.specs.UnderWay.{OpenPacket, nothing, ends_in, flushed_in, added, after_mark, given_in, spelled_at}
use Rattle.mb_ble.specs.UnderWay.{after_all, given_all}
use Rattle.mb_ble.specs.DataAdded.{with_data}

-- a byte has no stamp
far-none : (last : Option ℕ) → is_far last None ≡ false
far-none None = refl
far-none (Some n) = refl

falls-none : (last : Option ℕ) → falls last None ≡ false
falls-none None = refl
falls-none (Some n) = refl

or-none : (o : Option ℕ) → option_or o None ≡ o
or-none None = refl
or-none (Some n) = refl

or-false : (a : Bool) → (a || false) ≡ a
or-false true = refl
or-false false = refl

and-false : (a : Bool) → (a && false) ≡ false
and-false true = refl
and-false false = refl

abbrev at : ℕ → ℕ → Spelled
at moment b = spelled_at moment (ByteSign b)

ends-byte : (w : OpenPacket) (moment b : ℕ) → ends_in w (at moment b) ≡ (not (length w.content == 0) && nat_lt w.size
    (1 + length w.content + 1))
ends-byte w moment b =
    ap₂ (λ (far fall : Bool). not (length w.content == 0) && (nat_lt w.size (1 + length w.content + 1) ||
    (far || (fall && w.fallen)))) (far-none w.last) (falls-none w.last)
    ∙ ap (λ c. not (length w.content == 0) && c) (or-false (nat_lt w.size (1 + length w.content + 1)))

fits-byte : (w : OpenPacket) (moment b : ℕ) → length w.content + 2 ≤ w.size → ends_in w (at moment b) ≡ false
fits-byte w moment b fits = ends-byte w moment b ∙ ap (λ c. not (length w.content == 0) && c)
    (low (length w.content) w.size fits) ∙ and-false (not (length w.content == 0))
  where
    low : (c n : ℕ) → c + 2 ≤ n → nat_lt n (1 + c + 1) ≡ false
    low c n fits = grind (arith, nat_tests)

full-byte : (w : OpenPacket) (moment b : ℕ) → length w.content + 1 ≡ w.size → 5 ≤ w.size → ends_in w (at moment b) ≡
    true
full-byte w moment b full least = ends-byte w moment b ∙ both (length w.content) w.size full least
  where
    both : (c n : ℕ) → c + 1 ≡ n → 5 ≤ n → (not (c == 0) && nat_lt n (1 + c + 1)) ≡ true
    both c n full least = grind (arith, nat_tests)

added-byte : (w : OpenPacket) (moment b : ℕ) → added w (at moment b) ≡ with_data w moment (b ∷ [])
added-byte w moment b =
    ap₂ (λ (first : Option ℕ) (fallen : Bool). record {
      size = w.size;
      content = w.content ++ b ∷ [];
      first = first;
      last = w.last;
      fallen = fallen;
      running = None;
      moment = moment;
    })
    (or-none w.first) (ap (λ f. w.fallen || f) (falls-none w.last) ∙ or-false w.fallen)

after-byte : (w : OpenPacket) (moment b : ℕ) → length w.content + 2 ≤ w.size → after_mark w (at moment b) ≡
    with_data w moment (b ∷ [])
after-byte w moment b fits = ap (λ e. if e then added (nothing w.size) (at moment b) else added w (at moment b))
    (fits-byte w moment b fits) ∙ added-byte w moment b

given-byte : (w : OpenPacket) (moment b : ℕ) → length w.content + 2 ≤ w.size → given_in w (at moment b) ≡ []
given-byte w moment b fits = ap (λ e. if e then flushed_in w else []) (fits-byte w moment b fits)

-- what is left and given behind bytes that fit
pub record Filled (w : OpenPacket) (moment : ℕ) (fitting others : List ℕ) : Type 0 where
  pub state : after_all (with_data w moment fitting) moment (map ByteSign others) ≡ after_all w moment
      (map ByteSign (fitting ++ others))
  pub given : given_all (with_data w moment fitting) moment (map ByteSign others) ≡ given_all w moment
      (map ByteSign (fitting ++ others))

pub filled : (fitting others : List ℕ) (w : OpenPacket) (moment : ℕ) → 0 < length fitting → length w.content + 1 +
    length fitting ≤ w.size → Filled w moment fitting others
filled [] others w moment pos fits = absurd (omega (arith, pos))
filled (b ∷ []) others w moment pos fits =
    let room : length w.content + 2 ≤ w.size = omega (arith, fits) in
    record {
      state = ap (λ p. after_all p moment (map ByteSign others)) (sym (after-byte w moment b room));
      given = ap₂ (λ g p. g ++ given_all p moment (map ByteSign others)) (sym (given-byte w moment b room))
          (sym (after-byte w moment b room));
    }
filled (b ∷ c ∷ bs) others w moment pos fits = by (filled (c ∷ bs) others (with_data w moment (b ∷ [])) moment
    (omega arith) (more w.content (omega (arith, fits))))
  where
    room : length w.content + 2 ≤ w.size
    room = omega (arith, fits)

    more : (cs : List ℕ) → length cs + 1 + length (b ∷ c ∷ bs) ≤ w.size → length (cs ++ b ∷ []) + 1 + length (c ∷ bs) ≤
        w.size
    more cs h = omega (arith, h, Rattle.std.proofs.lemmas.List.length-append cs (b ∷ []))

    joined : with_data (with_data w moment (b ∷ [])) moment (c ∷ bs) ≡ with_data w moment (b ∷ c ∷ bs)
    joined = ap (λ z. record {
      size = w.size;
      content = z;
      first = w.first;
      last = w.last;
      fallen = w.fallen;
      running =
          None;
      moment = moment;
    }) (append_assoc w.content (b ∷ []) (c ∷ bs))

    by : Filled (with_data w moment (b ∷ [])) moment (c ∷ bs) others → Filled w moment (b ∷ c ∷ bs) others
    by f = record {
      state = ap (λ p. after_all p moment (map ByteSign others)) (sym joined) ∙ f.state ∙
          ap (λ p. after_all p moment (map ByteSign ((c ∷ bs) ++ others))) (sym (after-byte w moment b room));
      given = ap (λ p. given_all p moment (map ByteSign others)) (sym joined) ∙ f.given
          ∙ ap₂ (λ g p. g ++ given_all p moment (map ByteSign ((c ∷ bs) ++ others))) (sym (given-byte w moment b room))
          (sym (after-byte w moment b room));
    }

-- a packet that is full ends before the next byte
pub full_state : (w : OpenPacket) (moment : ℕ) (bytes : List ℕ) → length w.content + 1 ≡ w.size → 5 ≤ w.size →
    0 < length bytes →
    after_all (nothing w.size) moment (map ByteSign bytes) ≡ after_all w moment (map ByteSign bytes)
full_state w moment [] full least pos = absurd (omega (arith, pos))
full_state w moment (b ∷ bs) full least pos =
    ap (λ e. after_all (if e then added (nothing w.size) (at moment b) else added w (at moment b)) moment
    (map ByteSign bs)) (sym (full-byte w moment b full least))

pub full_given : (w : OpenPacket) (moment : ℕ) (bytes old : List ℕ) → length w.content + 1 ≡ w.size → 5 ≤ w.size →
    0 < length bytes →
    (old ++ flushed_in w) ++ given_all (nothing w.size) moment (map ByteSign bytes) ≡ old ++
    given_all w moment (map ByteSign bytes)
full_given w moment [] old full least pos = absurd (omega (arith, pos))
full_given w moment (b ∷ bs) old full least pos =
    append_assoc old (flushed_in w) (given_all (nothing w.size) moment (map ByteSign (b ∷ bs)))
    ∙ ap (λ e. old ++ ((if e then flushed_in w else []) ++ given_all (if e then added (nothing w.size)
    (at moment b) else added w (at moment b)) moment (map ByteSign bs))) (sym (full-byte w moment b full least))

pub some_left : (xs : List ℕ) (none : Bool) → none ≡ (length xs == 0) → none ≡ false → 0 < length xs
some_left [] none e t = absurd (no (sym e ∙ t))
  where
    no : true ≡ false → ⊥
    no e = cc
some_left (x ∷ xs) none e t = omega arith
