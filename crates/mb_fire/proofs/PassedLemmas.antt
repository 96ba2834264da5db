-- Bytes that are passed over in one go: the same as one after the other.
use Rattle.std.proofs.Common.{◌≡◌, ℕ, zero, suc, ◌+◌, ◌-◌, ◌*◌, ◌%◌, ◌<◌, ◌≤◌, Bool, true, false, not, ◌&&◌, ◌==◌}
use Rattle.std.proofs.Common.{nat_lt, nat_le, if◌then◌else◌, Option, List, [], ◌∷◌, ◌++◌, length, take, drop, get_or}
use Rattle.std.proofs.Common.{refl, sym, ◌∙◌, ap, ap₂, subst, arith, append_assoc, length-append}
use Rattle.std.proofs.lemmas.Bool.{and_parts, eqb-true, ltb-true}
use Rattle.std.proofs.lemmas.Bool.Decides.{nat_tests}
use Rattle.std.proofs.lemmas.List.{take_all}
use Rattle.mb_message.specs.declared.note.Note.{Note}
use Rattle.mb_message.specs.declared.note.NoteKind.TheVariants.{BadCip, NoMidiQuadlet}
use Rattle.mb_fire.specs.declared.due.Due.{Due}
use Rattle.mb_fire.specs.declared.due.Due.TheVariants.{Nothing}
use Rattle.mb_fire.specs.declared.place.BegunHeader.{BegunHeader}
use Rattle.mb_fire.specs.declared.place.BlockPlace.{BlockPlace}
use Rattle.mb_fire.specs.declared.place.Place.{Place}
use Rattle.mb_fire.specs.declared.place.Place.TheVariants.{Between, High, Heading, Within}
use Rattle.mb_fire.specs.declared.under.Packets.{Packets}
use Rattle.mb_fire.specs.Packets.{is_midi}
use Rattle.mb_fire.specs.Passed.{carries, is_passed, IsQuiet, behind_whole_header, behind_whole_quadlet}
use Rattle.mb_fire.specs.Passed.{behind_whole_rest, behind_whole_label, ArePassed, PassedOver}
use Rattle.mb_fire.specs.Under.{passed, to_come, label_after, one_less, behind_quadlet, notes_behind, behind_header}
use Rattle.mb_fire.specs.Under.{expected_behind, notes_at_header, due_by, packet_after, packet_behind}
use Rattle.mb_fire.proofs.Bytewise.{inner-after, last-after, own-less}
use Rattle.mb_fire.proofs.QuadletEvents.{U, S, Few, None_few, One_few, Two_few, Three_few, few-by, one_midi, left_by}
use Rattle.mb_fire.proofs.QuadletEvents.{skip_by}

-- One run of them behind another.

packet_behind-append : (p : Packets) (xs ys : List ℕ) → packet_behind p (xs ++ ys)
    ≡ packet_behind (packet_behind p xs) ys
packet_behind-append p [] ys = refl
packet_behind-append p (x ∷ xs) ys = packet_behind-append (packet_after p x) xs ys

ArePassed-append : (w : ℕ) (p : Packets) (xs ys : List ℕ) → ArePassed w p xs → ArePassed w (packet_behind p xs) ys →
    ArePassed w p (xs ++ ys)
ArePassed-append w p [] ys h k = k
ArePassed-append w p (x ∷ xs) ys h k = (h.0, h.1, ArePassed-append w (packet_after p x) xs ys h.2 k)

pub passed-then : (w : ℕ) (p q r : Packets) (input between left : List ℕ) → PassedOver w p q input between →
    PassedOver w q r between left → PassedOver w p r input left
passed-then w p q r input between left h k = record {
  taken = h.taken ++ k.taken;
  front = h.front ∙ (ap (λ z. h.taken ++ z) k.front ∙ sym (append_assoc h.taken k.taken left));
  passed = ArePassed-append w p h.taken k.taken h.passed
      (subst (λ (z : Packets). ArePassed w z k.taken) h.behind k.passed);
  behind = k.behind ∙ (ap (λ (z : Packets). packet_behind z k.taken) h.behind
      ∙ sym (packet_behind-append p h.taken k.taken));
}

pub passed-five : (w : ℕ) (p q r s t u : Packets) (a b c d e f : List ℕ) → PassedOver w p q a b → PassedOver w q r b c →
    PassedOver w r s c d → PassedOver w s t d e → PassedOver w t u e f → PassedOver w p u a f
passed-five w p q r s t u a b c d e f h i j k l =
    passed-then w p t u a e f (passed-then w p s t a d e (passed-then w p r s a c d (passed-then w p q r a b c h i) j)
    k) l

-- A header.

abbrev pub at_place : (offset : ℕ) → Place → Option ℕ → Due → Packets
at_place o u e d = record { offset = o; under = U u e; due = d }

and-false : (t : Bool) → (t && false) ≡ false
and-false true = refl
and-false false = refl

abbrev pub header : (len taken sid dbs dbc fmt fdf : ℕ) → BegunHeader
header len k sid dbs dbc fmt fdf = record {
  len = len;
  taken = k;
  sid = sid;
  dbs = dbs;
  dbc = dbc;
  fmt = fmt;
  fdf =
      fdf;
}

length-long : (o h l : ℕ) (e : Option ℕ) → 8 ≤ 256 * h + l → packet_after (at_place o (High h) e Nothing) l
    ≡ at_place (o + 1) (Heading (header (256 * h + l) 0 0 0 0 0 0)) e Nothing
length-long o h l e long =
    let enough : nat_lt (256 * h + l) 8 ≡ false = grind (arith, nat_tests) in
    ap (λ (t : Bool). at_place (o + 1) (if t then passed (256 * h + l) else Heading (header (256 * h + l) 0 0 0 0 0 0))
    e
    (due_by (if t then record { kind = BadCip; at = o - 1 } ∷ [] else []))) enough

-- behind the length: eight bytes, of which only the last makes something known
abbrev begun : (offset len : ℕ) → Option ℕ → Packets
begun o len e = at_place o (Heading (header len 0 0 0 0 0 0)) e Nothing

behind-eight : (o len a b c d f g x y : ℕ) (e : Option ℕ) →
    packet_behind (begun (o + 1 + 1) len e) (a ∷ b ∷ c ∷ d ∷ f ∷ g ∷ x ∷ y ∷ [])
    ≡ behind_whole_header (at_place o Between e Nothing) (header len 7 a b d f g)
behind-eight o len a b c d f g x y e =
    let h = header len 7 a b d f g in
    let last : o + 1 + 1 + 1 + 1 + 1 + 1 + 1 + 1 + 1 ≡ o + 9 = omega arith in
    let end : o + 1 + 1 + 1 + 1 + 1 + 1 + 1 + 1 + 1 + 1 ≡ o + 10 = omega arith in
    ap₂ (λ (i j : ℕ). at_place i (behind_header h) (expected_behind e h) (due_by (notes_at_header e h j))) end last

eight-passed : (w o len a b c d f g x y : ℕ) (e : Option ℕ) →
    ArePassed w (begun o len e) (a ∷ b ∷ c ∷ d ∷ f ∷ g ∷ x ∷ y ∷ [])
eight-passed w o len a b c d f g x y e =
    let none : ((0 == w) && false) ≡ false = and-false (0 == w) in
    (refl, none, (refl, none, (refl, none, (refl, none, (refl, none, (refl, none, (refl, none, (refl, none, tt))))))))

header-of : (w : ℕ) (o high low a b c d f g x y : ℕ) (e : Option ℕ) (q : Packets) (left : List ℕ) →
    8 ≤ 256 * high + low →
    q ≡ behind_whole_header (at_place o Between e Nothing) (header (256 * high + low) 7 a b d f g) →
    PassedOver w (at_place o Between e Nothing) q (high ∷ low ∷ a ∷ b ∷ c ∷ d ∷ f ∷ g ∷ x ∷ y ∷ left) left
header-of w o high low a b c d f g x y e q left long after =
    let none : ((0 == w) && false) ≡ false = and-false (0 == w) in
    let eight : List ℕ = a ∷ b ∷ c ∷ d ∷ f ∷ g ∷ x ∷ y ∷ [] in
    let here : packet_after (at_place (o + 1) (High high) e Nothing) low ≡ begun (o + 1 + 1) (256 * high + low) e =
    length-long (o + 1) high low e long in
    record {
      taken = high ∷ low ∷ a ∷ b ∷ c ∷ d ∷ f ∷ g ∷ x ∷ y ∷ [];
      front = refl;
      passed = (
        refl,
        none,
        (
          refl,
          none,
          subst (λ (z : Packets). ArePassed w z eight) (sym here)
              (eight-passed w (o + 1 + 1) (256 * high + low) a b c d f g x y e),
        ),
      );
      behind = after ∙ (sym (behind-eight o (256 * high + low) a b c d f g x y e)
          ∙ ap (λ (z : Packets). packet_behind z eight) (sym here));
    }

pub header-passed : (w : ℕ) (p q : Packets) (high low a b c d f g x y : ℕ) (left : List ℕ) → p.due ≡ Nothing →
    p.under.place ≡ Between → 8 ≤ 256 * high + low →
    q ≡ behind_whole_header p (header (256 * high + low) 7 a b d f g) →
    PassedOver w p q (high ∷ low ∷ a ∷ b ∷ c ∷ d ∷ f ∷ g ∷ x ∷ y ∷ left) left
header-passed w p q high low a b c d f g x y left due between long after =
    let is : at_place p.offset Between p.under.expected Nothing ≡ p =
    ap₂ (λ (u : Place) (n : Due). at_place p.offset u p.under.expected n) (sym between) (sym due) in
    subst (λ (z : Packets). PassedOver w z q (high ∷ low ∷ a ∷ b ∷ c ∷ d ∷ f ∷ g ∷ x ∷ y ∷ left) left) is
    (header-of w p.offset high low a b c d f g x y p.under.expected q left long
    (after ∙ ap (λ (z : Packets). behind_whole_header z (header (256 * high + low) 7 a b d f g)) (sym is)))

-- A quadlet.

abbrev port : (count midi : ℕ) → ℕ
port n m = 8 * ((m - 1) % 8) + n % 8

-- behind its label
abbrev pub within : (offset : ℕ) → BlockPlace → Option ℕ → Packets
within o c e = at_place o (Within c) e Nothing

behind-three : (o d n b r q m l s : ℕ) (e : Option ℕ) (x y z : ℕ) → Few l s →
    packet_behind (within (o + 1) (S d n b r q m l s) e) (x ∷ y ∷ z ∷ []) ≡
    at_place (o + 4) (behind_quadlet (S d n b r q m l s)) e (due_by (notes_behind (S d n b r q m l s) (o + 3)))
behind-three o d n b r q m l s e x y z few =
    by_few few ∙ ap₂ (λ (i j : ℕ). at_place i (behind_quadlet (S d n b r q m l s)) e
    (due_by (notes_behind (S d n b r q m l s) j))) end last
  where
    last : o + 1 + 1 + 1 ≡ o + 3
    last = omega arith

    end : o + 1 + 1 + 1 + 1 ≡ o + 4
    end = omega arith

    by_few : {l s : ℕ} → Few l s → packet_behind (within (o + 1) (S d n b r q m l s) e) (x ∷ y ∷ z ∷ []) ≡
        at_place (o + 1 + 1 + 1 + 1) (behind_quadlet (S d n b r q m l s)) e
        (due_by (notes_behind (S d n b r q m l s) (o + 1 + 1 + 1)))
    by_few None_few = refl
    by_few One_few = refl
    by_few Two_few = refl
    by_few Three_few = refl

-- no byte of it is the port's: it has none, or is another port's
three-passed : (w o d n b r q m l s : ℕ) (e : Option ℕ) (x y z : ℕ) → Few l s →
    ((l == 0) ≡ false → (port n m == w) ≡ false) → ArePassed w (within o (S d n b r q m l s) e) (x ∷ y ∷ z ∷ [])
three-passed w o d n b r q m l s e x y z None_few other =
    let none : ((port n m == w) && false) ≡ false = and-false (port n m == w) in
    (refl, none, (refl, none, (refl, none, tt)))
three-passed w o d n b r q m l s e x y z One_few other =
    let none : ((port n m == w) && false) ≡ false = and-false (port n m == w) in
    let one : ((port n m == w) && true) ≡ false = ap (λ t. t && true) (other refl) in
    (refl, one, (refl, none, (refl, none, tt)))
three-passed w o d n b r q m l s e x y z Two_few other =
    let none : ((port n m == w) && false) ≡ false = and-false (port n m == w) in
    let one : ((port n m == w) && true) ≡ false = ap (λ t. t && true) (other refl) in
    (refl, one, (refl, one, (refl, none, tt)))
three-passed w o d n b r q m l s e x y z Three_few other =
    let one : ((port n m == w) && true) ≡ false = ap (λ t. t && true) (other refl) in
    (refl, one, (refl, one, (refl, one, tt)))

-- behind this label
label-is : (d n b r q m l : ℕ) (t : Bool) → (is_midi l && nat_lt m 8) ≡ t → label_after (S d n b r q m 0 0) l
    ≡ S d n b r q (one_midi t m) (left_by t l) (skip_by t l)
label-is d n b r q m l true h = ap (λ t. if t then S d n b r q (m + 1) (l - 0x80) (0x83 - l) else S d n b r q m 0 3) h
label-is d n b r q m l false h = ap (λ t. if t then S d n b r q (m + 1) (l - 0x80) (0x83 - l) else S d n b r q m 0 3) h

not-carried : (w d n b r q m l : ℕ) (t : Bool) → (is_midi l && nat_lt m 8) ≡ t → carries w (S d n b r q m 0 0) l
    ≡ false → (left_by t l == 0) ≡ false → (port n (one_midi t m) == w) ≡ false
not-carried w d n b r q m l false h c some = cc
not-carried w d n b r q m l true h c some =
    let parts : (is_midi l ≡ true) × (nat_lt m 8 ≡ true) = and_parts (is_midi l) (nat_lt m 8) h in
    let ends : (nat_le 0x80 l ≡ true) × (nat_le l 0x83 ≡ true) = and_parts (nat_le 0x80 l) (nat_le l 0x83) parts.0 in
    let low : m < 8 = ltb-true m 8 parts.1 in
    let same : 8 * ((m + 1 - 1) % 8) + n % 8 ≡ 8 * m + n % 8 = omega arith in
    let first : nat_le 0x81 l ≡ true = grind (arith, nat_tests) in
    ap (λ z. z == w) same ∙ sym (four (nat_le 0x81 l) (nat_le l 0x83) (nat_lt m 8) (8 * m + n % 8 == w) first ends.1
    parts.1) ∙ c
  where
    four : (f g h i : Bool) → f ≡ true → g ≡ true → h ≡ true → (f && g && h && i) ≡ i
    four f g h i a b c = ap₂ (λ s t. s && t && h && i) a b ∙ ap (λ s. s && i) c

quadlet-of : (w o d n b r q m l x y z : ℕ) (e : Option ℕ) (now : Packets) (left : List ℕ) →
    carries w (S d n b r q m 0 0) l ≡ false →
    now ≡ behind_whole_quadlet (within o (S d n b r q m 0 0) e) (S d n b r q m 0 0) l →
    PassedOver w (within o (S d n b r q m 0 0) e) now (l ∷ x ∷ y ∷ z ∷ left) left
quadlet-of w o d n b r q m l x y z e now left other after =
    let t : Bool = is_midi l && nat_lt m 8 in
    let c : BlockPlace = S d n b r q (one_midi t m) (left_by t l) (skip_by t l) in
    let is : label_after (S d n b r q m 0 0) l ≡ c = label-is d n b r q m l t refl in
    let few : Few (left_by t l) (skip_by t l) = few-by t l m refl in
    record {
      taken = l ∷ x ∷ y ∷ z ∷ [];
      front = refl;
      passed = (
        refl,
        and-false (port n m == w),
        subst (λ (k : BlockPlace). ArePassed w (within (o + 1) k e) (x ∷ y ∷ z ∷ [])) (sym is)
            (three-passed w (o + 1) d n b r q (one_midi t m) (left_by t l) (skip_by t l) e x y z few
            (not-carried w d n b r q m l t refl other)),
      );
      behind =
          after ∙ (ap (λ (z : BlockPlace). at_place (o + 4) (behind_quadlet z) e (due_by (notes_behind z (o + 3)))) is ∙
          (sym (behind-three o d n b r q (one_midi t m) (left_by t l) (skip_by t l) e x y z few)
          ∙ ap (λ (k : BlockPlace). packet_behind (within (o + 1) k e) (x ∷ y ∷ z ∷ [])) (sym is)));
    }

pub quadlet-passed : (w : ℕ) (p now : Packets) (c : BlockPlace) (l x y z : ℕ) (left : List ℕ) → p.due ≡ Nothing →
    p.under.place ≡ Within c → is_passed w c l ≡ true →
    now ≡ behind_whole_quadlet p c l → PassedOver w p now (l ∷ x ∷ y ∷ z ∷ left) left
quadlet-passed w p now c l x y z left due at passes after =
    let parts : (((c.left == 0) && (c.skip == 0)) ≡ true) × (not (carries w c l) ≡ true) =
    and_parts ((c.left == 0) && (c.skip == 0)) (not (carries w c l)) passes in
    let ends : ((c.left == 0) ≡ true) × ((c.skip == 0) ≡ true) = and_parts (c.left == 0) (c.skip == 0) parts.0 in
    let first : BlockPlace = S c.dbs c.count c.blocks c.ragged c.quadlets c.midi 0 0 in
    let begins : c ≡ first = ap₂ (λ (l s : ℕ). S c.dbs c.count c.blocks c.ragged c.quadlets c.midi l s)
    (eqb-true c.left 0 ends.0) (eqb-true c.skip 0 ends.1) in
    let is : within p.offset first p.under.expected ≡ p =
    ap₂ (λ (u : Place) (n : Due). at_place p.offset u p.under.expected n) (ap Within (sym begins) ∙ sym at)
    (sym due) in
    let other : carries w first l ≡ false = not-true (carries w c l) parts.1 in
    subst (λ (k : Packets). PassedOver w k now (l ∷ x ∷ y ∷ z ∷ left) left) is
    (quadlet-of w p.offset c.dbs c.count c.blocks c.ragged c.quadlets c.midi l x y z p.under.expected now left other
    (after ∙ (ap (λ (k : BlockPlace). behind_whole_quadlet p k l) begins
    ∙ ap (λ (k : Packets). behind_whole_quadlet k first l) (sym is))))
  where
    not-true : (t : Bool) → not t ≡ true → t ≡ false
    not-true true e = cc
    not-true false e = refl

-- A label.

pub label-passed : (w : ℕ) (p now : Packets) (c : BlockPlace) (l : ℕ) (left : List ℕ) → p.due ≡ Nothing → p.under.place
    ≡ Within c → c.left ≡ 0 → c.skip ≡ 0 →
    now ≡ behind_whole_label p c l → PassedOver w p now (l ∷ left) left
label-passed w p now c l left due at none over after =
    let first : BlockPlace = S c.dbs c.count c.blocks c.ragged c.quadlets c.midi 0 0 in
    let begins : c ≡ first = ap₂ (λ (l s : ℕ). S c.dbs c.count c.blocks c.ragged c.quadlets c.midi l s) none over in
    let is : within p.offset first p.under.expected ≡ p =
    ap₂ (λ (u : Place) (n : Due). at_place p.offset u p.under.expected n) (ap Within (sym begins) ∙ sym at)
    (sym due) in
    subst (λ (k : Packets). PassedOver w k now (l ∷ left) left) is (record {
      taken = l ∷ [];
      front = refl;
      passed = (refl, and-false (port c.count c.midi == w), tt);
      behind = after ∙ (ap (λ (k : BlockPlace). behind_whole_label p k l) begins
          ∙ ap (λ (k : Packets). behind_whole_label k first l) (sym is));
    })

-- Bytes behind a label, one after the other.

one-inner : (o : ℕ) (c : BlockPlace) (e : Option ℕ) (d : Due) (b : ℕ) → 1 < to_come c →
    packet_after (at_place o (Within c) e d) b ≡ within (o + 1) (one_less c) e
one-inner o c e d b more =
    let quiet : (to_come c == 1) ≡ false = grind (arith, nat_tests) in
    ap₂ (λ (u : Place) (t : Bool). at_place (o + 1) u e
    (due_by (if t && ((c.quadlets == 0) && (c.midi == 0))
    then record { kind = NoMidiQuadlet; at = (o + 1) - 4 * c.dbs } ∷ [] else [])))
    (inner-after c b more) quiet

one-last : (o : ℕ) (c : BlockPlace) (e : Option ℕ) (d : Due) (b : ℕ) → to_come c ≡ 1 →
    packet_after (at_place o (Within c) e d) b ≡ at_place (o + 1) (behind_quadlet c) e (due_by (notes_behind c o))
one-last o c e d b one =
    let last : (to_come c == 1) ≡ true = grind (arith, nat_tests) in
    ap₂ (λ (u : Place) (t : Bool). at_place (o + 1) u e
    (due_by (if t && ((c.quadlets == 0) && (c.midi == 0))
    then record { kind = NoMidiQuadlet; at = (o + 1) - 4 * c.dbs } ∷ [] else [])))
    (last-after c b one) last

-- The rest of a quadlet, of which no byte is a port's.

abbrev skipping : BlockPlace → ℕ → BlockPlace
skipping c s = S c.dbs c.count c.blocks c.ragged c.quadlets c.midi 0 s

skip-behind : (o : ℕ) (c : BlockPlace) (e : Option ℕ) (s : ℕ) (bs : List ℕ) → length bs ≡ suc s →
    packet_behind (within o (skipping c (suc s)) e) bs
    ≡ at_place (o + suc s) (behind_quadlet (skipping c (suc s))) e
    (due_by (notes_behind (skipping c (suc s)) (o + suc s - 1)))
skip-behind o c e s [] long = absurd (omega (arith, long))
skip-behind o c e zero (x ∷ []) long =
    let last : o ≡ o + 1 - 1 = omega arith in
    one-last o (skipping c 1) e Nothing x refl
    ∙ ap (λ i. at_place (o + 1) (behind_quadlet (skipping c 1)) e (due_by (notes_behind (skipping c 1) i))) last
skip-behind o c e zero (x ∷ y ∷ bs) long = absurd (omega (arith, long))
skip-behind o c e (suc s) (x ∷ bs) long =
    let less : suc (suc s) - 1 ≡ suc s = omega arith in
    let end : o + 1 + suc s ≡ o + suc (suc s) = omega arith in
    ap (λ (z : Packets). packet_behind z bs) (one-inner o (skipping c (suc (suc s))) e Nothing x (omega arith)
    ∙ ap (λ k. within (o + 1) (skipping c k) e) less) ∙
    (skip-behind (o + 1) c e s bs (omega (arith, long))
    ∙ ap (λ i. at_place i (behind_quadlet (skipping c (suc s))) e
    (due_by (notes_behind (skipping c (suc s)) (i - 1)))) end)

skip-passed : (w o : ℕ) (c : BlockPlace) (e : Option ℕ) (s : ℕ) (bs : List ℕ) → length bs ≡ s →
    ArePassed w (within o (skipping c s) e) bs
skip-passed w o c e s [] long = tt
skip-passed w o c e s (x ∷ []) long = (refl, and-false (port c.count c.midi == w), tt)
skip-passed w o c e zero (x ∷ y ∷ bs) long = absurd (omega (arith, long))
skip-passed w o c e (suc zero) (x ∷ y ∷ bs) long = absurd (omega (arith, long))
skip-passed w o c e (suc (suc s)) (x ∷ y ∷ bs) long =
    let less : suc (suc s) - 1 ≡ suc s = omega arith in (
      refl,
      and-false (port c.count c.midi == w),
      subst (λ (z : Packets). ArePassed w z (y ∷ bs))
          (sym (one-inner o (skipping c (suc (suc s))) e Nothing x (omega arith)
          ∙ ap (λ k. within (o + 1) (skipping c k) e) less))
          (skip-passed w (o + 1) c e (suc s) (y ∷ bs) (omega (arith, long))),
    )

pub rest-passed : (w : ℕ) (p now : Packets) (c : BlockPlace) (bytes left input : List ℕ) → p.due ≡ Nothing →
    p.under.place ≡ Within c → c.left ≡ 0 → 0 < c.skip → length bytes ≡ c.skip → input ≡ bytes ++ left →
    now ≡ behind_whole_rest p c → PassedOver w p now input left
rest-passed w p now c bytes left input due at none some long front after = by_skip c.skip refl some where
  by_skip : (s : ℕ) → c.skip ≡ s → 0 < s → PassedOver w p now input left
  by_skip zero e h = absurd (omega arith)
  by_skip (suc s) e h =
      let begins : c ≡ skipping c (suc s) =
      ap₂ (λ (l s : ℕ). S c.dbs c.count c.blocks c.ragged c.quadlets c.midi l s) none e in
      let is : within p.offset (skipping c (suc s)) p.under.expected ≡ p =
      ap₂ (λ (u : Place) (n : Due). at_place p.offset u p.under.expected n) (ap Within (sym begins) ∙ sym at)
      (sym due) in
      subst (λ (k : Packets). PassedOver w k now input left) is (record {
        taken = bytes;
        front = front;
        passed = skip-passed w p.offset c p.under.expected (suc s) bytes (long ∙ e);
        behind =
            after ∙ (ap (λ (k : BlockPlace). behind_whole_rest p k) begins
            ∙ (ap (λ (k : Packets). behind_whole_rest k (skipping c (suc s))) (sym is) ∙
            sym (skip-behind p.offset c p.under.expected s bytes (long ∙ e))));
      })

-- Bytes that the quadlet's port carries.

carried-inner : (o : ℕ) (c : BlockPlace) (e : Option ℕ) (d : Due) (b : ℕ) (bs : List ℕ) → suc (length bs) ≤ c.left →
    suc (length bs) < to_come c →
    packet_behind (at_place o (Within c) e d) (b ∷ bs)
    ≡ within (o + suc (length bs)) (record c { left = c.left - suc (length bs) }) e
carried-inner o c e d b [] fits more = one-inner o c e d b more
    ∙ ap (λ k. within (o + 1) k e) (own-less c (omega arith))
carried-inner o c e d b (x ∷ xs) fits more =
    let next : BlockPlace = record c { left = c.left - 1 } in
    let end : o + 1 + suc (length xs) ≡ o + suc (length (x ∷ xs)) = omega arith in
    let less : c.left - 1 - suc (length xs) ≡ c.left - suc (length (x ∷ xs)) = omega arith in
    ap (λ (z : Packets). packet_behind z (x ∷ xs)) (one-inner o c e d b (omega arith)
    ∙ ap (λ k. within (o + 1) k e) (own-less c (omega arith))) ∙
    (carried-inner (o + 1) next e Nothing x xs (omega arith) (omega arith)
    ∙ ap₂ (λ (i l : ℕ). within i (record c { left = l }) e) end less)

carried-last : (o : ℕ) (c : BlockPlace) (e : Option ℕ) (d : Due) (b : ℕ) (bs : List ℕ) → suc (length bs) ≡ c.left →
    c.skip ≡ 0 →
    packet_behind (at_place o (Within c) e d) (b ∷ bs)
    ≡ at_place (o + suc (length bs)) (behind_quadlet c) e (due_by (notes_behind c (o + suc (length bs) - 1)))
carried-last o c e d b [] fits none =
    let last : o ≡ o + 1 - 1 = omega arith in
    one-last o c e d b (omega arith) ∙ ap (λ i. at_place (o + 1) (behind_quadlet c) e (due_by (notes_behind c i))) last
carried-last o c e d b (x ∷ xs) fits none =
    let next : BlockPlace = record c { left = c.left - 1 } in
    let end : o + 1 + suc (length xs) ≡ o + suc (length (x ∷ xs)) = omega arith in
    ap (λ (z : Packets). packet_behind z (x ∷ xs)) (one-inner o c e d b (omega arith)
    ∙ ap (λ k. within (o + 1) k e) (own-less c (omega arith))) ∙
    (carried-last (o + 1) next e Nothing x xs (omega arith) none
    ∙ ap (λ i. at_place i (behind_quadlet c) e (due_by (notes_behind c (i - 1)))) end)

abbrev pub less : BlockPlace → ℕ → BlockPlace
less c n = record c { left = c.left - n }

pub carried-whole : (p : Packets) (c : BlockPlace) (bs : List ℕ) → p.under.place ≡ Within c → (length bs == 0) ≡ false →
    length bs ≤ c.left → c.left - length bs ≡ 0 → c.skip ≡ 0 →
    at_place (p.offset + length bs) (behind_quadlet (less c (length bs))) p.under.expected
    (due_by (notes_behind (less c (length bs)) (p.offset + length bs - 1))) ≡ packet_behind p bs
carried-whole p c [] at some fits none over = cc
carried-whole p c (b ∷ bs) at some fits none over =
    let is : at_place p.offset (Within c) p.under.expected p.due ≡ p =
    ap (λ (u : Place). at_place p.offset u p.under.expected p.due) (sym at) in
    sym (carried-last p.offset c p.under.expected p.due b bs (omega arith) over)
    ∙ ap (λ (k : Packets). packet_behind k (b ∷ bs)) is

pub carried-part : (p : Packets) (c : BlockPlace) (bs : List ℕ) → p.under.place ≡ Within c → (length bs == 0) ≡ false →
    length bs ≤ c.left → length bs < to_come c →
    within (p.offset + length bs) (less c (length bs)) p.under.expected ≡ packet_behind p bs
carried-part p c [] at some fits more = cc
carried-part p c (b ∷ bs) at some fits more =
    let is : at_place p.offset (Within c) p.under.expected p.due ≡ p =
    ap (λ (u : Place). at_place p.offset u p.under.expected p.due) (sym at) in
    sym (carried-inner p.offset c p.under.expected p.due b bs fits more)
    ∙ ap (λ (k : Packets). packet_behind k (b ∷ bs)) is

-- Quadlets behind which blocks go on.

pub quiet-passed : (w o : ℕ) (c next : BlockPlace) (e : Option ℕ) (l x y z : ℕ) (left : List ℕ) → IsQuiet w c l next →
    PassedOver w (within o c e) (within (o + 4) next e) (l ∷ x ∷ y ∷ z ∷ left) left
quiet-passed w o c next e l x y z left h =
    let k : BlockPlace = label_after c l in
    let quiet : notes_behind k (o + 3) ≡ [] =
    ap (λ t. if t then record { kind = NoMidiQuadlet; at = (o + 3 + 1) - 4 * k.dbs } ∷ [] else []) h.none in
    quadlet-passed w (within o c e) (within (o + 4) next e) c l x y z left refl refl h.passed
    (ap₂ (λ (u : Place) (ns : List Note). at_place (o + 4) u e (due_by ns)) (sym h.goes_on) (sym quiet))

-- nothing was passed over
pub none-passed : (w : ℕ) (p q : Packets) (input left : List ℕ) → PassedOver w p q input left →
    length input ≤ length left → q ≡ p
none-passed w p q input left h few = by_taken h.taken h.front h.behind where
  by_taken : (taken : List ℕ) → input ≡ taken ++ left → q ≡ packet_behind p taken → q ≡ p
  by_taken [] front behind = behind
  by_taken (b ∷ bs) front behind = absurd (omega (arith, ap length front, length-append bs left))

-- elements, and those behind them
pub front-one : (xs : List ℕ) → 1 ≤ length xs → xs ≡ get_or xs 0 0 ∷ take (length xs - 1) (drop 1 xs)
front-one [] few = absurd (omega arith)
front-one (a ∷ l) few = ap (λ z. a ∷ z) (sym (take_all (length (a ∷ l) - 1) l (omega arith)))

pub front-four : (xs : List ℕ) → 4 ≤ length xs →
    xs ≡ get_or xs 0 0 ∷ get_or xs 1 0 ∷ get_or xs 2 0 ∷ get_or xs 3 0 ∷ take (length xs - 4) (drop 4 xs)
front-four [] few = absurd (omega arith)
front-four (a ∷ []) few = absurd (omega arith)
front-four (a ∷ b ∷ []) few = absurd (omega arith)
front-four (a ∷ b ∷ c ∷ []) few = absurd (omega arith)
front-four (a ∷ b ∷ c ∷ d ∷ l) few =
    ap (λ z. a ∷ b ∷ c ∷ d ∷ z) (sym (take_all (length (a ∷ b ∷ c ∷ d ∷ l) - 4) l (omega arith)))

pub front-ten : (xs : List ℕ) → 10 ≤ length xs →
    xs ≡ get_or xs 0 0 ∷ get_or xs 1 0 ∷ get_or xs 2 0 ∷ get_or xs 3 0 ∷ get_or xs 4 0 ∷ get_or xs 5 0 ∷ get_or xs 6
    0 ∷ get_or xs 7 0 ∷ get_or xs 8 0 ∷ get_or xs 9 0 ∷ take (length xs - 10) (drop 10 xs)
front-ten [] few = absurd (omega arith)
front-ten (a ∷ []) few = absurd (omega arith)
front-ten (a ∷ b ∷ []) few = absurd (omega arith)
front-ten (a ∷ b ∷ c ∷ []) few = absurd (omega arith)
front-ten (a ∷ b ∷ c ∷ d ∷ []) few = absurd (omega arith)
front-ten (a ∷ b ∷ c ∷ d ∷ e ∷ []) few = absurd (omega arith)
front-ten (a ∷ b ∷ c ∷ d ∷ e ∷ f ∷ []) few = absurd (omega arith)
front-ten (a ∷ b ∷ c ∷ d ∷ e ∷ f ∷ g ∷ []) few = absurd (omega arith)
front-ten (a ∷ b ∷ c ∷ d ∷ e ∷ f ∷ g ∷ h ∷ []) few = absurd (omega arith)
front-ten (a ∷ b ∷ c ∷ d ∷ e ∷ f ∷ g ∷ h ∷ i ∷ []) few = absurd (omega arith)
front-ten (a ∷ b ∷ c ∷ d ∷ e ∷ f ∷ g ∷ h ∷ i ∷ j ∷ l) few =
    ap (λ z. a ∷ b ∷ c ∷ d ∷ e ∷ f ∷ g ∷ h ∷ i ∷ j ∷ z)
    (sym (take_all (length (a ∷ b ∷ c ∷ d ∷ e ∷ f ∷ g ∷ h ∷ i ∷ j ∷ l) - 10) l (omega arith)))
