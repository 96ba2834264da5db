-- A block's events, byte by byte, are those of its quadlets.
--
--   Goes f u at bs es v    behind the bytes the packet under way is v, and their events are es
--   quadlets-open             a block that the recording ends in
--   quadlets-whole            a block that stands whole
use Rattle.std.proofs.Common.{◌≡◌, ℕ, zero, suc, ◌+◌, ◌-◌, ◌*◌, ◌%◌, ◌<◌, Bool, true, false, ◌&&◌, ◌==◌, nat_lt, nat_le}
use Rattle.std.proofs.Common.{if◌then◌else◌, Option, List, [], ◌∷◌, ◌++◌, length, take, refl, sym, ◌∙◌, ap, ap₂, subst}
use Rattle.std.proofs.Common.{arith, append_assoc, append-nil}
use Rattle.std.proofs.lemmas.Bool.{eqb-true, and_parts, ltb-true}
use Rattle.std.proofs.lemmas.Bool.Decides.{nat_tests}
use Rattle.mb_message.specs.declared.note.Note.{Note}
use Rattle.mb_message.specs.declared.note.NoteKind.TheVariants.{NoMidiQuadlet}
use Rattle.mb_ports.specs.Events.{Event}
use Rattle.mb_ports.specs.Machine.{carried_by, spot, remarked, events_from, under_from}
use Rattle.mb_ports.proofs.MachineLaw.{events_from-append, under_from-append}
use Rattle.mb_fire.specs.declared.under.Under.{Under}
use Rattle.mb_fire.specs.declared.place.BlockPlace.{BlockPlace}
use Rattle.mb_fire.specs.declared.place.Place.{Place}
use Rattle.mb_fire.specs.declared.place.Place.TheVariants.{Within}
use Rattle.mb_fire.specs.Packets.{Quadlet, quadlets_from, is_midi}
use Rattle.mb_fire.specs.Under.{passed, under_after}
use Rattle.mb_fire.specs.Ports.{fire}

abbrev pub U : Place → Option ℕ → Under
U p e = record { place = p; expected = e }

pub record Goes (f : ℕ → Option ℕ) (u : Under) (at : ℕ) (bs : List ℕ) (es : List Event) (v : Under) : Type 0 where
  pub events : events_from (fire f) u at bs ≡ es
  pub behind : under_from (fire f) u bs ≡ v

pub goes-join : (f : ℕ → Option ℕ) (u v w : Under) (at : ℕ) (xs ys : List ℕ) (es fs : List Event) →
    Goes f u at xs es v → Goes f v (at + length xs) ys fs w → Goes f u at (xs ++ ys) (es ++ fs) w
goes-join f u v w at xs ys es fs g h = record {
  events =
      events_from-append (fire f) u at xs ys ∙
      ap₂ (λ z a. z ++ a) g.events (ap (λ z. events_from (fire f) z (at + length xs) ys) g.behind ∙ h.events);
  behind = under_from-append (fire f) u xs ys ∙ (ap (λ z. under_from (fire f) z ys) g.behind ∙ h.behind);
}

-- the bytes of one port, if they are a reader's
abbrev pub own : Option ℕ → ℕ → List ℕ → List Event
own o at [] = []
own o at (b ∷ bs) = carried_by o (spot at b) ++ own o (at + 1) bs

-- what the quadlets of a block carry, the block being of a stream, and so many MIDI quadlets before
abbrev pub quadlet_events : (f : ℕ → Option ℕ) (stream midi : ℕ) → List Quadlet → List Event
quadlet_events f g m [] = []
quadlet_events f g m (q ∷ qs) =
    if is_midi q.label && nat_lt m 8 then own (f (8 * m + g)) (q.at + 1) (take (q.label - 0x80) q.rest)
    ++ quadlet_events f g (m + 1) qs else quadlet_events f g m qs

abbrev pub midi_behind : ℕ → List Quadlet → ℕ
midi_behind m [] = m
midi_behind m (q ∷ qs) = if is_midi q.label && nat_lt m 8 then midi_behind (m + 1) qs else midi_behind m qs

-- in a block
abbrev pub S : (dbs count blocks rest quads midi left skip : ℕ) → BlockPlace
S d n b r q m l s = record { dbs = d; count = n; blocks = b; ragged = r; quadlets = q; midi = m; left = l; skip = s }

abbrev pub Next : (dbs count blocks rest : ℕ) → Place
Next d n b r = if b == 0 then passed r else Within (S d ((n + 1) % 256) (b - 1) r (d - 1) 0 0 0)

abbrev Last : (dbs count blocks rest quads midi : ℕ) → Place
Last d n b r q m = if q == 0 then Next d n b r else Within (S d n b r (q - 1) m 0 0)

abbrev pub end_note : (dbs midi at : ℕ) → List Note
end_note d m at = if m == 0 then record { kind = NoMidiQuadlet; at = (at + 1) - 4 * d } ∷ [] else []

abbrev last_note : (dbs quads midi at : ℕ) → List Note
last_note d q m at = if (q == 0) && (m == 0) then record { kind = NoMidiQuadlet; at = (at + 1) - 4 * d } ∷ [] else []

-- how many bytes of a quadlet a port has, and how many are behind them
pub data Few : ℕ → ℕ → Type 0 where
  None_few : Few 0 3
  One_few : Few 1 2
  Two_few : Few 2 1
  Three_few : Few 3 0

few-of : (l : ℕ) → is_midi l ≡ true → Few (l - 0x80) (0x83 - l)
few-of l h = by0 (l == 0x80) refl where
  by3 : (l == 0x80) ≡ false → (l == 0x81) ≡ false → (l == 0x82) ≡ false → Few (l - 0x80) (0x83 - l)
  by3 e0 e1 e2 =
      let parts : (nat_le 0x80 l ≡ true) × (nat_le l 0x83 ≡ true) = and_parts (nat_le 0x80 l) (nat_le l 0x83) h in
      let a = parts.0 in
      let b = parts.1 in
      let last : l ≡ 0x83 = grind (arith, nat_tests) in
      subst (λ z. Few (z - 0x80) (0x83 - z)) (sym last) Three_few

  by2 : (t : Bool) → (l == 0x80) ≡ false → (l == 0x81) ≡ false → (l == 0x82) ≡ t → Few (l - 0x80) (0x83 - l)
  by2 true e0 e1 e = subst (λ z. Few (z - 0x80) (0x83 - z)) (sym (eqb-true l 0x82 e)) Two_few
  by2 false e0 e1 e = by3 e0 e1 e

  by1 : (t : Bool) → (l == 0x80) ≡ false → (l == 0x81) ≡ t → Few (l - 0x80) (0x83 - l)
  by1 true e0 e = subst (λ z. Few (z - 0x80) (0x83 - z)) (sym (eqb-true l 0x81 e)) One_few
  by1 false e0 e = by2 (l == 0x82) e0 e refl

  by0 : (t : Bool) → (l == 0x80) ≡ t → Few (l - 0x80) (0x83 - l)
  by0 true e = subst (λ z. Few (z - 0x80) (0x83 - z)) (sym (eqb-true l 0x80 e)) None_few
  by0 false e = by1 (l == 0x81) e refl

-- The three bytes behind a label.

tidy : (a b c r : List Event) → (a ++ []) ++ ((b ++ []) ++ ((c ++ r) ++ [])) ≡ (a ++ (b ++ c)) ++ r
tidy a b c r =
    ap₂ (λ x y. x ++ y) (append-nil a) (ap₂ (λ x y. x ++ y) (append-nil b) (append-nil (c ++ r))) ∙
    (ap (λ z. a ++ z) (sym (append_assoc b c r)) ∙ sym (append_assoc a (b ++ c) r))

abbrev port : (count midi : ℕ) → ℕ
port n m = 8 * ((m - 1) % 8) + n % 8

pub behind-label : (f : ℕ → Option ℕ) (d n b r q m l s : ℕ) (e : Option ℕ) (at x y z : ℕ) → Few l s →
    Goes f (U (Within (S d n b r q m l s)) e) at (x ∷ y ∷ z ∷ []) (own (f (port n m)) at (take l (x ∷ y ∷ z ∷ []))
    ++ remarked (at + 1 + 1) (last_note d q m (at + 1 + 1))) (U (Last d n b r q m) e)
behind-label f d n b r q m l s e at x y z None_few =
    record { events = tidy [] [] [] (remarked (at + 1 + 1) (last_note d q m (at + 1 + 1))); behind = refl }
behind-label f d n b r q m l s e at x y z One_few =
    record {
      events = tidy (carried_by (f (port n m)) (spot at x)) [] []
          (remarked (at + 1 + 1) (last_note d q m (at + 1 + 1)));
      behind = refl;
    }
behind-label f d n b r q m l s e at x y z Two_few =
    record {
      events = tidy (carried_by (f (port n m)) (spot at x)) (carried_by (f (port n m)) (spot (at + 1) y)) []
          (remarked (at + 1 + 1) (last_note d q m (at + 1 + 1)));
      behind = refl;
    }
behind-label f d n b r q m l s e at x y z Three_few =
    let o = f (port n m) in
    record {
      events =
          tidy (carried_by o (spot at x)) (carried_by o (spot (at + 1) y)) (carried_by o (spot (at + 1 + 1) z))
          (remarked (at + 1 + 1) (last_note d q m (at + 1 + 1))) ∙
          ap (λ w. (carried_by o (spot at x) ++ (carried_by o (spot (at + 1) y) ++ w))
          ++ remarked (at + 1 + 1) (last_note d q m (at + 1 + 1)))
          (sym (append-nil (carried_by o (spot (at + 1 + 1) z))));
      behind = refl;
    }

-- as far as they stand, where the recording ends
label-one : (f : ℕ → Option ℕ) (d n b r q m l s : ℕ) (e : Option ℕ) (at x : ℕ) → Few l s →
    events_from (fire f) (U (Within (S d n b r q m l s)) e) at (x ∷ []) ≡ own (f (port n m)) at (take l (x ∷ []))
label-one f d n b r q m l s e at x None_few = refl
label-one f d n b r q m l s e at x One_few = append-nil (carried_by (f (port n m)) (spot at x) ++ [])
label-one f d n b r q m l s e at x Two_few = append-nil (carried_by (f (port n m)) (spot at x) ++ [])
label-one f d n b r q m l s e at x Three_few = append-nil (carried_by (f (port n m)) (spot at x) ++ [])

two-tidy : (a b : List Event) → (a ++ []) ++ ((b ++ []) ++ []) ≡ a ++ (b ++ [])
two-tidy a b = ap₂ (λ x y. x ++ y) (append-nil a) (append-nil (b ++ []))

label-two : (f : ℕ → Option ℕ) (d n b r q m l s : ℕ) (e : Option ℕ) (at x y : ℕ) → Few l s →
    events_from (fire f) (U (Within (S d n b r q m l s)) e) at (x ∷ y ∷ [])
    ≡ own (f (port n m)) at (take l (x ∷ y ∷ []))
label-two f d n b r q m l s e at x y None_few = refl
label-two f d n b r q m l s e at x y One_few = ap (λ z. z ++ []) (append-nil (carried_by (f (port n m)) (spot at x)))
label-two f d n b r q m l s e at x y Two_few =
    two-tidy (carried_by (f (port n m)) (spot at x)) (carried_by (f (port n m)) (spot (at + 1) y))
label-two f d n b r q m l s e at x y Three_few =
    two-tidy (carried_by (f (port n m)) (spot at x)) (carried_by (f (port n m)) (spot (at + 1) y))

-- A quadlet.

abbrev pub one_midi : Bool → ℕ → ℕ
one_midi t m = if t then m + 1 else m

abbrev pub left_by : Bool → ℕ → ℕ
left_by t l = if t then l - 0x80 else 0

abbrev pub skip_by : Bool → ℕ → ℕ
skip_by t l = if t then 0x83 - l else 3

pub few-by : (t : Bool) (l m : ℕ) → (is_midi l && nat_lt m 8) ≡ t → Few (left_by t l) (skip_by t l)
few-by true l m e = few-of l (and_parts (is_midi l) (nat_lt m 8) e).0
few-by false l m e = None_few

pub behind-first : (d n b r q m l : ℕ) (e : Option ℕ) (t : Bool) → (is_midi l && nat_lt m 8) ≡ t →
    under_after (U (Within (S d n b r q m 0 0)) e) l
    ≡ U (Within (S d n b r q (one_midi t m) (left_by t l) (skip_by t l))) e
behind-first d n b r q m l e true h =
    ap (λ t. U (Within (if t then S d n b r q (m + 1) (l - 0x80) (0x83 - l) else S d n b r q m 0 3)) e) h
behind-first d n b r q m l e false h =
    ap (λ t. U (Within (if t then S d n b r q (m + 1) (l - 0x80) (0x83 - l) else S d n b r q m 0 3)) e) h

abbrev quadlet_own : (f : ℕ → Option ℕ) (t : Bool) (stream midi at label : ℕ) → List ℕ → List Event
quadlet_own f t g m at l xs = if t then own (f (8 * m + g)) at (take (l - 0x80) xs) else []

own-by : (f : ℕ → Option ℕ) (t : Bool) (n m at l : ℕ) (xs : List ℕ) → (is_midi l && nat_lt m 8) ≡ t →
    own (f (port n (one_midi t m))) at (take (left_by t l) xs) ≡ quadlet_own f t (n % 8) m at l xs
own-by f true n m at l xs e =
    let low : m < 8 = ltb-true m 8 (and_parts (is_midi l) (nat_lt m 8) e).1 in
    let same : 8 * ((m + 1 - 1) % 8) + n % 8 ≡ 8 * m + n % 8 = omega arith in
    ap (λ p. own (f p) at (take (l - 0x80) xs)) same
own-by f false n m at l xs e = refl

split-quadlet : (f : ℕ → Option ℕ) (t : Bool) (g m at l : ℕ) (xs : List ℕ) (qs : List Quadlet) →
    (is_midi l && nat_lt m 8) ≡ t →
    quadlet_events f g m (record { at = at; label = l; rest = xs } ∷ qs) ≡ quadlet_own f t g m (at + 1) l xs
    ++ quadlet_events f g (one_midi t m) qs
split-quadlet f true g m at l xs qs e =
    ap (λ t. if t then own (f (8 * m + g)) (at + 1) (take (l - 0x80) xs) ++ quadlet_events f g (m + 1) qs
    else quadlet_events f g m qs) e
split-quadlet f false g m at l xs qs e =
    ap (λ t. if t then own (f (8 * m + g)) (at + 1) (take (l - 0x80) xs) ++ quadlet_events f g (m + 1) qs
    else quadlet_events f g m qs) e

split-midi : (t : Bool) (m at l : ℕ) (xs : List ℕ) (qs : List Quadlet) → (is_midi l && nat_lt m 8) ≡ t →
    midi_behind m (record { at = at; label = l; rest = xs } ∷ qs) ≡ midi_behind (one_midi t m) qs
split-midi true m at l xs qs e = ap (λ t. if t then midi_behind (m + 1) qs else midi_behind m qs) e
split-midi false m at l xs qs e = ap (λ t. if t then midi_behind (m + 1) qs else midi_behind m qs) e

-- a whole one
quad : (f : ℕ → Option ℕ) (d n b r q m : ℕ) (e : Option ℕ) (at l x y z : ℕ) (t : Bool) → (is_midi l && nat_lt m 8) ≡ t →
    Goes f (U (Within (S d n b r q m 0 0)) e) at (l ∷ x ∷ y ∷ z ∷ [])
    (quadlet_own f t (n % 8) m (at + 1) l (x ∷ y ∷ z ∷ [])
    ++ remarked (at + 1 + 1 + 1) (last_note d q (one_midi t m) (at + 1 + 1 + 1)))
    (U (Last d n b r q (one_midi t m)) e)
quad f d n b r q m e at l x y z t h =
    let g = behind-label f d n b r q (one_midi t m) (left_by t l) (skip_by t l) e (at + 1) x y z (few-by t l m h) in
    record {
      events =
          ap (λ u. events_from (fire f) u (at + 1) (x ∷ y ∷ z ∷ [])) (behind-first d n b r q m l e t h) ∙
          (g.events ∙ ap (λ w. w ++ remarked (at + 1 + 1 + 1) (last_note d q (one_midi t m) (at + 1 + 1 + 1)))
          (own-by f t n m (at + 1) l (x ∷ y ∷ z ∷ []) h));
      behind = ap (λ u. under_from (fire f) u (x ∷ y ∷ z ∷ [])) (behind-first d n b r q m l e t h) ∙ g.behind;
    }

-- one that isn't the block's last
not-zero : (q : ℕ) → (suc q == 0) ≡ false
not-zero q = grind (arith, nat_tests)

pub less-one : (q : ℕ) → suc q - 1 ≡ q
less-one q = omega arith

pub inner-quadlet : (f : ℕ → Option ℕ) (d n b r q m : ℕ) (e : Option ℕ) (at l x y z : ℕ) (t : Bool) →
    (is_midi l && nat_lt m 8) ≡ t →
    Goes f (U (Within (S d n b r (suc q) m 0 0)) e) at (l ∷ x ∷ y ∷ z ∷ [])
    (quadlet_own f t (n % 8) m (at + 1) l (x ∷ y ∷ z ∷ [])) (U (Within (S d n b r q (one_midi t m) 0 0)) e)
inner-quadlet f d n b r q m e at l x y z t h =
    let g = quad f d n b r (suc q) m e at l x y z t h in
    let mine = quadlet_own f t (n % 8) m (at + 1) l (x ∷ y ∷ z ∷ []) in
    record {
      events =
          g.events ∙
          (ap (λ c. mine ++ remarked (at + 1 + 1 + 1) (if c && (one_midi t m == 0)
          then record { kind = NoMidiQuadlet; at = (at + 1 + 1 + 1 + 1) - 4 * d } ∷ [] else [])) (not-zero q)
          ∙ append-nil mine);
      behind =
          g.behind ∙
          (ap (λ c. U (if c then Next d n b r else Within (S d n b r (suc q - 1) (one_midi t m) 0 0)) e) (not-zero q)
          ∙ ap (λ k. U (Within (S d n b r k (one_midi t m) 0 0)) e) (less-one q));
    }

-- A block that the recording ends in.

part-events : (f : ℕ → Option ℕ) (d n b r q m : ℕ) (e : Option ℕ) (at l : ℕ) (xs : List ℕ) (t : Bool) →
    (is_midi l && nat_lt m 8) ≡ t →
    events_from (fire f) (U (Within (S d n b r q (one_midi t m) (left_by t l) (skip_by t l))) e) (at + 1) xs
    ≡ own (f (port n (one_midi t m))) (at + 1) (take (left_by t l) xs) →
    events_from (fire f) (U (Within (S d n b r q m 0 0)) e) at (l ∷ xs)
    ≡ quadlet_events f (n % 8) m (record { at = at; label = l; rest = xs } ∷ [])
part-events f d n b r q m e at l xs t h g =
    ap (λ u. events_from (fire f) u (at + 1) xs) (behind-first d n b r q m l e t h) ∙
    (g ∙ (own-by f t n m (at + 1) l xs h
    ∙ (sym (append-nil (quadlet_own f t (n % 8) m (at + 1) l xs))
    ∙ sym (split-quadlet f t (n % 8) m at l xs [] h))))

pub quadlets-open : (f : ℕ → Option ℕ) (d n b r q m : ℕ) (e : Option ℕ) (at : ℕ) (bs : List ℕ) →
    length bs < 4 * (q + 1) →
    events_from (fire f) (U (Within (S d n b r q m 0 0)) e) at bs ≡ quadlet_events f (n % 8) m (quadlets_from at bs)
quadlets-open f d n b r q m e at [] h = refl
quadlets-open f d n b r q m e at (l ∷ []) h =
    part-events f d n b r q m e at l [] (is_midi l && nat_lt m 8) refl (nothing (is_midi l && nat_lt m 8)) where
      nothing : (t : Bool) → [] ≡ own (f (port n (one_midi t m))) (at + 1) (take (left_by t l) [])
      nothing t = by_left (left_by t l) where
        by_left : (k : ℕ) → [] ≡ own (f (port n (one_midi t m))) (at + 1) (take k [])
        by_left zero = refl
        by_left (suc k) = refl
quadlets-open f d n b r q m e at (l ∷ x ∷ []) h =
    let t = is_midi l && nat_lt m 8 in
    part-events f d n b r q m e at l (x ∷ []) t refl
    (label-one f d n b r q (one_midi t m) (left_by t l) (skip_by t l) e (at + 1) x (few-by t l m refl))
quadlets-open f d n b r q m e at (l ∷ x ∷ y ∷ []) h =
    let t = is_midi l && nat_lt m 8 in
    part-events f d n b r q m e at l (x ∷ y ∷ []) t refl
    (label-two f d n b r q (one_midi t m) (left_by t l) (skip_by t l) e (at + 1) x y (few-by t l m refl))
quadlets-open f d n b r zero m e at (l ∷ x ∷ y ∷ z ∷ bs) h = absurd (omega arith)
quadlets-open f d n b r (suc q) m e at (l ∷ x ∷ y ∷ z ∷ bs) h =
    let t = is_midi l && nat_lt m 8 in
    let g = inner-quadlet f d n b r q m e at l x y z t refl in
    let rest = quadlets-open f d n b r q (one_midi t m) e (at + 4) bs (omega arith) in
    events_from-append (fire f) (U (Within (S d n b r (suc q) m 0 0)) e) at (l ∷ x ∷ y ∷ z ∷ []) bs ∙
    (ap₂ (λ w v. w ++ events_from (fire f) v (at + 4) bs) g.events g.behind ∙
    (ap (λ w. quadlet_own f t (n % 8) m (at + 1) l (x ∷ y ∷ z ∷ []) ++ w) rest ∙
    sym (split-quadlet f t (n % 8) m at l (x ∷ y ∷ z ∷ []) (quadlets_from (at + 4) bs) refl)))

-- A block that stands whole.

same-note : (f : ℕ → Option ℕ) (t : Bool) (g d m at l : ℕ) (xs : List ℕ) →
    quadlet_own f t g m (at + 1) l xs ++ remarked (at + 1 + 1 + 1) (end_note d (one_midi t m) (at + 1 + 1 + 1))
    ≡ (quadlet_own f t g m (at + 1) l xs ++ [])
    ++ remarked (at + 4 * 0 + 3) (end_note d (one_midi t m) (at + 4 * 0 + 3))
same-note f t g d m at l xs =
    let here : at + 1 + 1 + 1 ≡ at + 4 * 0 + 3 = omega arith in
    ap (λ k. quadlet_own f t g m (at + 1) l xs ++ remarked k (end_note d (one_midi t m) k)) here ∙
    ap (λ w. w ++ remarked (at + 4 * 0 + 3) (end_note d (one_midi t m) (at + 4 * 0 + 3)))
    (sym (append-nil (quadlet_own f t g m (at + 1) l xs)))

pub quadlets-whole : (f : ℕ → Option ℕ) (d n b r q m : ℕ) (e : Option ℕ) (at : ℕ) (bs : List ℕ) → length bs
    ≡ 4 * (q + 1) →
    Goes f (U (Within (S d n b r q m 0 0)) e) at bs
    (quadlet_events f (n % 8) m (quadlets_from at bs)
    ++ remarked (at + 4 * q + 3) (end_note d (midi_behind m (quadlets_from at bs)) (at + 4 * q + 3)))
    (U (Next d n b r) e)
quadlets-whole f d n b r q m e at [] h = absurd (omega arith)
quadlets-whole f d n b r q m e at (l ∷ []) h = absurd (omega arith)
quadlets-whole f d n b r q m e at (l ∷ x ∷ []) h = absurd (omega arith)
quadlets-whole f d n b r q m e at (l ∷ x ∷ y ∷ []) h = absurd (omega arith)
quadlets-whole f d n b r zero m e at (l ∷ x ∷ y ∷ z ∷ w ∷ bs) h = absurd (omega arith)
quadlets-whole f d n b r zero m e at (l ∷ x ∷ y ∷ z ∷ []) h =
    let t = is_midi l && nat_lt m 8 in
    let g = quad f d n b r 0 m e at l x y z t refl in
    record {
      events =
          g.events ∙
          (same-note f t (n % 8) d m at l (x ∷ y ∷ z ∷ []) ∙
          ap₂ (λ w k. w ++ remarked (at + 4 * 0 + 3) (end_note d k (at + 4 * 0 + 3)))
          (sym (split-quadlet f t (n % 8) m at l (x ∷ y ∷ z ∷ []) [] refl))
          (sym (split-midi t m at l (x ∷ y ∷ z ∷ []) [] refl)));
      behind = g.behind;
    }
quadlets-whole f d n b r (suc q) m e at (l ∷ x ∷ y ∷ z ∷ bs) h =
    let t = is_midi l && nat_lt m 8 in
    let g = inner-quadlet f d n b r q m e at l x y z t refl in
    let rest = quadlets-whole f d n b r q (one_midi t m) e (at + 4) bs (omega arith) in
    let mine = quadlet_own f t (n % 8) m (at + 1) l (x ∷ y ∷ z ∷ []) in
    let qs = quadlets_from (at + 4) bs in
    let end : at + 4 + 4 * q + 3 ≡ at + 4 * suc q + 3 = omega arith in
    let all = goes-join f (U (Within (S d n b r (suc q) m 0 0)) e) (U (Within (S d n b r q (one_midi t m) 0 0)) e)
    (U (Next d n b r) e) at (l ∷ x ∷ y ∷ z ∷ []) bs mine _ g rest in
    record {
      events =
          all.events ∙
          (sym (append_assoc mine (quadlet_events f (n % 8) (one_midi t m) qs)
          (remarked (at + 4 + 4 * q + 3) (end_note d (midi_behind (one_midi t m) qs) (at + 4 + 4 * q + 3)))) ∙
          (ap (λ k. (mine ++ quadlet_events f (n % 8) (one_midi t m) qs)
          ++ remarked k (end_note d (midi_behind (one_midi t m) qs) k)) end ∙
          ap₂ (λ w k. w ++ remarked (at + 4 * suc q + 3) (end_note d k (at + 4 * suc q + 3)))
          (sym (split-quadlet f t (n % 8) m at l (x ∷ y ∷ z ∷ []) qs refl))
          (sym (split-midi t m at l (x ∷ y ∷ z ∷ []) qs refl))));
      behind = all.behind;
    }
