-- The readings of all ports, put in order, are what each event makes known in turn.
--
--   ports_law              the law
--   groups_after gs es     the last group of each port behind events
--   ports_so_far-append    the readings of more events
use Rattle.std.proofs.Common.{◌≡◌, ℕ, zero, suc, ◌+◌, ◌<◌, ◌≤◌, inl, inr, Bool, true, false, ◌==◌, if◌then◌else◌, List}
use Rattle.std.proofs.Common.{[], ◌∷◌, ◌++◌, map, flat_map, refl, sym, ◌∙◌, ap, ap₂, subst, arith, append_assoc}
use Rattle.std.proofs.lemmas.Bool.{eq-eqb}
use Rattle.std.proofs.lemmas.Bool.Decides.{nat_tests}
use Rattle.std.proofs.lemmas.List.Concat.{flat_map-append}
use Rattle.mb_message.specs.Bytes.{is_data, is_realtime}
use Rattle.mb_stream.specs.Payload.{Spot, Entry, Heard, Silent, realtime}
use Rattle.mb_stream.specs.Groups.{Group, no_group, longer, begun, last_of}
use Rattle.mb_stream.specs.Told.{Known, realtime_known, ended, status_told}
use Rattle.mb_stream.specs.Order.{Each, not_after, put_in, in_order}
use Rattle.mb_stream.specs.Working.{news, group_behind, data_news, group_after, RisesFrom}
use Rattle.mb_stream.proofs.OrderLemmas.{Each-append, Each-implies, Each-in_order, Late, Climb, in_order-climb}
use Rattle.mb_stream.proofs.OrderLemmas.{put_in-first}
use Rattle.mb_stream.proofs.NewsLaw.{later, later_by, told-from, later-From, realtime-From, news-climbs, From}
use Rattle.mb_stream.proofs.NewsLaw.{last_of-after}
use Rattle.mb_ports.specs.Events.{Event, Carried, Remarked, port_payload, unit_notes, Ported, ported, unported}
use Rattle.mb_ports.specs.Events.{known_of, below_from, below, port_told, ports_so_far, one_more, ports_news}
use Rattle.mb_ports.specs.Events.{EventsRise}

-- What a port tells, beyond what the group under way has told.
abbrev beyond : Group → List Entry → List Known
beyond g es = later g es ++ map realtime_known (realtime es)

record Splits (all ns next : List Known) : Type 0 where
  front : List Known
  back : List Known
  all_is : all ≡ front ++ (ns ++ back)
  next_is : front ++ back ≡ next

-- what a byte tells stands in one piece
splits : (g : Group) (x : Spot) (es : List Entry) → Splits (beyond g (Heard x ∷ es)) (news g x)
    (beyond (group_behind g (Heard x)) es)
splits g x es = by_test (is_realtime x.byte) (is_data x.byte) where
  by_test : (rt da : Bool) → Splits
      (later_by rt da g x (later g es) (later (longer g x) es) (later (begun x) es) ++
      map realtime_known (if rt then x ∷ realtime es else realtime es))
      (if rt then realtime_known x ∷ [] else (if da then data_news g.status g.data_bytes x else ended g x ++
      status_told x))
      (beyond (if rt then g else (if da then longer g x else begun x)) es)
  by_test true da = record {
    front = later g es;
    back = map realtime_known (realtime es);
    all_is = refl;
    next_is =
        refl;
  }
  by_test false true = record {
    front = [];
    back = beyond (longer g x) es;
    all_is = append_assoc (data_news g.status g.data_bytes x) (later (longer g x) es)
        (map realtime_known (realtime es));
    next_is = refl;
  }
  by_test false false = record {
    front = [];
    back = beyond (begun x) es;
    all_is = append_assoc (ended g x ++ status_told x) (later (begun x) es) (map realtime_known (realtime es));
    next_is = refl;
  }

beyond-From : (low : ℕ) (g : Group) (es : List Entry) → RisesFrom low es → From low (beyond g es)
beyond-From low g es rises =
    Each-append (λ k. low ≤ k.at) (later g es) (map realtime_known (realtime es)) (later-From low g es rises)
    (realtime-From low es rises)

-- The ports one after the other.

abbrev told_at : (ℕ → Group) → List Event → ℕ → List Ported
told_at gs es c = map (ported c) (beyond (gs c) (port_payload c es))

abbrev all_told : (ℕ → Group) → List Event → List ℕ → List Ported
all_told gs es cs = flat_map (told_at gs es) cs ++ map unported (unit_notes es)

told-start : (es : List Event) (cs : List ℕ) → flat_map (port_told es) cs ≡ flat_map (told_at (λ _. no_group) es) cs
told-start es [] = refl
told-start es (c ∷ cs) =
    ap₂ (λ xs ys. xs ++ ys) (ap (λ z. map (ported c) (z ++ map realtime_known (realtime (port_payload c es))))
    (told-from no_group (port_payload c es))) (told-start es cs)

-- a port stands once among all
abbrev Others : ℕ → List ℕ → Type 0
Others p cs = Each (λ c. (p == c) ≡ false) cs

record Once (p : ℕ) (cs : List ℕ) : Type 0 where
  before : List ℕ
  behind : List ℕ
  are : cs ≡ before ++ (p ∷ behind)
  others_before : Others p before
  others_behind : Others p behind

others-above : (p from count : ℕ) → p < from → Others p (below_from from count)
others-above p from zero h = tt
others-above p from (suc count) h = (grind (arith, nat_tests), others-above p (from + 1) count (omega arith))

once-below : (p from count : ℕ) → from ≤ p → p < from + count → Once p (below_from from count)
once-below p from zero low high = absurd (omega arith)
once-below p from (suc count) low high = by_test (p == from) refl (λ above. once-below p (from + 1) count above
    (omega arith)) where
      by_test : (t : Bool) → (p == from) ≡ t → (from + 1 ≤ p → Once p (below_from (from + 1) count)) →
          Once p (from ∷ below_from (from + 1) count)
      by_test true e next =
          let same : from ≡ p = grind (arith, nat_tests) in
          record {
            before = [];
            behind = below_from (from + 1) count;
            are = ap (λ z. z ∷ below_from (from + 1) count) same;
            others_before = tt;
            others_behind = others-above p (from + 1) count (omega arith);
          }
      by_test false e next =
          let apart : (p ≡ from) → ⊥ = grind (arith, nat_tests) in
          let rest : Once p (below_from (from + 1) count) = next (omega arith) in
          record {
            before = from ∷ rest.before;
            behind = rest.behind;
            are = ap (λ z. from ∷ z) rest.are;
            others_before = (e, rest.others_before);
            others_behind = rest.others_behind;
          }

-- What each port tells stands no earlier than its bytes.

RisesFrom-less : (es : List Entry) (low high : ℕ) → low ≤ high → RisesFrom high es → RisesFrom low es
RisesFrom-less [] low high h r = tt
RisesFrom-less (Silent s ∷ es) low high h r = RisesFrom-less es low high h r
RisesFrom-less (Heard x ∷ es) low high h r = (omega (arith, r.0), r.1)

pub port-rises : (n low c : ℕ) (es : List Event) → EventsRise n low es → RisesFrom low (port_payload c es)
port-rises n low c [] r = tt
port-rises n low c (Remarked k ∷ es) r = RisesFrom-less (port_payload c es) low (k.at + 1) r.0
    (port-rises n (k.at + 1) c es r.2)
port-rises n low c (Carried p x ∷ es) r =
    let rest : RisesFrom (x.at + 1) (port_payload c es) = port-rises n (x.at + 1) c es r.2 in
    let Goal : Bool → Type 0 = λ t. RisesFrom low (if t then Heard x ∷ port_payload c es else port_payload c es) in
    let high : low ≤ x.at = r.1 in
    elim (p == c) as Goal [
      | true ↦ (high, rest)
      | false ↦ RisesFrom-less (port_payload c es) low (x.at + 1)
          (omega arith) rest
    ]

abbrev FromPorted : ℕ → List Ported → Type 0
FromPorted low ps = Each (λ p. low ≤ p.known.at) ps

From-ported : (low c : ℕ) (ks : List Known) → From low ks → FromPorted low (map (ported c) ks)
From-ported low c [] h = tt
From-ported low c (k ∷ ks) h = (h.0, From-ported low c ks h.1)

told-From : (n low : ℕ) (gs : ℕ → Group) (es : List Event) (cs : List ℕ) → EventsRise n low es →
    FromPorted low (flat_map (told_at gs es) cs)
told-From n low gs es [] r = tt
told-From n low gs es (c ∷ cs) r =
    Each-append (λ p. low ≤ p.known.at) (told_at gs es c) (flat_map (told_at gs es) cs)
    (From-ported low c (beyond (gs c) (port_payload c es)) (beyond-From low (gs c) (port_payload c es)
    (port-rises n low c es r)))
    (told-From n low gs es cs r)

-- a note: at the offset of the last byte, or later, and behind all else there
abbrev Noted : ℕ → Ported → Type 0
Noted low p = (low ≤ p.known.at + 1) × (p.known.rank ≡ 4)

notes-Noted : (n low : ℕ) (es : List Event) → EventsRise n low es → Each (Noted low) (map unported (unit_notes es))
notes-Noted n low [] r = tt
notes-Noted n low (Carried p x ∷ es) r =
    let high : low ≤ x.at = r.1 in
    Each-implies (Noted (x.at + 1)) (Noted low) (map unported (unit_notes es)) (λ p h. (omega (arith, h.0), h.1))
    (notes-Noted n (x.at + 1) es r.2)
notes-Noted n low (Remarked k ∷ es) r =
    let high : low ≤ k.at + 1 = r.0 in (
      (r.0, r.1),
      Each-implies (Noted (k.at + 1)) (Noted low) (map unported (unit_notes es)) (λ p h.
          (omega (arith, h.0), h.1)) (notes-Noted n (k.at + 1) es r.2),
    )

abbrev LatePorted : ℕ → Ported → Type 0
LatePorted at p = Late at p.known

noted-late : (at : ℕ) (p : Ported) → Noted (at + 1) p → LatePorted at p
noted-late at p h = by_order (at == p.known.at) refl where
  by_order : (t : Bool) → (at == p.known.at) ≡ t → LatePorted at p
  by_order true e = let same : at ≡ p.known.at = grind (arith, nat_tests) in inr (sym same, omega (arith, h.1))
  by_order false e = let apart : (at ≡ p.known.at) → ⊥ = grind (arith, nat_tests) in inl (omega (arith, h.0))

all-late : (n at : ℕ) (gs : ℕ → Group) (es : List Event) (cs : List ℕ) → EventsRise n (at + 1) es →
    Each (LatePorted at) (all_told gs es cs)
all-late n at gs es cs r =
    Each-append (LatePorted at) (flat_map (told_at gs es) cs) (map unported (unit_notes es))
    (Each-implies (λ p. at + 1 ≤ p.known.at) (LatePorted at) (flat_map (told_at gs es) cs) (λ p h. inl (omega arith))
    (told-From n (at + 1) gs es cs r))
    (Each-implies (Noted (at + 1)) (LatePorted at) (map unported (unit_notes es)) (noted-late at)
    (notes-Noted n (at + 1) es r))

Each-front : {X : Type 0} (P : X → Type 0) (xs ys : List X) → Each P (xs ++ ys) → Each P xs
Each-front P [] ys h = tt
Each-front P (x ∷ xs) ys h = (h.0, Each-front P xs ys h.1)

Each-back : {X : Type 0} (P : X → Type 0) (xs ys : List X) → Each P (xs ++ ys) → Each P ys
Each-back P [] ys h = h
Each-back P (x ∷ xs) ys h = Each-back P xs ys h.1

-- A note goes to the front.

in_order-note : (k : Known) (xs ys : List Ported) → Each (λ p. k.at < p.known.at) xs →
    Each (λ p. not_after k p.known ≡ true) ys →
    in_order known_of (xs ++ (unported k ∷ ys)) ≡ unported k ∷ in_order known_of (xs ++ ys)
in_order-note k [] ys h l = put_in-first known_of (unported k) (in_order known_of ys) (Each-in_order known_of (λ p.
    not_after k p.known ≡ true) ys l)
in_order-note k (x ∷ xs) ys h l =
    let high : k.at < x.known.at = h.0 in
    let back : not_after x.known k ≡ false = grind (arith, nat_tests) in
    ap (λ z. put_in known_of x z) (in_order-note k xs ys h.1 l) ∙
    ap (λ t. if t then x ∷ unported k ∷ in_order known_of (xs ++ ys) else unported k ∷ put_in known_of x
    (in_order known_of (xs ++ ys))) back

noted-behind : (k : Known) (p : Ported) → k.rank ≡ 4 → Noted (k.at + 1) p → not_after k p.known ≡ true
noted-behind k p rank h = let high : k.at + 1 ≤ p.known.at + 1 = h.0 in let same : p.known.rank ≡ 4 = h.1 in
    grind (arith, nat_tests)

-- A byte: its port, and the others.

other-same : (t : Bool) (c : ℕ) (g : Group) (x : Spot) (es : List Entry) → t ≡ false →
    map (ported c) (beyond g (if t then Heard x ∷ es else es)) ≡ map (ported c)
    (beyond (if t then group_behind g (Heard x) else g) es)
other-same true c g x es e = cc
other-same false c g x es e = refl

others-same : (gs : ℕ → Group) (p : ℕ) (x : Spot) (es : List Event) (cs : List ℕ) → Others p cs →
    flat_map (told_at gs (Carried p x ∷ es)) cs ≡ flat_map (told_at (one_more gs p x) es) cs
others-same gs p x es [] h = refl
others-same gs p x es (c ∷ cs) h =
    ap₂ (λ xs ys. xs ++ ys) (other-same (p == c) c (gs c) x (port_payload c es) h.0) (others-same gs p x es cs h.1)

record OwnSplits (all : List Ported) (p : ℕ) (ns : List Known) (next : List Ported) : Type 0 where
  front : List Ported
  back : List Ported
  all_is : all ≡ front ++ (map (ported p) ns ++ back)
  next_is : front ++ back ≡ next

map-ported : (p : ℕ) (xs ys : List Known) → map (ported p) (xs ++ ys) ≡ map (ported p) xs ++ map (ported p) ys
map-ported p [] ys = refl
map-ported p (x ∷ xs) ys = ap (λ z. ported p x ∷ z) (map-ported p xs ys)

own-splits : (t : Bool) (p : ℕ) (g : Group) (x : Spot) (es : List Entry) → t ≡ true →
    OwnSplits (map (ported p) (beyond g (if t then Heard x ∷ es else es))) p (news g x)
    (map (ported p) (beyond (if t then group_behind g (Heard x) else g) es))
own-splits false p g x es e = cc
own-splits true p g x es e =
    let s = splits g x es in
    record {
      front = map (ported p) s.front;
      back = map (ported p) s.back;
      all_is = ap (λ z. map (ported p) z) s.all_is ∙ (map-ported p s.front (news g x ++ s.back) ∙
          ap (λ z. map (ported p) s.front ++ z) (map-ported p (news g x) s.back));
      next_is = sym (map-ported p s.front s.back) ∙ ap (λ z. map (ported p) z) s.next_is;
    }

Climb-ported : (p at low : ℕ) (ks : List Known) → Climb (λ k. k) at low 3 ks →
    Climb known_of at low 3 (map (ported p) ks)
Climb-ported p at low [] h = h
Climb-ported p at low (k ∷ ks) h = (h.0, h.1, Climb-ported p at k.rank ks h.2)

-- two lists round one, regrouped
regroup : (a f n b c d : List Ported) → (a ++ ((f ++ (n ++ b)) ++ c)) ++ d ≡ (a ++ f) ++ (n ++ ((b ++ c) ++ d))
regroup a f n b c d = simp append_assoc

regrouped : (a f b c d : List Ported) → (a ++ f) ++ ((b ++ c) ++ d) ≡ (a ++ ((f ++ b) ++ c)) ++ d
regrouped a f b c d = simp append_assoc

carried-front : (n low : ℕ) (gs : ℕ → Group) (p : ℕ) (x : Spot) (es : List Event) →
    EventsRise n low (Carried p x ∷ es) →
    in_order known_of (all_told gs (Carried p x ∷ es) (below n)) ≡ map (ported p) (news (gs p) x) ++
    in_order known_of (all_told (one_more gs p x) es (below n))
carried-front n low gs p x es r =
    let o : Once p (below n) = once-below p 0 n (omega arith) (omega (arith, r.0)) in
    let gs' = one_more gs p x in
    let s = own-splits (p == p) p (gs p) x (port_payload p es) (eq-eqb p p refl) in
    let notes = map unported (unit_notes es) in
    let before = flat_map (told_at gs' es) o.before in
    let rest = flat_map (told_at gs' es) o.behind in
    let now_is : all_told gs (Carried p x ∷ es) (below n) ≡ (before ++ s.front) ++ (map (ported p) (news (gs p) x) ++
    ((s.back ++ rest) ++ notes)) =
    ap (λ cs. flat_map (told_at gs (Carried p x ∷ es)) cs ++ notes) o.are ∙
    (ap (λ z. z ++ notes) (flat_map-append (told_at gs (Carried p x ∷ es)) o.before (p ∷ o.behind)) ∙
    (ap₂ (λ u v. (u ++ (told_at gs (Carried p x ∷ es) p ++ v)) ++ notes) (others-same gs p x es o.before
    o.others_before) (others-same gs p x es o.behind o.others_behind) ∙
    (ap (λ z. (before ++ (z ++ rest)) ++ notes) s.all_is ∙ regroup before s.front (map (ported p) (news (gs p) x))
    s.back rest notes))) in
    let next_is : (before ++ s.front) ++ ((s.back ++ rest) ++ notes) ≡ all_told gs' es (below n) =
    regrouped before s.front s.back rest notes ∙
    (ap (λ z. (before ++ (z ++ rest)) ++ notes) s.next_is ∙
    (ap (λ z. z ++ notes) (sym (flat_map-append (told_at gs' es) o.before (p ∷ o.behind))) ∙
    ap (λ cs. flat_map (told_at gs' es) cs ++ notes) (sym o.are))) in
    let late : Each (LatePorted x.at) ((before ++ s.front) ++ ((s.back ++ rest) ++ notes)) =
    subst (Each (LatePorted x.at)) (sym next_is) (all-late n x.at gs' es (below n) r.2) in
    ap (in_order known_of) now_is ∙
    (in_order-climb known_of x.at 0 (before ++ s.front) (map (ported p) (news (gs p) x)) ((s.back ++ rest) ++ notes)
    (Climb-ported p x.at 0 (news (gs p) x) (news-climbs (gs p) x))
    (Each-front (LatePorted x.at) (before ++ s.front) ((s.back ++ rest) ++ notes) late)
    (Each-back (LatePorted x.at) (before ++ s.front) ((s.back ++ rest) ++ notes) late) ∙
    ap (λ z. map (ported p) (news (gs p) x) ++ in_order known_of z) next_is)

nothing : (gs : ℕ → Group) (cs : List ℕ) → flat_map (told_at gs []) cs ≡ []
nothing gs [] = refl
nothing gs (c ∷ cs) = nothing gs cs

ordered : (n low : ℕ) (gs : ℕ → Group) (es : List Event) → EventsRise n low es →
    in_order known_of (all_told gs es (below n)) ≡ ports_news gs es
ordered n low gs [] r = ap (λ z. in_order known_of (z ++ [])) (nothing gs (below n))
ordered n low gs (Remarked k ∷ es) r =
    in_order-note k (flat_map (told_at gs es) (below n)) (map unported (unit_notes es))
    (Each-implies (λ p. k.at + 1 ≤ p.known.at) (λ p. k.at < p.known.at) (flat_map (told_at gs es) (below n)) (λ p h.
    omega arith) (told-From n (k.at + 1) gs es (below n) r.2))
    (Each-implies (Noted (k.at + 1)) (λ p. not_after k p.known ≡ true) (map unported (unit_notes es)) (λ p h.
    noted-behind k p r.1 h) (notes-Noted n (k.at + 1) es r.2)) ∙
    ap (λ z. unported k ∷ z) (ordered n (k.at + 1) gs es r.2)
ordered n low gs (Carried p x ∷ es) r =
    carried-front n low gs p x es r ∙ ap (λ z. map (ported p) (news (gs p) x) ++
    z) (ordered n (x.at + 1) (one_more gs p x) es r.2)

pub ports_law : (n low : ℕ) (es : List Event) → EventsRise n low es → ports_so_far n es ≡ ports_news (λ _. no_group) es
ports_law n low es r =
    ap (λ z. in_order known_of (z ++ map unported (unit_notes es))) (told-start es (below n)) ∙
    ordered n low (λ _. no_group) es r

-- More events.

abbrev pub groups_after : (ℕ → Group) → List Event → ℕ → Group
groups_after gs [] = gs
groups_after gs (Carried p x ∷ es) = groups_after (one_more gs p x) es
groups_after gs (Remarked k ∷ es) = groups_after gs es

pub ports_news-append : (gs : ℕ → Group) (es fs : List Event) → ports_news gs (es ++ fs) ≡ ports_news gs es ++
    ports_news (groups_after gs es) fs
ports_news-append gs [] fs = refl
ports_news-append gs (Carried p x ∷ es) fs =
    ap (λ z. map (ported p) (news (gs p) x) ++ z) (ports_news-append (one_more gs p x) es fs) ∙
    sym (append_assoc (map (ported p) (news (gs p) x)) (ports_news (one_more gs p x) es)
    (ports_news (groups_after (one_more gs p x) es) fs))
ports_news-append gs (Remarked k ∷ es) fs = ap (λ z. unported k ∷ z) (ports_news-append gs es fs)

pub EventsRise-front : (n low : ℕ) (es fs : List Event) → EventsRise n low (es ++ fs) → EventsRise n low es
EventsRise-front n low [] fs r = tt
EventsRise-front n low (Carried p x ∷ es) fs r = (r.0, r.1, EventsRise-front n (x.at + 1) es fs r.2)
EventsRise-front n low (Remarked k ∷ es) fs r = (r.0, r.1, EventsRise-front n (k.at + 1) es fs r.2)

pub EventsRise-less : (n low high : ℕ) (es : List Event) → low ≤ high → EventsRise n high es → EventsRise n low es
EventsRise-less n low high [] h r = tt
EventsRise-less n low high (Carried p x ∷ es) h r = (r.0, omega (arith, r.1), r.2)
EventsRise-less n low high (Remarked k ∷ es) h r = (omega (arith, r.0), r.1, r.2)

pub rises-back : (n low : ℕ) (es fs : List Event) → EventsRise n low (es ++ fs) → EventsRise n low fs
rises-back n low [] fs r = r
rises-back n low (Carried p x ∷ es) fs r = let h : low ≤ x.at = r.1 in EventsRise-less n low (x.at + 1) fs (omega arith)
    (rises-back n (x.at + 1) es fs r.2)
rises-back n low (Remarked k ∷ es) fs r = let h : low ≤ k.at + 1 = r.0 in EventsRise-less n low (k.at + 1) fs h
    (rises-back n (k.at + 1) es fs r.2)

abbrev pub last_groups : List Event → ℕ → Group
last_groups es = groups_after (λ _. no_group) es

pub ports_so_far-append : (n low : ℕ) (es fs : List Event) → EventsRise n low (es ++ fs) →
    ports_so_far n (es ++ fs) ≡ ports_so_far n es ++ ports_news (last_groups es) fs
ports_so_far-append n low es fs r =
    ports_law n low (es ++ fs) r ∙
    (ports_news-append (λ _. no_group) es fs ∙
    ap (λ z. z ++ ports_news (last_groups es) fs) (sym (ports_law n low es (EventsRise-front n low es fs r))))

groups_after-port : (gs : ℕ → Group) (c : ℕ) (es : List Event) → groups_after gs es c ≡ group_after (gs c)
    (port_payload c es)
groups_after-port gs c [] = refl
groups_after-port gs c (Remarked k ∷ es) = groups_after-port gs c es
groups_after-port gs c (Carried p x ∷ es) = groups_after-port (one_more gs p x) c es ∙ by_test (p == c) where
  by_test : (t : Bool) → group_after (if t then group_behind (gs c) (Heard x) else gs c) (port_payload c es) ≡
      group_after (gs c) (if t then Heard x ∷ port_payload c es else port_payload c es)
  by_test true = refl
  by_test false = refl

-- the group under way of a port is the last of its payload
pub last_groups-port : (c : ℕ) (es : List Event) → last_groups es c ≡ last_of (port_payload c es)
last_groups-port c es = groups_after-port (λ _. no_group) c es ∙ sym (last_of-after (port_payload c es))
