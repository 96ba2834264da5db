-- A reader of one port alone, from the law of several: with one port, what was told is a front of what is known if its
-- parts without their ports are.
use Rattle.std.proofs.Common.{◌≡◌, ℕ, ◌+◌, ◌-◌, ◌<◌, Bool, true, false, if◌then◌else◌, Option, Some, List, [], ◌∷◌}
use Rattle.std.proofs.Common.{◌++◌, length, map, refl, sym, ◌∙◌, ap, ap₂, subst, arith, append_assoc, append-nil}
use Rattle.std.proofs.lemmas.List.{append_cancel_left}
use Rattle.mb_message.specs.declared.note.Note.{Note}
use Rattle.mb_stream.specs.Told.{Told, Known}
use Rattle.mb_stream.specs.Order.{not_after, put_in, in_order}
use Rattle.mb_stream.specs.Reading.{payload_told, so_far}
use Rattle.mb_din.specs.Reader.{Stands}
use Rattle.mb_message.specs.Front.{IsFront}
use Rattle.mb_din.specs.State.{State}
use Rattle.mb_ports.specs.Events.{Event, port_payload, unit_notes, Ported, ported, unported, known_of, ports_so_far}
use Rattle.mb_ports.specs.Events.{ports_news, EventsRise}
use Rattle.mb_ports.specs.Machine.{Machine, remarked, events_from, events, under_from}
use Rattle.mb_ports.specs.Reader.{Whole, Holds, all_known, bare}
use Rattle.mb_stream.specs.ReaderLaw.{Goes, Tells, AllTold, bare_told}
use Rattle.mb_ports.specs.OnePort.{one_known, HoldsOne}
use Rattle.mb_ports.proofs.PortsLaw.{rises-back, last_groups, ports_so_far-append}
use Rattle.mb_ports.proofs.MachineLaw.{events_from-append, LowPorts, events-rise, Headed, of_note, of_port, news-head}
use Rattle.mb_ports.proofs.ReaderLaw.{whole, AheadAt, stands-ahead, events-more, map-nil, finish-stands, anew-holds}

-- Order without ports.

map-put_in : (x : Ported) (ys : List Ported) → map known_of (put_in known_of x ys) ≡ put_in (λ k. k) x.known
    (map known_of ys)
map-put_in x [] = refl
map-put_in x (y ∷ ys) = by_test (not_after x.known y.known) (map-put_in x ys) where
  by_test : (t : Bool) → map known_of (put_in known_of x ys) ≡ put_in (λ k. k) x.known (map known_of ys) →
      map known_of (if t then x ∷ y ∷ ys else y ∷ put_in known_of x ys) ≡ (if t then x.known ∷ y.known ∷ map known_of
      ys else y.known ∷ put_in (λ k. k) x.known (map known_of ys))
  by_test true h = refl
  by_test false h = ap (λ z. y.known ∷ z) h

pub map-in_order : (xs : List Ported) → map known_of (in_order known_of xs) ≡ in_order (λ k. k) (map known_of xs)
map-in_order [] = refl
map-in_order (x ∷ xs) = map-put_in x (in_order known_of xs) ∙ ap (put_in (λ k. k) x.known) (map-in_order xs)

known-append : (xs ys : List Ported) → map known_of (xs ++ ys) ≡ map known_of xs ++ map known_of ys
known-append [] ys = refl
known-append (x ∷ xs) ys = ap (λ z. x.known ∷ z) (known-append xs ys)

known-ported : (c : ℕ) (ks : List Known) → map known_of (map (ported c) ks) ≡ ks
known-ported c [] = refl
known-ported c (k ∷ ks) = ap (λ z. k ∷ z) (known-ported c ks)

known-unported : (ks : List Known) → map known_of (map unported ks) ≡ ks
known-unported [] = refl
known-unported (k ∷ ks) = ap (λ z. k ∷ z) (known-unported ks)

-- what one port tells, and the notes, in order
pub one_so_far : (es : List Event) → map known_of (ports_so_far 1 es) ≡ in_order (λ k.
    k) (payload_told (port_payload 0 es) ++ unit_notes es)
one_so_far es =
    let own = map (ported 0) (payload_told (port_payload 0 es)) in
    map-in_order ((own ++ []) ++ map unported (unit_notes es)) ∙
    ap (in_order (λ k. k))
    (known-append (own ++ []) (map unported (unit_notes es)) ∙
    ap₂ (λ xs ys. xs ++ ys) (ap (map known_of) (append-nil own) ∙ known-ported 0 (payload_told (port_payload 0 es)))
    (known-unported (unit_notes es)))

-- The front.

known-all : {U : Type 0} (m : Machine U) (n : ℕ) → LowPorts m n → (o : ℕ) (u : U) (due : List Note) (rs : ℕ → State)
    (bytes input : List ℕ) (told : List Ported) (h : Holds m n (whole o u due rs) bytes told) →
    all_known m n (bytes ++ input) ≡ ports_so_far n h.taken ++ ports_news (last_groups h.taken) (remarked (o - 1) due ++
    events_from m u o input)
known-all m n lows o u due rs bytes input told h =
    let all : events m (bytes ++ input) ≡ h.taken ++ (remarked (o - 1) due ++ events_from m u o input) =
    events-more m o u bytes input (h.taken ++ remarked (o - 1) due) h.offset h.under h.events_are ∙
    append_assoc h.taken (remarked (o - 1) due) (events_from m u o input) in
    ap (ports_so_far n) all ∙
    ports_so_far-append n 0 h.taken (remarked (o - 1) due ++ events_from m u o input) (subst (EventsRise n 0) all
    (events-rise m n lows m.start 0 0 (bytes ++ input) (omega arith)))

news-rise : {U : Type 0} (m : Machine U) (n : ℕ) → LowPorts m n → (o : ℕ) (u : U) (due : List Note) (rs : ℕ → State)
    (bytes input : List ℕ) (told : List Ported) (h : Holds m n (whole o u due rs) bytes told) →
    EventsRise n 0 (remarked (o - 1) due ++ events_from m u o input)
news-rise m n lows o u due rs bytes input told h =
    let all : events m (bytes ++ input) ≡ h.taken ++ (remarked (o - 1) due ++ events_from m u o input) =
    events-more m o u bytes input (h.taken ++ remarked (o - 1) due) h.offset h.under h.events_are ∙
    append_assoc h.taken (remarked (o - 1) due) (events_from m u o input) in
    rises-back n 0 h.taken (remarked (o - 1) due ++ events_from m u o input) (subst (EventsRise n 0) all
    (events-rise m n lows m.start 0 0 (bytes ++ input) (omega arith)))

no-port : (k : Known) (q : ℕ) (ys : List Ported) (rest : List Known) (ns : List Ported) → q < 1 → k.rank < 3 →
    ((y : Ported) (zs : List Ported) → ns ≡ y ∷ zs → Headed 1 0 y) →
    map known_of ns ≡ k ∷ rest → IsFront (map (ported q) (k ∷ [])) ns
no-port k q ys rest [] low rank heads e = cc
no-port k q ys rest (y ∷ zs) low rank heads e = by_head (heads y zs refl) where
  same : y.known ≡ k
  same = cc

  by_head : Headed 1 0 y → IsFront (map (ported q) (k ∷ [])) (y ∷ zs)
  by_head (of_note none four) = absurd (omega (arith, four, rank, ap (λ (z : Known). z.rank) same))
  by_head (of_port c below is high) =
      let port : Some c ≡ Some q = let e : c ≡ q = omega arith in ap Some e in
      let whole_of : y ≡ ported q k = ap₂ (λ (p : Option ℕ) (z : Known). record { port = p; known = z }) (is ∙ port)
      same in
      (zs, ap (λ z. z ∷ zs) whole_of)

front-by : (known : List Ported) (q : ℕ) (ahead : List Known) (o : ℕ) (ns told all : List Ported) → told ≡ known ++
    map (ported q) ahead → all ≡ known ++ ns → q < 1 → AheadAt o ahead →
    ((y : Ported) (zs : List Ported) → ns ≡ y ∷ zs → Headed 1 0 y) → IsFront (map known_of told) (map known_of all) →
    IsFront told all
front-by known q ahead o ns told all t a low at heads front =
    let told_known : map known_of told ≡ map known_of known ++ ahead = ap (map known_of) t ∙
    (known-append known (map (ported q) ahead) ∙ ap (λ z. map known_of known ++ z) (known-ported q ahead)) in
    let all_known_is : map known_of all ≡ map known_of known ++ map known_of ns = ap (map known_of) a ∙
    known-append known ns in
    let next : map known_of ns ≡ ahead ++ front.0 =
    append_cancel_left (map known_of known) (map known_of ns) (ahead ++ front.0)
    (sym all_known_is ∙ (front.1 ∙ (ap (λ z. z ++ front.0) told_known ∙ append_assoc (map known_of known) ahead
    front.0))) in
    let f : IsFront (map (ported q) ahead) ns = by_ahead ahead at next in (
      f.0,
      a ∙ (ap (λ z. known ++ z) f.1 ∙ (sym (append_assoc known (map (ported q) ahead) f.0) ∙
          ap (λ z. z ++ f.0) (sym t))),
    ) where
      by_ahead : (ks : List Known) → AheadAt o ks → map known_of ns ≡ ks ++ front.0 → IsFront (map (ported q) ks) ns
      by_ahead [] h e = (ns, refl)
      by_ahead (k ∷ []) h e = no-port k q [] front.0 ns low h.1 heads e
      by_ahead (k ∷ l ∷ ks) h e = absurd h

with-ports : {U : Type 0} (m : Machine U) → LowPorts m 1 → (now : Whole U) (bytes input : List ℕ) (told : List Ported)
    (h : Holds m 1 now bytes told) →
    IsFront (map known_of told) (map known_of (all_known m 1 (bytes ++ input))) →
    IsFront told (all_known m 1 (bytes ++ input))
with-ports m lows now bytes input told h front =
    let s = h.stand in
    let ns = ports_news (last_groups h.taken) (remarked (now.offset - 1) now.due ++ events_from m now.under now.offset
    input) in
    front-by (ports_so_far 1 h.taken) s.port s.ahead (now.readers s.port).offset ns told (all_known m 1 (bytes ++
    input)) s.told_is
    (known-all m 1 lows now.offset now.under now.due now.readers bytes input told h) s.below
    (stands-ahead (now.readers s.port) (port_payload s.port h.taken) s.ahead s.own)
    (λ y zs e. news-head 1 0 (last_groups h.taken) (remarked (now.offset - 1) now.due ++
    events_from m now.under now.offset input) y zs (news-rise m 1 lows now.offset now.under now.due now.readers
    bytes input told h) e)
    front

-- The law of one port.

tolds : (ps : List Ported) → map (λ k. k.told) (map known_of ps) ≡ map (λ s. s.1) (map bare ps)
tolds [] = refl
tolds (p ∷ ps) = ap (λ z. p.known.told ∷ z) (tolds ps)

pub tells-one : {U : Type 0} (m : Machine U) → LowPorts m 1 → (was now : Whole U) (input left : List ℕ)
    (seen : List (Option ℕ × Told)) (answer : List Told) → map (λ s. s.1) seen ≡ answer →
    Tells bare (all_known m 1) (Holds m 1 was) (Holds m 1 now) input left seen →
    Tells bare_told (one_known m) (HoldsOne m was) (HoldsOne m now) input left answer
tells-one m lows was now input left seen answer e tells bytes told h front =
    let f : IsFront h.with_port (all_known m 1 (bytes ++ input)) =
    with-ports m lows was bytes input h.with_port h.holds (front.0, front.1 ∙ ap (λ z. z ++ front.0) h.told_is) in
    let g : Goes bare (all_known m 1) (Holds m 1 now) input left seen bytes h.with_port =
    tells bytes h.with_port h.holds f in
    let told_is : told ++ map known_of g.fresh ≡ map known_of (h.with_port ++ g.fresh) =
    ap (λ z. z ++ map known_of g.fresh) h.told_is ∙ sym (known-append h.with_port g.fresh) in
    record {
      taken = g.taken;
      front = g.front;
      fresh = map known_of g.fresh;
      answer_is = tolds g.fresh ∙ (ap (map (λ s. s.1)) g.answer_is ∙ e);
      stands = record { with_port = h.with_port ++ g.fresh; holds = g.stands; told_is = told_is };
      still = (
        map known_of g.still.0,
        ap (map known_of) g.still.1 ∙ (known-append (h.with_port ++ g.fresh) g.still.0 ∙
            ap (λ z. z ++ map known_of g.still.0) (sym told_is)),
      );
    }

pub all_told-one : {U : Type 0} (m : Machine U) → LowPorts m 1 → (was : Whole U) (input : List ℕ) →
    AllTold (all_known m 1) (Holds m 1 was) input → AllTold (one_known m) (HoldsOne m was) input
all_told-one m lows was input all bytes told h front =
    h.told_is ∙
    ap (map known_of) (all bytes h.with_port h.holds (with-ports m lows was bytes input h.with_port h.holds (
      front.0,
      front.1 ∙ ap (λ z. z ++ front.0) h.told_is,
    )))

-- what is known of some bytes stays known
pub one-stays : {U : Type 0} (m : Machine U) → LowPorts m 1 → (bytes more : List ℕ) →
    IsFront (one_known m bytes) (one_known m (bytes ++ more))
one-stays m lows bytes more =
    let all : events m (bytes ++ more) ≡ events m bytes ++ events_from m (under_from m m.start bytes) (0 + length bytes)
    more = events_from-append m m.start 0 bytes more in
    let news = ports_news (last_groups (events m bytes)) (events_from m (under_from m m.start bytes) (0 + length bytes)
    more) in
    let known : all_known m 1 (bytes ++ more) ≡ all_known m 1 bytes ++ news =
    ap (ports_so_far 1) all ∙ ports_so_far-append 1 0 (events m bytes) (events_from m (under_from m m.start bytes)
    (0 + length bytes) more) (subst (EventsRise 1 0) all (events-rise m 1 lows m.start 0 0 (bytes ++ more)
    (omega arith))) in
    (map known_of news, ap (map known_of) known ∙ known-append (all_known m 1 bytes) news)

-- where all is told, all is told with ports
all-ports : {U : Type 0} (m : Machine U) → LowPorts m 1 → (now : Whole U) (bytes : List ℕ) →
    HoldsOne m now bytes (one_known m bytes) → Holds m 1 now bytes (all_known m 1 bytes)
all-ports m lows now bytes h =
    let same : all_known m 1 (bytes ++ []) ≡ all_known m 1 bytes = ap (all_known m 1) (append-nil bytes) in
    let known : map known_of (all_known m 1 (bytes ++ [])) ≡ map known_of h.with_port = ap (map known_of) same ∙
    h.told_is in
    let f : IsFront h.with_port (all_known m 1 (bytes ++ [])) =
    with-ports m lows now bytes [] h.with_port h.holds ([], known ∙ sym (append-nil (map known_of h.with_port))) in
    let rest : map known_of f.0 ≡ [] =
    append_cancel_left (map known_of h.with_port) (map known_of f.0) []
    (sym (known-append h.with_port f.0) ∙ (sym (ap (map known_of) f.1) ∙
    (known ∙ sym (append-nil (map known_of h.with_port))))) in
    let all : h.with_port ≡ all_known m 1 bytes =
    sym (append-nil h.with_port) ∙ (ap (λ z. h.with_port ++ z) (sym (map-nil known_of f.0 rest)) ∙ (sym f.1 ∙ same)) in
    subst (Holds m 1 now bytes) all h.holds

-- where all is told, the port's reader stands for the port's payload
pub finish-one : {U : Type 0} (m : Machine U) → LowPorts m 1 → (now : Whole U) (bytes : List ℕ) →
    HoldsOne m now bytes (one_known m bytes) →
    Stands (now.readers 0) (port_payload 0 (events m bytes)) (so_far (port_payload 0 (events m bytes)))
finish-one m lows now bytes h =
    finish-stands m 1 lows now.offset now.under now.due now.readers bytes (all-ports m lows now bytes h) 0 (omega arith)

-- and where the reader begins anew, it stands for a recording of the same length in which its port carries nothing
pub anew-one : {U : Type 0} (m : Machine U) → LowPorts m 1 → (o : ℕ) (u : U) (due : List Note) (rs now : ℕ → State)
    (bytes instead : List ℕ) →
    HoldsOne m (whole o u due rs) bytes (one_known m bytes) → length instead ≡ length bytes →
    under_from m m.start instead ≡ under_from m m.start bytes →
    port_payload 0 (events m instead) ≡ [] → Stands (now 0) [] [] → HoldsOne m (whole o u due now) instead
    (one_known m instead)
anew-one m lows o u due rs now bytes instead h lengths same silent fresh = record {
  with_port = all_known m 1 instead;
  holds =
      anew-holds m 1 lows o u due rs now bytes instead 0 (omega arith) (all-ports m lows (whole o u due rs) bytes h)
      lengths same silent
      (λ c low apart. let none : c ≡ 0 = omega arith in absurd (apart none)) fresh
      (λ c low apart. let none : c ≡ 0 = omega arith in absurd (apart none));
  told_is = refl;
}
