-- The events of a machine: more bytes, the order of offsets, and the bytes of one port side by side.
use Rattle.std.proofs.Common.{◌≡◌, ℕ, zero, suc, ◌+◌, ◌-◌, ◌<◌, ◌≤◌, Bool, true, false, ◌==◌, if◌then◌else◌, Option}
use Rattle.std.proofs.Common.{Some, None, List, [], ◌∷◌, ◌++◌, length, map, refl, sym, ◌∙◌, ap, subst, arith}
use Rattle.std.proofs.Common.{append_assoc, append-nil}
use Rattle.std.proofs.lemmas.Bool.{eq-eqb}
use Rattle.mb_message.specs.declared.note.Note.{Note}
use Rattle.mb_stream.specs.Payload.{Spot, Heard, heard_from}
use Rattle.mb_stream.specs.Groups.{Group}
use Rattle.mb_stream.specs.Told.{Known}
use Rattle.mb_stream.specs.Working.{news, group_behind, news_from}
use Rattle.mb_stream.proofs.OrderLemmas.{Climb}
use Rattle.mb_stream.proofs.NewsLaw.{news-climbs}
use Rattle.mb_ports.specs.Events.{Event, Carried, Remarked, port_payload, Ported, ported, unported, one_more}
use Rattle.mb_ports.specs.Events.{ports_news, EventsRise}
use Rattle.mb_ports.specs.Machine.{Machine, remarked, carried_by, spot, byte_events, events_from, under_from, due_after}
use Rattle.mb_ports.specs.Machine.{Steady}
use Rattle.mb_ports.proofs.PortsLaw.{EventsRise-less}

next_offset : (a n : ℕ) → a + 1 + n ≡ a + suc n
next_offset a n = omega arith

no_offset : (a : ℕ) → a ≡ a + 0
no_offset a = omega arith

pub events_from-append : {U : Type 0} (m : Machine U) (u : U) (at : ℕ) (xs ys : List ℕ) →
    events_from m u at (xs ++ ys) ≡ events_from m u at xs ++ events_from m (under_from m u xs) (at + length xs) ys
events_from-append m u at [] ys = ap (λ z. events_from m u z ys) (no_offset at)
events_from-append m u at (x ∷ xs) ys =
    ap (λ z. byte_events m u at x ++ z) (events_from-append m (m.after u x) (at + 1) xs ys ∙
    ap (λ z. events_from m (m.after u x) (at + 1) xs ++ events_from m (under_from m (m.after u x) xs) z ys)
    (next_offset at (length xs))) ∙
    sym (append_assoc (byte_events m u at x) (events_from m (m.after u x) (at + 1) xs)
    (events_from m (under_from m (m.after u x) xs) (at + suc (length xs)) ys))

pub under_from-append : {U : Type 0} (m : Machine U) (u : U) (xs ys : List ℕ) → under_from m u (xs ++ ys) ≡ under_from m
    (under_from m u xs) ys
under_from-append m u [] ys = refl
under_from-append m u (x ∷ xs) ys = under_from-append m (m.after u x) xs ys

-- Offsets rise.

pub rise-notes : (n low at : ℕ) (xs : List Note) (es : List Event) → low ≤ at + 1 → EventsRise n (at + 1) es →
    EventsRise n low (remarked at xs ++ es)
rise-notes n low at [] es h r = EventsRise-less n low (at + 1) es h r
rise-notes n low at (x ∷ xs) es h r = (h, refl, rise-notes n (at + 1) at xs es (omega arith) r)

abbrev pub LowPorts : {U : Type 0} → Machine U → ℕ → Type 0
LowPorts {U} m n = (u : U) (p : ℕ) → m.port u ≡ Some p → p < n

rise-byte : (n low at : ℕ) (port : Option ℕ) (b : ℕ) (xs : List Note) (es : List Event) → ((p : ℕ) → port ≡ Some p →
    p < n) → low ≤ at → EventsRise n (at + 1) es →
    EventsRise n low ((carried_by port (spot at b) ++ remarked at xs) ++ es)
rise-byte n low at None b xs es lows h r = rise-notes n low at xs es (omega arith) r
rise-byte n low at (Some p) b xs es lows h r = (lows p refl, h, rise-notes n (at + 1) at xs es (omega arith) r)

pub events-rise : {U : Type 0} (m : Machine U) (n : ℕ) → LowPorts m n → (u : U) (low at : ℕ) (bs : List ℕ) → low ≤ at →
    EventsRise n low (events_from m u at bs)
events-rise m n lows u low at [] h = tt
events-rise m n lows u low at (b ∷ bs) h =
    rise-byte n low at (m.port u) b (m.notes u b at) (events_from m (m.after u b) (at + 1) bs) (lows u) h
    (events-rise m n lows (m.after u b) (at + 1) (at + 1) bs (omega arith))

-- What is told first of events: a note, or something of a port at an offset that isn't below theirs.

pub data Headed (n low : ℕ) (x : Ported) : Type 0 where
  of_note : x.port ≡ None → x.known.rank ≡ 4 → Headed n low x
  of_port : (c : ℕ) → c < n → x.port ≡ Some c → low ≤ x.known.at → Headed n low x

head-byte : (n low p : ℕ) (x : Spot) (ns : List Known) (rest : List Ported) (y : Ported) (ys : List Ported) → p < n →
    low ≤ x.at → Climb (λ k. k) x.at 0 3 ns →
    map (ported p) ns ++ rest ≡ y ∷ ys → (rest ≡ y ∷ ys → Headed n low y) → Headed n low y
head-byte n low p x [] rest y ys below h climb e next = next e
head-byte n low p x (k ∷ ks) rest y ys below h climb e next =
    let same : ported p k ≡ y = cc in
    subst (Headed n low) same (of_port p below refl (omega (arith, climb.0)))

pub news-head : (n low : ℕ) (gs : ℕ → Group) (es : List Event) (y : Ported) (ys : List Ported) → EventsRise n low es →
    ports_news gs es ≡ y ∷ ys → Headed n low y
news-head n low gs [] y ys r e = cc
news-head n low gs (Remarked k ∷ es) y ys r e =
    let same : unported k ≡ y = cc in
    subst (Headed n low) same (of_note refl r.1)
news-head n low gs (Carried p x ∷ es) y ys r e =
    let high : low ≤ x.at = r.1 in
    head-byte n low p x (news (gs p) x) (ports_news (one_more gs p x) es) y ys r.0 r.1 (news-climbs (gs p) x) e
    (λ f. news-head n low (one_more gs p x) es y ys (EventsRise-less n low (x.at + 1) es (omega arith) r.2) f)

-- The bytes of one port.

abbrev pub carried_run : ℕ → ℕ → List ℕ → List Event
carried_run p at [] = []
carried_run p at (b ∷ bs) = Carried p (spot at b) ∷ carried_run p (at + 1) bs

pub port_payload-append : (c : ℕ) (es fs : List Event) → port_payload c (es ++ fs) ≡ port_payload c es ++
    port_payload c fs
port_payload-append c [] fs = refl
port_payload-append c (Remarked k ∷ es) fs = port_payload-append c es fs
port_payload-append c (Carried p x ∷ es) fs = by_test (p == c) (port_payload-append c es fs) where
  by_test : (t : Bool) → port_payload c (es ++ fs) ≡ port_payload c es ++ port_payload c fs →
      (if t then Heard x ∷ port_payload c (es ++ fs) else port_payload c (es ++ fs)) ≡
      (if t then Heard x ∷ port_payload c es else port_payload c es) ++ port_payload c fs
  by_test true h = ap (λ z. Heard x ∷ z) h
  by_test false h = h

pub port_payload-notes : (c at : ℕ) (xs : List Note) → port_payload c (remarked at xs) ≡ []
port_payload-notes c at [] = refl
port_payload-notes c at (x ∷ xs) = port_payload-notes c at xs

pub port_payload-own : (p at : ℕ) (bs : List ℕ) → port_payload p (carried_run p at bs) ≡ heard_from at 0 bs
port_payload-own p at [] = refl
port_payload-own p at (b ∷ bs) =
    ap (λ t. if t then Heard (spot at b) ∷ port_payload p (carried_run p (at + 1) bs) else port_payload p
    (carried_run p (at + 1) bs)) (eq-eqb p p refl) ∙
    ap (λ z. Heard (spot at b) ∷ z) (port_payload-own p (at + 1) bs)

pub port_payload-other : (p c at : ℕ) (bs : List ℕ) → (p == c) ≡ false → port_payload c (carried_run p at bs) ≡ []
port_payload-other p c at [] e = refl
port_payload-other p c at (b ∷ bs) e =
    ap (λ t. if t then Heard (spot at b) ∷ port_payload c (carried_run p (at + 1) bs) else port_payload c
    (carried_run p (at + 1) bs)) e ∙
    port_payload-other p c (at + 1) bs e

pub ports_news-run : (gs : ℕ → Group) (p at : ℕ) (bs : List ℕ) → ports_news gs (carried_run p at bs) ≡ map (ported p)
    (news_from (gs p) (heard_from at 0 bs))
ports_news-run gs p at [] = refl
ports_news-run gs p at (b ∷ bs) =
    ap (λ z. map (ported p) (news (gs p) (spot at b)) ++ z)
    (ports_news-run (one_more gs p (spot at b)) p (at + 1) bs ∙
    ap (λ t. map (ported p) (news_from (if t then group_behind (gs p) (Heard (spot at b)) else gs p)
    (heard_from (at + 1) 0 bs))) (eq-eqb p p refl)) ∙
    sym (map-append p (news (gs p) (spot at b)) (news_from (group_behind (gs p) (Heard (spot at b)))
    (heard_from (at + 1) 0 bs))) where
      map-append : (p : ℕ) (xs ys : List Known) → map (ported p) (xs ++ ys) ≡ map (ported p) xs ++ map (ported p) ys
      map-append p [] ys = refl
      map-append p (x ∷ xs) ys = ap (λ z. ported p x ∷ z) (map-append p xs ys)

-- A run of bytes of one port.

steady-port : {U : Type 0} (m : Machine U) (u : U) (p room : ℕ) → Steady m u p (suc room) → m.port u ≡ Some p
steady-port m u p zero s = s
steady-port m u p (suc room) s = s.0

pub steady-first : {U : Type 0} (m : Machine U) (u : U) (p room : ℕ) → 0 < room → Steady m u p room → m.port u ≡ Some p
steady-first m u p zero h s = absurd (omega arith)
steady-first m u p (suc room) h s = steady-port m u p room s

-- one byte that is its port's
one-events : (port : Option ℕ) (p at b : ℕ) (xs : List Note) → port ≡ Some p → carried_by port (spot at b) ++
    remarked at xs ≡ Carried p (spot at b) ∷ remarked at xs
one-events None p at b xs e = cc
one-events (Some q) p at b xs e = let same : q ≡ p = cc in ap (λ z. Carried z (spot at b) ∷ remarked at xs) same

pub steady-events : {U : Type 0} (m : Machine U) (u : U) (p room at : ℕ) (ts : List ℕ) → Steady m u p room →
    length ts ≤ room →
    events_from m u at ts ≡ carried_run p at ts ++ remarked (at + length ts - 1) (due_after m u [] at ts)
steady-events m u p room at [] s h = refl
steady-events m u p zero at (b ∷ ts) s h = absurd (omega arith)
steady-events m u p (suc room) at (b ∷ []) s h =
    let end : at ≡ at + 1 - 1 = omega arith in
    append-nil (byte_events m u at b) ∙
    (one-events (m.port u) p at b (m.notes u b at) (steady-port m u p room s) ∙
    ap (λ z. Carried p (spot at b) ∷ remarked z (m.notes u b at)) end)
steady-events m u p (suc zero) at (b ∷ c ∷ ts) s h = absurd (omega arith)
steady-events m u p (suc (suc room)) at (b ∷ c ∷ ts) s h =
    let rest = steady-events m (m.after u b) p (suc room) (at + 1) (c ∷ ts) (s.2 b) (omega arith) in
    let end : at + 1 + length (c ∷ ts) - 1 ≡ at + length (b ∷ c ∷ ts) - 1 = omega arith in
    ap (λ z. z ++ events_from m (m.after u b) (at + 1) (c ∷ ts)) (one-events (m.port u) p at b (m.notes u b at) s.0 ∙
    ap (λ z. Carried p (spot at b) ∷ remarked at z) (s.1 b at)) ∙
    ap (λ z. Carried p (spot at b) ∷ z)
    (rest ∙ ap (λ z. carried_run p (at + 1) (c ∷ ts) ++ remarked z (due_after m (m.after u b) [] (at + 1) (c ∷ ts)))
    end)

pub steady-quiet : {U : Type 0} (m : Machine U) (u : U) (p room at : ℕ) (ts : List ℕ) → Steady m u p room →
    length ts < room → due_after m u [] at ts ≡ []
steady-quiet m u p room at [] s h = refl
steady-quiet m u p zero at (b ∷ ts) s h = absurd (omega arith)
steady-quiet m u p (suc zero) at (b ∷ ts) s h = absurd (omega arith)
steady-quiet m u p (suc (suc room)) at (b ∷ []) s h = s.1 b at
steady-quiet m u p (suc (suc room)) at (b ∷ c ∷ ts) s h = steady-quiet m (m.after u b) p (suc room) (at + 1) (c ∷ ts)
    (s.2 b) (omega arith)
