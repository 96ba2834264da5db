-- A recording of packets as events: the bytes that ports carry (each port's bytes are a byte stream, MIDI 1.0 Detailed
-- Specification 4.2), and the notes on packets and frames. How packets are laid out is each carrier's own.
--
--   Event                   a byte that a port carries, or a note
--   port_payload c es       the byte stream of a port
--   Ported                  what becomes known, of a port or of a packet
--   ports_so_far n es       the readings of ports 0 to n - 1 and the notes, in one list, in order
--   ports_news gs es        the same event by event, by the last group of each port: no second definition, a law says
--                           that both are equal where offsets rise
--   EventsRise n low es     ports are below n, offsets rise from low on
use Rattle.std.specs.Prelude.{◌≡◌, ℕ, zero, suc, ◌+◌, ◌<◌, ◌≤◌, List, [], ◌∷◌, ◌++◌, map, flat_map, Option, Some, None}
use Rattle.std.specs.Prelude.{◌==◌, if◌then◌else◌}
use Rattle.mb_stream.specs.Payload.{Spot, Entry, Heard}
use Rattle.mb_stream.specs.Groups.{Group}
use Rattle.mb_stream.specs.Told.{Known}
use Rattle.mb_stream.specs.Order.{in_order}
use Rattle.mb_stream.specs.Reading.{payload_told}
use Rattle.mb_stream.specs.Working.{news, group_behind}

pub data Event : Type 0 where
  Carried : (port : ℕ) → (spot : Spot) → Event
  Remarked : (known : Known) → Event

abbrev pub port_payload : ℕ → List Event → List Entry
port_payload c [] = []
port_payload c (Carried p x ∷ es) = if p == c then Heard x ∷ port_payload c es else port_payload c es
port_payload c (Remarked k ∷ es) = port_payload c es

abbrev pub unit_notes : List Event → List Known
unit_notes [] = []
unit_notes (Carried p x ∷ es) = unit_notes es
unit_notes (Remarked k ∷ es) = k ∷ unit_notes es

-- what becomes known, with its port if it has one
pub record Ported : Type 0 where
  pub port : Option ℕ
  pub known : Known

abbrev pub ported : ℕ → Known → Ported
ported c k = record { port = Some c; known = k }

abbrev pub unported : Known → Ported
unported k = record { port = None; known = k }

abbrev pub known_of : Ported → Known
known_of p = p.known

-- 0 to n - 1
abbrev pub below_from : (from count : ℕ) → List ℕ
below_from from zero = []
below_from from (suc count) = from ∷ below_from (from + 1) count

abbrev pub below : ℕ → List ℕ
below n = below_from 0 n

abbrev pub port_told : List Event → ℕ → List Ported
port_told es c = map (ported c) (payload_told (port_payload c es))

-- the readings of all ports and the notes of packets, in one list
abbrev pub ports_so_far : ℕ → List Event → List Ported
ports_so_far n es = in_order known_of (flat_map (port_told es) (below n) ++ map unported (unit_notes es))

abbrev pub one_more : (ℕ → Group) → ℕ → Spot → ℕ → Group
one_more gs p x c = if p == c then group_behind (gs c) (Heard x) else gs c

abbrev pub ports_news : (ℕ → Group) → List Event → List Ported
ports_news gs [] = []
ports_news gs (Carried p x ∷ es) = map (ported p) (news (gs p) x) ++ ports_news (one_more gs p x) es
ports_news gs (Remarked k ∷ es) = unported k ∷ ports_news gs es

-- a note stands at the last byte's offset, or later
abbrev pub EventsRise : (n low : ℕ) → List Event → Type 0
EventsRise n low [] = Unit {0}
EventsRise n low (Carried p x ∷ es) = (p < n) × (low ≤ x.at) × EventsRise n (x.at + 1) es
EventsRise n low (Remarked k ∷ es) = (low ≤ k.at + 1) × (k.rank ≡ 4) × EventsRise n (k.at + 1) es
