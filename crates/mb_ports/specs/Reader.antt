-- What a reader of packets promises, over the byte-stream reader of each port: the relation between what it keeps, the
-- bytes that it took, and what it told of them (the readings of all ports and the notes: `ports_so_far`).
--
--   Whole U                    what a reader keeps
--   Holds m n now bs told      it took these bytes and told this
--   bare p                     what is told, with its port if it has one
--   port_answer result         the same of what an answer tells, a run as its bytes
--   port_signs                 its marks
--   IsLongestOf left seen      a run is the longest that stands side by side
--   BreaksBefore ..            what a status breaks is told of before the status is taken
use Rattle.std.specs.Prelude.{◌≡◌, ℕ, ◌-◌, ◌<◌, true, length, List, [], ◌∷◌, ◌++◌, map, Option, Some, None, ◌⊎◌}
use Rattle.mb_message.specs.declared.note.Note.{Note}
use Rattle.mb_message.specs.declared.event.PortSeen.{PortSeen}
use Rattle.mb_message.specs.declared.event.PortSeen.TheVariants as port_seen
use Rattle.mb_message.specs.Signs.{Sign}
use Rattle.mb_stream.specs.Told.{Told, Notes, Known}
use Rattle.mb_stream.specs.Reading.{so_far, told_signs}
use Rattle.mb_stream.specs.ReaderLaw.{told_by, breaks, StatusNext, IsLongest}
use Rattle.mb_din.specs.Reader.{Stands}
use Rattle.mb_din.specs.State.{State, Rests}
use Rattle.mb_ports.specs.Events.{Event, Ported, ported, port_payload, ports_so_far}
use Rattle.mb_ports.specs.Machine.{Machine, events, under_from, remarked}

-- the offset of the next byte, the packet under way, the notes that are to be told, and each port's reader
pub record Whole (U : Type 0) : Type 0 where
  pub offset : ℕ
  pub under : U
  pub due : List Note
  pub readers : ℕ → State

-- All that is known of the events was told in its order, and perhaps what the next byte of one port made known before
-- it was taken. Each port's reader stands for the port's payload and what was told of it.
pub record PortsStand (n : ℕ) (readers : ℕ → State) (taken : List Event) (told : List Ported) : Type 0 where
  pub port : ℕ
  pub below : port < n
  pub ahead : List Known
  pub told_is : told ≡ ports_so_far n taken ++ map (ported port) ahead
  pub own : Stands (readers port) (port_payload port taken) (so_far (port_payload port taken) ++ ahead)
  pub others : (c : ℕ) → c < n → (c ≡ port → ⊥) →
      Stands (readers c) (port_payload c taken) (so_far (port_payload c taken))

-- notes that are to be told are known of the bytes, and aren't told yet
pub record Holds {U : Type 0} (m : Machine U) (n : ℕ) (now : Whole U) (bytes : List ℕ)
    (told : List Ported) : Type 0 where
  pub offset : now.offset ≡ length bytes
  pub under : now.under ≡ under_from m m.start bytes
  pub taken : List Event
  pub events_are : events m bytes ≡ taken ++ remarked (now.offset - 1) now.due
  pub stand : PortsStand n now.readers taken told
  pub here : (stand.ahead ≡ []) ⊎ ((now.readers stand.port).offset ≡ now.offset)
  pub rested : (now.due ≡ []) ⊎ (stand.ahead ≡ [])

-- all that is known of bytes
abbrev pub all_known : {U : Type 0} → Machine U → ℕ → List ℕ → List Ported
all_known m n bytes = ports_so_far n (events m bytes)

-- what is told, with its port if it has one
abbrev pub bare : Ported → Option ℕ × Told
bare p = (p.port, p.known.told)

abbrev pub port_told_by : PortSeen → List (Option ℕ × Told)
port_told_by (port_seen.Port c seen) = map (λ t. (Some c, t)) (told_by seen)
port_told_by (port_seen.Unit n) = (None, Notes n.at n.kind) ∷ []

abbrev pub port_answer : Option PortSeen → List (Option ℕ × Told)
port_answer None = []
port_answer (Some s) = port_told_by s

abbrev pub port_signs : List (Option ℕ × Told) → List Sign
port_signs seen = told_signs (map (λ s. s.1) seen)

-- `left` is what stands in the input of the packet's bytes that are still to come
abbrev pub IsLongestOf : (left : List ℕ) → PortSeen → Type 0
IsLongestOf left (port_seen.Port c seen) = IsLongest left seen
IsLongestOf left (port_seen.Unit n) = Unit {0}

-- the status still stands in the input, and nothing is begun, running or open on its port
abbrev pub BreaksBefore : (readers : ℕ → State) (left : List ℕ) → PortSeen → Type 0
BreaksBefore readers left (port_seen.Port c seen) = breaks (told_by seen) ≡ true → StatusNext left × Rests (readers c)
BreaksBefore readers left (port_seen.Unit n) = Unit {0}
