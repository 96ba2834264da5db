-- A reader of packets, byte by byte: what each byte makes of the packet under way, which port's byte it is, and which
-- notes on packets it makes known. That is all that the laws need of a carrier. Of the port's bytes alone, what MIDI
-- 1.0 Detailed Specification 4.2 says of a byte stream holds.
--
--   Machine U                 a carrier's packets, U being what is kept of the packet under way
--   events m bytes            a recording's events
--   under_from m u bytes      the packet under way behind bytes
--   due_after m u due at bs   the notes that the last of the bytes makes known
--   Steady m u p room         the next bytes, as many as there is room for, are this port's, and a note comes at the
--                             last alone
use Rattle.std.specs.Prelude.{◌≡◌, ℕ, zero, suc, ◌+◌, List, [], ◌∷◌, ◌++◌, Option, Some, None}
use Rattle.mb_message.specs.declared.note.Note.{Note}
use Rattle.mb_stream.specs.Payload.{Spot}
use Rattle.mb_stream.specs.Told.{Known, Notes}
use Rattle.mb_ports.specs.Events.{Event, Carried, Remarked}

pub record Machine (U : Type 0) : Type 0 where
  pub start : U
  pub after : U → ℕ → U
  pub port : U → Option ℕ
  pub notes : U → (byte offset : ℕ) → List Note

-- what a note on a packet makes known, at the offset of the byte that makes it known; packets have no moments
abbrev pub remark : ℕ → Note → Known
remark at x = record { at = at; rank = 4; moment = 0; told = Notes x.at x.kind }

abbrev pub remarked : ℕ → List Note → List Event
remarked at [] = []
remarked at (x ∷ xs) = Remarked (remark at x) ∷ remarked at xs

abbrev pub carried_by : Option ℕ → Spot → List Event
carried_by None x = []
carried_by (Some p) x = Carried p x ∷ []

abbrev pub spot : (at byte : ℕ) → Spot
spot at b = record { at = at; byte = b; moment = 0 }

abbrev pub byte_events : {U : Type 0} → Machine U → U → (at byte : ℕ) → List Event
byte_events m u at b = carried_by (m.port u) (spot at b) ++ remarked at (m.notes u b at)

abbrev pub events_from : {U : Type 0} → Machine U → U → ℕ → List ℕ → List Event
events_from m u at [] = []
events_from m u at (b ∷ bs) = byte_events m u at b ++ events_from m (m.after u b) (at + 1) bs

abbrev pub events : {U : Type 0} → Machine U → List ℕ → List Event
events m bytes = events_from m m.start 0 bytes

abbrev pub under_from : {U : Type 0} → Machine U → U → List ℕ → U
under_from m u [] = u
under_from m u (b ∷ bs) = under_from m (m.after u b) bs

abbrev pub due_after : {U : Type 0} → Machine U → U → List Note → ℕ → List ℕ → List Note
due_after m u due at [] = due
due_after m u due at (b ∷ bs) = due_after m (m.after u b) (m.notes u b at) (at + 1) bs

abbrev pub Steady : {U : Type 0} → Machine U → U → ℕ → ℕ → Type 0
Steady m u p zero = Unit {0}
Steady m u p (suc zero) = m.port u ≡ Some p
Steady m u p (suc (suc room)) = (m.port u ≡ Some p) × ((b at : ℕ) → m.notes u b at ≡ []) ×
    ((b : ℕ) → Steady m (m.after u b) p (suc room))
