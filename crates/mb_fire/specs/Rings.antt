-- A writer of the eight ports of a place: what waits for each, and the count of its next packet.
--
--   Writer                     its value
--   Stands w marks sent n      each port was given these marks and sent these bytes, in so many packets; the rest waits
--   heads rings                the first byte that waits for each
use Rattle.std.specs.Prelude.{◌≡◌, ℕ, ◌<◌, ◌==◌, if◌then◌else◌, Bool, true, false, List, [], ◌∷◌, ◌++◌, map, drop}
use Rattle.std.specs.Prelude.{slice_get, slice_index_or, Option, Some, None, option_to_list}
use Rattle.mb_message.specs.Signs.{Sign}
use Rattle.mb_stream.specs.Spelling.{full_bytes}
use Rattle.mb_stream.specs.Standing.{is_open, suited}
use Rattle.mb_fire.specs.Written.{dbc_of}

-- the bytes that wait for a port, and whether a SysEx is open there
pub record Waiting : Type 0 where
  pub ring : List ℕ
  pub in_sysex : Bool

pub record Writer : Type 0 where
  pub place : ℕ
  pub dbc : ℕ
  pub rings : List Waiting

abbrev pub nothing : Waiting
nothing = record { ring = []; in_sysex = false }

abbrev pub ring_at : List Waiting → ℕ → Waiting
ring_at rings m = slice_index_or rings m nothing

abbrev pub head : Waiting → Option ℕ
head w = slice_get w.ring 0

abbrev pub popped : Waiting → Waiting
popped w = record w { ring = drop 1 w.ring }

abbrev pub heads : List Waiting → List (Option ℕ)
heads rings = map head rings

abbrev pub any_of : List (Option ℕ) → Bool
any_of [] = false
any_of (None ∷ hs) = any_of hs
any_of (Some b ∷ hs) = true

-- The marks that a port was given, and the bytes of them that were sent: what is left waits.
pub record IsRing (w : Waiting) (marks : List Sign) (sent : List ℕ) : Type 0 where
  pub bytes : full_bytes marks ≡ sent ++ w.ring
  pub each_suits : suited marks ≡ true
  pub open_now : w.in_sysex ≡ is_open marks

pub record Stands (w : Writer) (marks : ℕ → List Sign) (sent : ℕ → List ℕ) (number : ℕ) : Type 0 where
  pub rings : (m : ℕ) → m < 8 → IsRing (ring_at w.rings m) (marks m) (sent m)
  pub count : w.dbc ≡ dbc_of number

-- the marks with more of one port
abbrev pub given : (ℕ → List Sign) → ℕ → List Sign → ℕ → List Sign
given marks k new m = if m == k then marks m ++ new else marks m

-- what was sent, with the first byte of each ring
abbrev pub sent_more : (ℕ → List ℕ) → List Waiting → ℕ → List ℕ
sent_more sent rings m = sent m ++ option_to_list (head (ring_at rings m))
