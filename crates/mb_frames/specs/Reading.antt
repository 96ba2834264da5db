-- Reading frames byte by byte.
--
--   Place                        where a reader stands
--   from place bytes             the parts of what follows, the reader being there
--   Stands place bytes parts     the reader has taken these bytes and told these parts
--   room_of place                how many bytes of a content are to come
--   behind_length place byte     where it stands behind a byte of a length
--   length_ended place byte      the length that this byte ends
--   begun length                 the part that the end of a length tells
--   is_at_end place              whether a frame's end is to be told
--   is_partial place             whether the reader stands inside a frame
--   IsWhole bytes                whole frames: what follows is read as if it stood alone
use Rattle.std.specs.Prelude.{◌≡◌, ℕ, ◌+◌, ◌*◌, Bool, true, false, List, [], ◌∷◌, ◌++◌, Option, Some, None, ◌==◌, not}
use Rattle.mb_frames.specs.Frames.{FramePart, FrameBegin, parts}
use Rattle.mb_frames.specs.Counting.{counted_parts, rest_parts}

-- between frames, behind the first byte of a length, or with so many bytes of a content to come: at 0 the end is to be
-- told
pub data Place : Type 0 where
  Between : Place
  High : (high : ℕ) → Place
  Within : (left : ℕ) → Place

abbrev pub from : Place → List ℕ → List FramePart
from Between bytes = counted_parts bytes
from (High high) bytes = counted_parts (high ∷ bytes)
from (Within left) bytes = rest_parts left bytes

pub record Stands (place : Place) (bytes : List ℕ) (so_far : List FramePart) : Type 0 where
  pub rest : (more : List ℕ) → parts (bytes ++ more) ≡ so_far ++ from place more

-- none outside a frame
abbrev pub room_of : Place → ℕ
room_of Between = 0
room_of (High high) = 0
room_of (Within left) = left

abbrev pub behind_length : Place → ℕ → Place
behind_length Between byte = High byte
behind_length (High high) byte = Within (256 * high + byte)
behind_length (Within left) byte = Within left

abbrev pub length_ended : Place → ℕ → Option ℕ
length_ended Between byte = None
length_ended (High high) byte = Some (256 * high + byte)
length_ended (Within left) byte = None

abbrev pub begun : Option ℕ → List FramePart
begun None = []
begun (Some len) = FrameBegin len ∷ []

abbrev pub is_at_end : Place → Bool
is_at_end Between = false
is_at_end (High high) = false
is_at_end (Within left) = left == 0

-- not where the end alone is to be told
abbrev pub is_partial : Place → Bool
is_partial Between = false
is_partial (High high) = true
is_partial (Within left) = not (left == 0)

pub record IsWhole (bytes : List ℕ) : Type 0 where
  pub alone : (more : List ℕ) → parts (bytes ++ more) ≡ parts bytes ++ parts more
