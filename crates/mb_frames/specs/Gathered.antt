-- A tape of bytes with moments. Each longest stretch of one moment is cut from the left into pieces of at most 255
-- bytes, each a record of track 0.
--
--   TimedByte                  a byte and its moment, in microseconds
--   stretches given        the bytes of each longest stretch, with its moment
--   pieces bytes           them cut
--   gathered given         the tape
use Rattle.std.specs.Prelude.{ℕ, ◌==◌, nat_lt, if◌then◌else◌, true, List, [], ◌∷◌, ◌++◌, map, flat_map, length}
use Rattle.mb_frames.specs.Tapes.{Record, tape}

pub record TimedByte : Type 0 where
  pub moment : ℕ
  pub byte : ℕ

pub record Stretch : Type 0 where
  pub moment : ℕ
  pub bytes : List ℕ

abbrev pub alone : TimedByte → Stretch
alone t = record { moment = t.moment; bytes = t.byte ∷ [] }

abbrev pub before : TimedByte → List Stretch → List Stretch
before t [] = alone t ∷ []
before t (s ∷ ss) =
    if t.moment == s.moment then (record { moment = t.moment; bytes = t.byte ∷ s.bytes }) ∷ ss else alone t ∷ s ∷ ss

abbrev pub stretches : List TimedByte → List Stretch
stretches [] = []
stretches (t ∷ ts) = before t (stretches ts)

-- the piece under way is known, and has no more than 255 bytes
abbrev pub pieces_from : (piece : List ℕ) → List ℕ → List (List ℕ)
pieces_from piece [] = piece ∷ []
pieces_from piece (b ∷ bs) =
    if nat_lt (length piece) 255 then pieces_from (piece ++ b ∷ []) bs else piece ∷ pieces_from (b ∷ []) bs

abbrev pub pieces : List ℕ → List (List ℕ)
pieces [] = []
pieces (b ∷ bs) = pieces_from (b ∷ []) bs

abbrev pub piece_record : (moment : ℕ) → List ℕ → Record
piece_record moment bytes = record { moment = moment; track = 0; bytes = bytes }

abbrev pub stretch_records : Stretch → List Record
stretch_records s = map (piece_record s.moment) (pieces s.bytes)

abbrev pub gathered_records : List TimedByte → List Record
gathered_records given = flat_map stretch_records (stretches given)

abbrev pub gathered : List TimedByte → List ℕ
gathered given = tape true (gathered_records given)
