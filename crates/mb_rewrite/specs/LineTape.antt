-- Marks with moments as a tape of a byte line: the bytes that they are written as (MIDI 1.0 Detailed Specification 4.2,
-- "Running Status"), each at the moment of its mark, gathered into records of track 0.
--
--   timed_bytes puts          the bytes, each with its moment
--   line_tape puts            the tape
--   line_ended puts           its records, without the one that bytes of the same moment may still go on with
--   line_so_far begun puts    what is handed on of the tape while marks follow, once it is begun
use Rattle.std.specs.Prelude.{ℕ, Bool, if◌then◌else◌, List, [], ◌∷◌, ◌++◌, map}
use Rattle.mb_message.specs.Signs.{Sign}
use Rattle.mb_stream.specs.Puts.{Put, At, Flush, signs_in}
use Rattle.mb_din.specs.Written.{din_spelled}
use Rattle.mb_frames.specs.Gathered.{TimedByte, gathered}
use Rattle.mb_frames.specs.Gathering.{Piece, after_magic, ended_by, no_piece, with_byte}

abbrev pub byte_at : (moment byte : ℕ) → TimedByte
byte_at moment byte = record { moment = moment; byte = byte }

-- the bytes of marks behind others
abbrev pub timed_behind : (before : List Sign) → List Put → List TimedByte
timed_behind before [] = []
timed_behind before (At m s ∷ puts) =
    map (byte_at m) (din_spelled (record { before = before; mark = s })) ++ timed_behind (before ++ s ∷ []) puts
timed_behind before (Flush ∷ puts) = timed_behind before puts

abbrev pub timed_bytes : List Put → List TimedByte
timed_bytes puts = timed_behind [] puts

abbrev pub line_tape : List Put → List ℕ
line_tape puts = gathered (timed_bytes puts)

-- the records that bytes end behind a piece, and the piece under way then
abbrev pub ended_from : Piece → List TimedByte → List ℕ
ended_from p [] = []
ended_from p (t ∷ ts) = ended_by p t ++ ended_from (with_byte p t) ts

abbrev pub piece_after : Piece → List TimedByte → Piece
piece_after p [] = p
piece_after p (t ∷ ts) = piece_after (with_byte p t) ts

abbrev pub line_ended : List Put → List ℕ
line_ended puts = ended_from no_piece (timed_bytes puts)

abbrev pub line_so_far : (begun : Bool) → List Put → List ℕ
line_so_far begun puts = if begun then after_magic (line_ended puts) else []

-- what marks more end of it
abbrev pub line_beyond : (puts more : List Put) → List ℕ
line_beyond puts more = ended_from (piece_after no_piece (timed_bytes puts)) (timed_behind (signs_in puts) more)
