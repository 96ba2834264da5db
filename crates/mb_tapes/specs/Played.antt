-- A Standard MIDI File played onto a tape: the bytes that it gives, each at its moment, gathered into records of track
-- 0. The tape is the project's own, and so is what of it is handed on while the file goes on.
--
--   played bytes              the tape of a file
--   ended_records p given     the records that bytes end behind a piece under way
--   piece_behind p given      the piece under way behind them
--   played_so_far bytes       what is handed on of the tape while the file goes on: nothing before its first byte
use Rattle.std.specs.Prelude.{ℕ, List, [], ◌∷◌, ◌++◌}
use Rattle.mb_frames.specs.Gathered.{TimedByte, gathered}
use Rattle.mb_frames.specs.Gathering.{Piece, after_magic, ended_by, no_piece, with_byte}
use Rattle.mb_smf.specs.Smf.{smf}

abbrev pub played : List ℕ → List ℕ
played bytes = gathered (smf bytes).given

abbrev pub ended_records : Piece → List TimedByte → List ℕ
ended_records p [] = []
ended_records p (t ∷ ts) = ended_by p t ++ ended_records (with_byte p t) ts

abbrev pub piece_behind : Piece → List TimedByte → Piece
piece_behind p [] = p
piece_behind p (t ∷ ts) = piece_behind (with_byte p t) ts

abbrev pub played_so_far : List ℕ → List ℕ
played_so_far [] = []
played_so_far (b ∷ bs) = after_magic (ended_records no_piece (smf (b ∷ bs)).given)
