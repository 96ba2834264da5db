-- Gathering bytes with moments into records one by one: the piece under way, with its moment.
--
--   Piece                        its value
--   gathering piece given        what is still to be written, of the piece and of what follows
--   Gathers piece given written  the gatherer was given these, and wrote this behind the magic
use Rattle.std.specs.Prelude.{◌≡◌, ℕ, Bool, true, ◌==◌, ◌&&◌, nat_lt, if◌then◌else◌, List, [], ◌∷◌, ◌++◌, length}
use Rattle.mb_frames.specs.Tapes.{magic, record_bytes}
use Rattle.mb_frames.specs.Gathered.{TimedByte, gathered, piece_record}

pub record Piece : Type 0 where
  pub moment : ℕ
  pub bytes : List ℕ

abbrev pub no_piece : Piece
no_piece = record { moment = 0; bytes = [] }

abbrev pub after_magic : List ℕ → List ℕ
after_magic written = magic true ++ written

-- of no bytes, nothing
abbrev pub written_piece : (moment : ℕ) → List ℕ → List ℕ
written_piece moment [] = []
written_piece moment (b ∷ bs) = record_bytes true (piece_record moment (b ∷ bs))

-- a byte of the same moment, where there is room, goes on with the piece
abbrev pub goes_on : Piece → TimedByte → Bool
goes_on p t = (t.moment == p.moment) && nat_lt (length p.bytes) 255

abbrev pub ended_by : Piece → TimedByte → List ℕ
ended_by p t = if goes_on p t then [] else written_piece p.moment p.bytes

abbrev pub with_byte : Piece → TimedByte → Piece
with_byte p t =
    if goes_on p t then record { moment = p.moment; bytes = p.bytes ++ t.byte ∷ [] }
    else record { moment = t.moment; bytes = t.byte ∷ [] }

abbrev pub gathering : Piece → List TimedByte → List ℕ
gathering p [] = written_piece p.moment p.bytes
gathering p (t ∷ ts) = ended_by p t ++ gathering (with_byte p t) ts

pub record Gathers (now : Piece) (given : List TimedByte) (written : List ℕ) : Type 0 where
  pub rest : (more : List TimedByte) → gathered (given ++ more) ≡ after_magic (written ++ gathering now more)
