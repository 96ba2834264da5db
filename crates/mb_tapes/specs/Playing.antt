-- Playing on its way.
--
--   fresh_playing              nothing was fed
--   playing_behind p piece     behind a piece
--   playing_given p piece      what is handed on at it
--   playing_end p              what is handed on at the end
--   playing_fault p            the fault that it stands at
--   PlayingStands p bytes      it was fed these bytes
--   Played was now given ..    a step of the gatherer: what it ended was handed on or is held
--   HasRead was now piece ..   a piece was read, and what it ended was handed on or is held
use Rattle.std.specs.Prelude.{◌≡◌, ℕ, Bool, true, false, if◌then◌else◌, List, [], ◌∷◌, ◌++◌, Option, None}
use Rattle.mb_frames.specs.Gathered.{TimedByte}
use Rattle.mb_frames.specs.Gathering.{Piece, no_piece, written_piece}
use Rattle.mb_frames.specs.Tapes.{magic}
use Rattle.mb_held.specs.Held.{Holds}
use Rattle.mb_smf.specs.Smf.{file_behind, file_fault, fresh_file, smf, smf_from}
use Rattle.mb_smf.specs.SmfReading.{fresh_smf}
use Rattle.mb_smf.specs.declared.fault.SmfFault.{SmfFault}
use Rattle.mb_tapes.specs.Played.{ended_records, piece_behind}
use Rattle.mb_tapes.specs.declared.playing.Playing.{Playing}

abbrev pub fresh_playing : Playing
fresh_playing = record { file = fresh_smf; gather = no_piece; begun = false }

abbrev pub playing_behind : Playing → List ℕ → Playing
playing_behind p piece = record {
  file = record { file = file_behind p.file.file piece; owed = None };
  gather = piece_behind p.gather (smf_from p.file.file piece).given;
  begun = true;
}

abbrev pub magic_due : (begun : Bool) → List ℕ
magic_due begun = if begun then [] else magic true

abbrev pub playing_given : Playing → List ℕ → List ℕ
playing_given p piece = magic_due p.begun ++ ended_records p.gather (smf_from p.file.file piece).given

abbrev pub playing_end : Playing → List ℕ
playing_end p = magic_due p.begun ++ written_piece p.gather.moment p.gather.bytes

abbrev pub playing_fault : Playing → Option SmfFault
playing_fault p = file_fault p.file.file

-- a file of which nothing was read isn't begun
abbrev pub is_begun : List ℕ → Bool
is_begun [] = false
is_begun (b ∷ bs) = true

abbrev pub PlayingStands : Playing → List ℕ → Type 0
PlayingStands p bytes = p ≡ record {
  file = record { file = file_behind fresh_file bytes; owed = None };
  gather = piece_behind no_piece (smf bytes).given;
  begun = is_begun bytes;
}

pub record Played (was now : Piece) (given : List TimedByte) (held kept : List ℕ) (took : List ℕ → Type 0) : Type 0
  where
    pub piece : now ≡ piece_behind was given
    pub holds : Holds took (held ++ ended_records was given) kept

pub record HasRead (was now : Playing) (piece held kept : List ℕ) (took : List ℕ → Type 0) : Type 0 where
  pub file : now.file ≡ record { file = file_behind was.file.file piece; owed = None }
  pub gather : now.gather ≡ piece_behind was.gather (smf_from was.file.file piece).given
  pub begun : now.begun ≡ was.begun
  pub holds : Holds took (held ++ ended_records was.gather (smf_from was.file.file piece).given) kept
