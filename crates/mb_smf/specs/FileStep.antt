-- What one byte of a Standard MIDI File gives, and where the next one stands.
--
--   FileState         where a byte stands, and what counts of those before it: code's own struct
--   FileStep          the bytes that are given, none to two, and the state behind
--   goes s, gives b s, fails s w     steps that give nothing, a byte, a fault
--   given_list g      what code answers of a byte, as a list
--   with_byte n b, with_seven n b    a number, one byte or seven bits longer
use Rattle.std.specs.Prelude.{ℕ, ◌+◌, ◌*◌, ◌%◌, ◌^◌, List, [], ◌∷◌}
use Rattle.mb_smf.specs.declared.given_bytes.GivenBytes.{GivenBytes}
use Rattle.mb_smf.specs.declared.given_bytes.GivenBytes.TheVariants.{Nothing, One, Two}
use Rattle.mb_smf.specs.declared.file_place.FilePlace.TheVariants as at
use Rattle.mb_smf.specs.declared.file_state.FileState.{FileState}
use Rattle.mb_smf.specs.declared.fault.SmfWhy.{SmfWhy}

pub record FileStep : Type 0 where
  pub given : List ℕ
  pub now : FileState

abbrev pub goes : FileState → FileStep
goes s = record { given = []; now = s }

abbrev pub gives : ℕ → FileState → FileStep
gives b s = record { given = b ∷ []; now = s }

-- the byte shows a fault: it gives nothing, and nothing follows
abbrev pub fails : FileState → SmfWhy → FileStep
fails s w = goes (record s { place = at.Faulted w })

abbrev pub given_list : GivenBytes → List ℕ
given_list Nothing = []
given_list (One a) = a ∷ []
given_list (Two a b) = a ∷ b ∷ []

-- Numbers of up to four bytes, the most significant first, and of up to four times seven bits.
abbrev pub with_byte : ℕ → ℕ → ℕ
with_byte n b = n % 2 ^ 24 * 256 + b

abbrev pub with_seven : ℕ → ℕ → ℕ
with_seven n b = n % 2 ^ 21 * 128 + b % 128
