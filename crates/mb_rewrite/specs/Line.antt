-- A writer of such a tape, as the jobs see it.
--
--   LineStands line puts       it was given these marks
--   LineWrote ..               a call handed on or holds what its marks end
--   LineHalted ..              it was refused: a front of it was handed on
use Rattle.std.specs.Prelude.{◌≡◌, ℕ, true, List, ◌++◌}
use Rattle.mb_message.specs.Front.{IsPart}
use Rattle.mb_stream.specs.Puts.{Put, signs_in}
use Rattle.mb_din.specs.Writer.{Stands}
use Rattle.mb_frames.specs.Gathering.{no_piece}
use Rattle.mb_held.specs.Held.{Holds}
use Rattle.mb_rewrite.specs.LineTape.{line_beyond, piece_after, timed_bytes}
use Rattle.mb_rewrite.specs.declared.line.LineTape.{LineTape}

pub record LineStands (line : LineTape) (puts : List Put) : Type 0 where
  pub running : line.writer.running ≡ true
  pub writes : Stands line.writer (signs_in puts)
  pub gathers : line.gather ≡ piece_after no_piece (timed_bytes puts)

pub record LineWrote (was now : LineTape) (more : List Put) (held kept : List ℕ) (took : List ℕ → Type 0) : Type 0 where
  pub wrote : List ℕ
  pub holds : Holds took (held ++ wrote) kept
  pub begun : now.begun ≡ was.begun
  pub stands : (puts : List Put) → LineStands was puts → LineStands now (puts ++ more)
  pub beyond : (puts : List Put) → LineStands was puts → wrote ≡ line_beyond puts more

pub record LineHalted (was : LineTape) (more : List Put) (held : List ℕ) (took : List ℕ → Type 0) : Type 0 where
  pub front : List ℕ
  pub took_it : took front
  pub part : (puts : List Put) → LineStands was puts → IsPart front (held ++ line_beyond puts more)
