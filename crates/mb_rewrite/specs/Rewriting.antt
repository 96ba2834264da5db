-- A track on its way into a byte line's tape, whatever is made of its marks: what guarding and filtering share.
--
--   is_begun tape                           something of it was read
--   made_so_far made s tape                 what is handed on while the tape goes on
--   HasTold made keeps track line bytes     all that is known of these bytes was told: this is kept of its marks, and
--                                           what is made of them went to the line
--   Rewriting made keeps track line bytes   the same of all bytes that were fed, and it was handed on
use Rattle.std.specs.Prelude.{◌≡◌, ℕ, ◌≤◌, Bool, true, false, List, [], ◌∷◌, length}
use Rattle.mb_message.specs.Signs.{Sign}
use Rattle.mb_stream.specs.Puts.{Put, signs_in}
use Rattle.mb_carrier.specs.declared.spec.Spec.{Spec}
use Rattle.mb_track.specs.Track.{track_marks_so_far}
use Rattle.mb_track.specs.TrackReading.{TrackTold, track_of, track_offset, track_spec}
use Rattle.mb_track.specs.declared.track.TrackReader.{TrackReader}
use Rattle.mb_rewrite.specs.Line.{LineStands}
use Rattle.mb_rewrite.specs.LineTape.{line_so_far}
use Rattle.mb_rewrite.specs.declared.line.LineTape.{LineTape}

abbrev pub is_begun : List ℕ → Bool
is_begun [] = false
is_begun (b ∷ bs) = true

abbrev pub made_so_far : (made : List Put → List Put) → Spec → (tape : List ℕ) → List ℕ
made_so_far made s tape = line_so_far (is_begun tape) (made (track_marks_so_far s 0 tape))

pub record HasTold (made : List Put → List Put) (keeps : List Sign → Type 0) (track : TrackReader) (line : LineTape)
    (bytes : List ℕ) : Type 0 where
  pub told : TrackTold track bytes
  pub of_track : track_of track ≡ 0
  pub kept : keeps (signs_in (track_marks_so_far (track_spec track) 0 bytes))
  pub written : LineStands line (made (track_marks_so_far (track_spec track) 0 bytes))

pub record Rewriting (made : List Put → List Put) (keeps : List Sign → Type 0) (track : TrackReader) (line : LineTape)
    (bytes : List ℕ) : Type 0 where
  pub so_far : HasTold made keeps track line bytes
  pub offset : track_offset track ≤ length bytes
  pub begun : line.begun ≡ is_begun bytes
