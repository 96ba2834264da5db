-- A tape's messages and, behind them, a Note Off for each note that still sounds: the project's own. That they come at
-- the moment of the last record whose header stands whole is so that they come no later than the recording was cut.
--
--   guarded moment puts       marks with their moments, and the Note Offs at this one
--   guarded_marks s tape      those of a tape's track 0
--   guarded_tape s tape       what they are written as, as a byte line's tape
--   guarded_so_far s tape     the part that is handed on while the tape goes on
--   ended den                 what is meant, and behind it a Note Off for each note that still sounds
use Rattle.std.specs.Prelude.{ℕ, List, ◌++◌}
use Rattle.mb_stream.specs.Denotation.{Denotation}
use Rattle.mb_stream.specs.Puts.{Put, puts_at, signs_in}
use Rattle.mb_guard.specs.Sounding.{off_marks, offs, with_items}
use Rattle.mb_track.specs.Track.{last_record_moment, track_marks, track_records}
use Rattle.mb_carrier.specs.declared.spec.Spec.{Spec}
use Rattle.mb_rewrite.specs.LineTape.{line_tape}
use Rattle.mb_rewrite.specs.Rewriting.{made_so_far}

abbrev pub guarded : (moment : ℕ) → List Put → List Put
guarded moment puts = puts ++ puts_at moment (off_marks (signs_in puts))

abbrev pub guarded_marks : Spec → (tape : List ℕ) → List Put
guarded_marks s tape = guarded (last_record_moment (track_records tape)) (track_marks s 0 tape)

abbrev pub guarded_tape : Spec → (tape : List ℕ) → List ℕ
guarded_tape s tape = line_tape (guarded_marks s tape)

abbrev pub guarded_so_far : Spec → (tape : List ℕ) → List ℕ
guarded_so_far s tape = made_so_far (λ puts. puts) s tape

abbrev pub ended : Denotation → Denotation
ended den = with_items den (offs den.items)
