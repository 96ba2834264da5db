-- A tape's messages as rules have them: the project's own. A mark that is kept stays at its moment.
--
--   mapped_puts rules puts           marks with their moments behind the rules
--   filtered_marks rules s tape      those of a tape's track 0
--   filtered_tape rules s tape       what they are written as, as a byte line's tape
--   filtered_so_far rules s tape     the part that is handed on while the tape goes on
use Rattle.std.specs.Prelude.{ℕ, List, [], ◌∷◌, flat_map}
use Rattle.mb_stream.specs.Puts.{At, Flush, Put, puts_at}
use Rattle.mb_filter.specs.Mapped.{mapped_sign}
use Rattle.mb_filter.specs.declared.rule.Rule.{Rule}
use Rattle.mb_carrier.specs.declared.spec.Spec.{Spec}
use Rattle.mb_track.specs.Track.{track_marks}
use Rattle.mb_rewrite.specs.LineTape.{line_tape}
use Rattle.mb_rewrite.specs.Rewriting.{made_so_far}

abbrev pub mapped_put : List Rule → Put → List Put
mapped_put rules (At m s) = puts_at m (mapped_sign rules s)
mapped_put rules Flush = Flush ∷ []

abbrev pub mapped_puts : List Rule → List Put → List Put
mapped_puts rules puts = flat_map (mapped_put rules) puts

abbrev pub filtered_marks : List Rule → Spec → (tape : List ℕ) → List Put
filtered_marks rules s tape = mapped_puts rules (track_marks s 0 tape)

abbrev pub filtered_tape : List Rule → Spec → (tape : List ℕ) → List ℕ
filtered_tape rules s tape = line_tape (filtered_marks rules s tape)

abbrev pub filtered_so_far : List Rule → Spec → (tape : List ℕ) → List ℕ
filtered_so_far rules s tape = made_so_far (mapped_puts rules) s tape
