-- A tape that was filtered means what the rules make of the tape's messages.
use Rattle.std.proofs.Common.{◌≡◌, ℕ, ◌≤◌, ◌<◌, ◌^◌, true, List, [], ◌∷◌, ◌++◌, sym, ◌∙◌, ap, subst, arith, append-nil}
use Rattle.mb_stream.specs.Denotation.{denotation}
use Rattle.mb_stream.specs.Puts.{At, Flush, Put, last_put, puts_at, signs_in}
use Rattle.mb_stream.specs.Standing.{AreValid, suited}
use Rattle.mb_ble.specs.Distances.{IsRising}
use Rattle.mb_filter.specs.Mapped.{mapped, mapped_marks, mapped_sign}
use Rattle.mb_filter.specs.declared.rule.Rule.{Rule}
use Rattle.mb_filter.proofs.MappedLaw.{mapped-means}
use Rattle.mb_filter.proofs.SuitLemmas.{mapped-suits, mapped-valid}
use Rattle.mb_carrier.specs.declared.spec.Spec.{Spec}
use Rattle.mb_carrier.specs.declared.spec.Spec.TheVariants.{Din}
use Rattle.mb_track.specs.Track.{last_record_moment, track_marks, track_records}
use Rattle.mb_track.proofs.FrontLemmas.{all-suit}
use Rattle.mb_rewrite.specs.Filtered.{filtered_marks, filtered_tape, mapped_puts}
use Rattle.mb_rewrite.specs.Recorded.{AreMoments, track_den}
use Rattle.mb_rewrite.proofs.CarriedLemmas.{meaning-carried, track-means, track-valid}
use Rattle.mb_rewrite.proofs.FilterLemmas.{mapped-signs}
use Rattle.mb_rewrite.proofs.RisingLemmas.{last-at, last-lower, rising-at, rising-lower, track-moments}

-- what is kept has the moments of its marks

mapped-rise : (rules : List Rule) (last : ℕ) (puts : List Put) → IsRising last puts →
    IsRising last (mapped_puts rules puts)
mapped-rise rules last [] rise = tt
mapped-rise rules last (Flush ∷ puts) rise = mapped-rise rules last puts rise
mapped-rise rules last (At m s ∷ puts) rise =
    rising-at last m (mapped_sign rules s) (mapped_puts rules puts) rise.0 (mapped-rise rules m puts rise.1)

mapped-last : (rules : List Rule) (last : ℕ) (puts : List Put) → IsRising last puts →
    last_put last (mapped_puts rules puts) ≤ last_put last puts
mapped-last rules last [] rise = omega arith
mapped-last rules last (Flush ∷ puts) rise = mapped-last rules last puts rise
mapped-last rules last (At m s ∷ puts) rise =
    let here = last-at last m (mapped_sign rules s) (mapped_puts rules puts) rise.0 in
    let there = mapped-last rules m puts rise.1 in
    omega (arith, here, there)

pub mapped-moments : (rules : List Rule) (puts : List Put) → AreMoments puts → AreMoments (mapped_puts rules puts)
mapped-moments rules puts moments = (
  mapped-rise rules 0 puts moments.0,
  let last = mapped-last rules 0 puts moments.0 in let fits = moments.1 in omega (arith, last, fits),
)

-- a track's marks alone
marks-moments : (s : Spec) (tape : List ℕ) → last_record_moment (track_records tape) < 2 ^ 64 →
    AreMoments (track_marks s 0 tape)
marks-moments s tape fits =
    subst AreMoments (append-nil (track_marks s 0 tape)) (track-moments s 0 tape [] fits)

pub filtered-moments : (rules : List Rule) (s : Spec) (tape : List ℕ) →
    last_record_moment (track_records tape) < 2 ^ 64 → AreMoments (filtered_marks rules s tape)
filtered-moments rules s tape fits = mapped-moments rules (track_marks s 0 tape) (marks-moments s tape fits)

-- they are the marks that the rules keep

pub filtered-signs : (rules : List Rule) (s : Spec) (tape : List ℕ) →
    signs_in (filtered_marks rules s tape) ≡ mapped_marks rules (signs_in (track_marks s 0 tape))
filtered-signs rules s tape = mapped-signs rules (track_marks s 0 tape)

filtered-suits : (rules : List Rule) (s : Spec) (tape : List ℕ) →
    suited (signs_in (filtered_marks rules s tape)) ≡ true
filtered-suits rules s tape =
    ap suited (filtered-signs rules s tape) ∙ mapped-suits rules (signs_in (track_marks s 0 tape)) (all-suit s 0 tape)

filtered-valid : (rules : List Rule) (s : Spec) (tape : List ℕ) → AreValid (signs_in (filtered_marks rules s tape))
filtered-valid rules s tape =
    subst AreValid (sym (filtered-signs rules s tape))
    (mapped-valid rules (signs_in (track_marks s 0 tape)) (track-valid s tape))

pub filtered-means : (rules : List Rule) (s : Spec) (tape : List ℕ) →
    denotation (signs_in (filtered_marks rules s tape)) ≡ mapped rules (track_den s 0 tape)
filtered-means rules s tape =
    ap denotation (filtered-signs rules s tape)
    ∙ (mapped-means rules (signs_in (track_marks s 0 tape)) ∙ ap (mapped rules) (track-means s tape))

pub filtered-read : (rules : List Rule) (s : Spec) (tape : List ℕ) →
    last_record_moment (track_records tape) < 2 ^ 64 →
    track_den Din 0 (filtered_tape rules s tape) ≡ mapped rules (track_den s 0 tape)
filtered-read rules s tape fits =
    meaning-carried (filtered_marks rules s tape) (filtered-moments rules s tape fits) (filtered-suits rules s tape)
    (filtered-valid rules s tape) ∙ filtered-means rules s tape
