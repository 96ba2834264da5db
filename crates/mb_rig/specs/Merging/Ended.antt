-- What a run leaves, at its end and where it stops.
--
--   sources_of s tapes       what each link reads, by the bytes of the tapes
--   puts_to routes out ps    the marks that passed to an out, each at the moment of its passing
--   put_where goes put ps    a list behind a mark, if it goes there
--   turns_in signs           the marks that aren't real-time
--   IsMerged s ss report     the report is merged from the sources, and in order
--   IsMergedFront s ss r     where a run stopped: fronts of each source's lines, in order
-- MeansSoFar signs lines what the marks at an out mean: what the lines to it mean, and a last broken SysEx where one
--                            is open there
use Rattle.std.specs.Prelude.{◌≡◌, ℕ, ◌+◌, Bool, true, false, not, List, [], ◌∷◌, ◌++◌, map, filter, Option}
use Rattle.mb_message.specs.Front.{IsFront}
use Rattle.mb_message.specs.Signs.{Sign}
use Rattle.mb_stream.specs.Puts.{Put, At}
use Rattle.mb_stream.specs.Denotation.{denotation, left_open}
use Rattle.mb_rig.specs.RigText.{RigPort, Setup}
use Rattle.mb_rig.specs.Merging.Lines.{Line, Source, marks_of}
use Rattle.mb_rig.specs.Merging.Report.{Passing, goes}
use Rattle.mb_rig.specs.Merging.Merged.{AreOfSources, AreFrontsOfSources, items_of, realtimes_of, realtimes_merged}
use Rattle.mb_rig.specs.Merging.Orderly.{is_orderly}
use Rattle.mb_rig.specs.Merging.Tags.{is_realtime_sign}
use Rattle.mb_rig.specs.Merging.Playing.{PassedTag}
use Rattle.mb_rig.specs.Merging.Course.{Links}

abbrev pub sources_from : (at : ℕ) → List RigPort → (tapes : ℕ → List ℕ) → List Source
sources_from at [] tapes = []
sources_from at (p ∷ ps) tapes =
    record { spec = p.spec; track = p.track; tape = tapes at } ∷ sources_from (at + 1) ps tapes

abbrev pub sources_of : Setup → (tapes : ℕ → List ℕ) → List Source
sources_of s tapes = sources_from 0 s.ins tapes

abbrev pub put_of : PassedTag → Put
put_of x = At x.moment x.tag.sign

abbrev pub puts_to : List (ℕ × ℕ) → (out : ℕ) → List PassedTag → List Put
puts_to routes out ps = map put_of (filter (λ (x : PassedTag). goes routes x.tag.source out) ps)

-- a list behind a mark that passes, if it goes there
abbrev pub put_where : Bool → Put → List Put → List Put
put_where true put puts = puts ++ put ∷ []
put_where false put puts = puts

-- the marks that aren't real-time
abbrev pub turns_in : List Sign → List Sign
turns_in signs = filter (λ (m : Sign). not (is_realtime_sign m)) signs

pub record IsMerged (s : Setup) (sources : List Source) (report : List Passing) : Type 0 where
  pub lines : AreOfSources 0 sources report
  pub realtimes : realtimes_merged s.routes report ≡ true
  pub orderly : is_orderly s.routes report ≡ true

pub record IsMergedFront (s : Setup) (sources : List Source) (report : List Passing) : Type 0 where
  pub lines : AreFrontsOfSources 0 sources report
  pub realtimes : realtimes_merged s.routes report ≡ true
  pub orderly : is_orderly s.routes report ≡ true

pub record MeansSoFar (signs : List Sign) (lines : List Line) : Type 0 where
  pub open_data : Option (List ℕ)
  pub items : (denotation signs).items ≡ items_of lines ++ left_open open_data
  pub realtimes : (denotation signs).realtimes ≡ realtimes_of 0 lines

-- The marks given of each link are all those of its source, or a front of them.
abbrev pub AreGiven : Links → (at : ℕ) → List Source → Type 0
AreGiven links at [] = Unit {0}
AreGiven links at (source ∷ rest) = (links.given at ≡ marks_of source) × AreGiven links (at + 1) rest

abbrev pub AreGivenFronts : Links → (at : ℕ) → List Source → Type 0
AreGivenFronts links at [] = Unit {0}
AreGivenFronts links at (source ∷ rest) = IsFront (links.given at) (marks_of source) × AreGivenFronts links (at + 1)
    rest
