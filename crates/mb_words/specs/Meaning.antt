-- What a command that was read means.
--
--   place_of_specs tally    the place of a conversion's first spec among its words
--   meaning c               the command of the definitions
--   IsWithin c              its specs are within their carriers' numbers, a chain's are two to ten, and a self-test's
--                           numbers within theirs
use Rattle.std.specs.Prelude.{ℕ, ◌<◌, ◌≤◌, ◌^◌, Bool, if◌then◌else◌, true, false, List, [], ◌∷◌, length}
use Rattle.mb_carrier.specs.Word.{IsSpec, AreSpecs}
use Rattle.mb_carrier.specs.declared.spec.Spec.{Spec}
use Rattle.mb_carrier.specs.declared.spec.Spec.TheVariants as spec
use Rattle.mb_words.specs.Command as mean
use Rattle.mb_words.specs.declared.command.Command.{Command}
use Rattle.mb_words.specs.declared.command.Command.TheVariants.{Convert, Trace, Check, Migrate, RecordTape, Play, Guard}
use Rattle.mb_words.specs.declared.command.Command.TheVariants.{Filter, Run, Selftest}

abbrev pub place_of_specs : (tally : Bool) → ℕ
place_of_specs tally = if tally then 2 else 1

-- a list of specs as those before the last, and the last
abbrev pub front_of : Spec → List Spec → List Spec
front_of s [] = []
front_of s (t ∷ specs) = s ∷ front_of t specs

abbrev pub end_of : Spec → List Spec → Spec
end_of s [] = s
end_of s (t ∷ specs) = end_of t specs

-- one spec alone is no conversion
abbrev pub converting_from : {R : Type 0} (tally : Bool) (first : Spec) → List Spec → mean.CommandOf R
converting_from tally first [] = mean.Listing tally first
converting_from tally first (s ∷ specs) = mean.Converting tally first (front_of s specs) (end_of s specs)

abbrev pub converting : {R : Type 0} (tally : Bool) → List Spec → mean.CommandOf R
converting tally [] = mean.Listing tally spec.Din
converting tally (first ∷ specs) = converting_from tally first specs

abbrev pub meaning : Command → mean.Command
meaning (Convert tally specs) = converting tally specs.items
meaning (Trace s) = mean.Listing true s
meaning (Check s) = mean.Listing false s
meaning Migrate = mean.Migrating
meaning (RecordTape s) = mean.RecordingTape s
meaning Play = mean.PlayingFile
meaning (Guard s) = mean.GuardingTape s
meaning (Filter file s) = mean.FilteringTape file.now s
meaning (Run file) = mean.RunningRig file.now
meaning (Selftest start count) = mean.Selftesting start count

abbrev pub IsWithin : Command → Type 0
IsWithin (Convert tally specs) = AreSpecs specs.items × (2 ≤ length specs.items) × (length specs.items ≤ 10)
IsWithin (Trace s) = IsSpec s
IsWithin (Check s) = IsSpec s
IsWithin Migrate = Unit {0}
IsWithin (RecordTape s) = IsSpec s
IsWithin Play = Unit {0}
IsWithin (Guard s) = IsSpec s
IsWithin (Filter file s) = IsSpec s
IsWithin (Run file) = Unit {0}
IsWithin (Selftest start count) = (start < 2 ^ 31) × (count ≤ 1000000)
