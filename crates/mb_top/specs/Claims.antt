-- Claims about a call, each said of all commands of a kind; at the end of its input, where nothing else is said.
--
--   OfConversion ..     of a conversion: by its specs, what it read and what it wrote
--   OfConversionSoFar   the same before the end of its input, no write having failed
--   OfRewriting ..      of a command that writes all that the input so far gives, also where it is stopped, where no
--                       write failed: by what it read and wrote
--   OfFiltering ..      of a tape that is filtered by rules that were read: by them, its spec, what it read and wrote
--   OfRecording ..      of a tape that is recorded: by its spec, what it read and what it wrote
--   OfListing ..        of a listing: by whether it is traced, its spec, what it read and what it wrote
--   OfReader ..         of a command that reads one recording: by its spec, and all that there was to read
--   OfRun ..            of a rig that is run: by its file
--   IsTallied ..        the tally that a command asks for stands first on standard error
--   Unhindered ..       no call failed
use Rattle.std.specs.Prelude.{◌≡◌, ℕ, Bool, true, List, [], IsTrue}
use Rattle.mb_outside.specs.Contents.{Contents}
use Rattle.mb_carrier.specs.declared.spec.Spec.{Spec}
use Rattle.mb_filter.specs.declared.rule.Rule.{Rule}
use Rattle.mb_words.specs.Command.{Command, Converting, FilteringTape, Listing, RecordingTape, Means, RunningRig}
use Rattle.mb_words.specs.Command.{Selftesting}
use Rattle.mb_outside.specs.Cause.{Rose}
use Rattle.mb_message.specs.Front.{IsFront}
use Rattle.mb_top.specs.Output.{ReadsOne, tally_of}
use Rattle.mb_top.specs.RulesFile.{HasRules}
use Rattle.mb_top.specs.Answer.{taken_off, added_to, read_all, read_part}

abbrev pub OfConversion : (tells : Bool) (words : List (List ℕ)) (answer : ℕ) (before after : Contents)
    (claim : (first : Spec) (between : List Spec) (last : Spec) (read written : List ℕ) → Type 0) → Type 0
OfConversion tells words answer before after claim =
    (tally : Bool) (first : Spec) (between : List Spec) (last : Spec) → IsTrue tells →
    Means words (Converting tally first between last) → read_all answer ≡ true →
    claim first between last (taken_off 0 before after) (added_to 1 before after)

abbrev pub OfConversionSoFar : (tells : Bool) (words : List (List ℕ)) (answer : ℕ) (before after : Contents)
    (claim : (first : Spec) (between : List Spec) (last : Spec) (read written : List ℕ) → Type 0) → Type 0
OfConversionSoFar tells words answer before after claim =
    (tally : Bool) (first : Spec) (between : List Spec) (last : Spec) → IsTrue tells →
    Means words (Converting tally first between last) → read_part answer ≡ true →
    claim first between last (taken_off 0 before after) (added_to 1 before after)

abbrev pub OfRewriting : (tells : Bool) (words : List (List ℕ)) (answer : ℕ) (before after : Contents) (c : Command)
    (claim : (read written : List ℕ) → Type 0) → Type 0
OfRewriting tells words answer before after c claim =
    IsTrue tells → Means words c → (answer ≡ 4 → ⊥) → claim (taken_off 0 before after) (added_to 1 before after)

-- it wrote its tape's magic at least, so where it answers 3 and wrote nothing there were no rules
abbrev pub OfFiltering : (tells : Bool) (words : List (List ℕ)) (answer : ℕ) (before after : Contents)
    (claim : (rules : List Rule) (s : Spec) (read written : List ℕ) → Type 0) → Type 0
OfFiltering tells words answer before after claim =
    (file : List ℕ) (s : Spec) → IsTrue tells → Means words (FilteringTape file s) → (answer ≡ 14 → ⊥) →
    (answer ≡ 3 → added_to 1 before after ≡ [] → ⊥) →
    (rules : List Rule) × HasRules file before after rules
    × claim rules s (taken_off 0 before after) (added_to 1 before after)

abbrev pub OfRecording : (tells : Bool) (words : List (List ℕ)) (before after : Contents)
    (claim : (s : Spec) (read written : List ℕ) → Type 0) → Type 0
OfRecording tells words before after claim =
    (s : Spec) → IsTrue tells → Means words (RecordingTape s) →
    claim s (taken_off 0 before after) (added_to 1 before after)

abbrev pub OfListing : (tells : Bool) (words : List (List ℕ)) (answer : ℕ) (before after : Contents)
    (claim : (traced : Bool) (s : Spec) (read written : List ℕ) → Type 0) → Type 0
OfListing tells words answer before after claim =
    (traced : Bool) (s : Spec) → IsTrue tells → Means words (Listing traced s) → read_all answer ≡ true →
    claim traced s (taken_off 0 before after) (added_to 1 before after)

abbrev pub OfReader : (tells : Bool) (words : List (List ℕ)) (before : Contents)
    (claim : (c : Command) (s : Spec) (left : List ℕ) → Type 0) → Type 0
OfReader tells words before claim = (c : Command) (s : Spec) → IsTrue tells → Means words c → ReadsOne c s →
    claim c s (before.left 0)

abbrev pub OfSelftest : (tells : Bool) (words : List (List ℕ)) (claim : (start count : ℕ) → Type 0) → Type 0
OfSelftest tells words claim = (start count : ℕ) → IsTrue tells → Means words (Selftesting start count) →
    claim start count

abbrev pub OfRun : (tells : Bool) (words : List (List ℕ)) (claim : (file : List ℕ) → Type 0) → Type 0
OfRun tells words claim = (file : List ℕ) → IsTrue tells → Means words (RunningRig file) → claim file

abbrev pub IsTallied : (tells : Bool) (words : List (List ℕ)) (answer : ℕ) (before after : Contents) → Type 0
IsTallied tells words answer before after =
    (c : Command) → IsTrue tells → Means words c → read_all answer ≡ true →
    IsFront (tally_of c (taken_off 0 before after)) (added_to 2 before after)

pub record Unhindered (reads reads_now writes writes_now : ℕ) : Type 0 where
  pub reading : Rose reads reads_now → ⊥
  pub writing : Rose writes writes_now → ⊥
