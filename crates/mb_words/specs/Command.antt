-- What the words of a command line mean: the project's own.
--
--   CommandOf R             a conversion by two or more specs, the listing of a recording, a tape that is written once
--                           more in the second form, as a Standard MIDI File, with its notes ended or as rules have it,
--                           such a file as a tape, tapes merged as a rig has it, or a self-test; rules are given as R
--   Command                 the same with rules named by their file
--   CommandName             what it is called; name_word, the word
--   name_of c               its first word
--   asks_tally c            whether it is asked how many bytes cross each spec
--   options_of c            the words between its name and its specs: a file is its name, any word, and numbers are in
--                           decimal, without leading zeros
--   specs_of c              its specs
--   AreWordsOf words specs  each word names the spec at its place
--   Means words c           these words are that command
--   IsAlone c               its name is all of its words
use Rattle.std.specs.Prelude.{◌≡◌, ℕ, ◌<◌, ◌≤◌, ◌^◌, Bool, false, if◌then◌else◌, List, [], ◌∷◌, ◌++◌, length}
use Rattle.std.specs.Prelude.{codes, decimal}
use Rattle.mb_carrier.specs.Word.{IsWordOf}
use Rattle.mb_carrier.specs.declared.spec.Spec.{Spec}

pub data CommandOf (R : Type 0) : Type 0 where
  Converting : (tally : Bool) (first : Spec) (between : List Spec) (last : Spec) → CommandOf R
  Listing : (traced : Bool) (s : Spec) → CommandOf R
  Migrating : CommandOf R
  RecordingTape : (s : Spec) → CommandOf R
  PlayingFile : CommandOf R
  GuardingTape : (s : Spec) → CommandOf R
  FilteringTape : (rules : R) (s : Spec) → CommandOf R
  RunningRig : (file : List ℕ) → CommandOf R
  Selftesting : (start count : ℕ) → CommandOf R

abbrev pub Command : Type 0
Command = CommandOf (List ℕ)

pub data CommandName : Type 0 where
  ToConvert : CommandName
  ToTrace : CommandName
  ToCheck : CommandName
  ToMigrate : CommandName
  ToRecord : CommandName
  ToPlay : CommandName
  ToGuard : CommandName
  ToFilter : CommandName
  ToRun : CommandName
  ToSelftest : CommandName

abbrev pub name_word : CommandName → List ℕ
name_word ToConvert = codes "convert"
name_word ToTrace = codes "trace"
name_word ToCheck = codes "check"
name_word ToMigrate = codes "migrate"
name_word ToRecord = codes "record"
name_word ToPlay = codes "play"
name_word ToGuard = codes "guard"
name_word ToFilter = codes "filter"
name_word ToRun = codes "run"
name_word ToSelftest = codes "selftest"

-- `trace` prints marks and notes, `check` notes alone
abbrev pub listing_name : (traced : Bool) → CommandName
listing_name traced = if traced then ToTrace else ToCheck

abbrev pub command_name : {R : Type 0} → CommandOf R → CommandName
command_name (Converting tally first between last) = ToConvert
command_name (Listing traced s) = listing_name traced
command_name Migrating = ToMigrate
command_name (RecordingTape s) = ToRecord
command_name PlayingFile = ToPlay
command_name (GuardingTape s) = ToGuard
command_name (FilteringTape rules s) = ToFilter
command_name (RunningRig file) = ToRun
command_name (Selftesting start count) = ToSelftest

abbrev pub name_of : Command → List ℕ
name_of c = name_word (command_name c)

abbrev pub asks_tally : {R : Type 0} → CommandOf R → Bool
asks_tally (Converting tally first between last) = tally
asks_tally (Listing traced s) = false
asks_tally Migrating = false
asks_tally (RecordingTape s) = false
asks_tally PlayingFile = false
asks_tally (GuardingTape s) = false
asks_tally (FilteringTape rules s) = false
asks_tally (RunningRig file) = false
asks_tally (Selftesting start count) = false

abbrev pub options_of : Command → List (List ℕ)
options_of (Converting tally first between last) = if tally then codes "tally" ∷ [] else []
options_of (Listing traced s) = []
options_of Migrating = []
options_of (RecordingTape s) = []
options_of PlayingFile = []
options_of (GuardingTape s) = []
options_of (FilteringTape file s) = file ∷ []
options_of (RunningRig file) = file ∷ []
options_of (Selftesting start count) = decimal start ∷ decimal count ∷ []

abbrev pub specs_of : {R : Type 0} → CommandOf R → List Spec
specs_of (Converting tally first between last) = first ∷ (between ++ last ∷ [])
specs_of (Listing traced s) = s ∷ []
specs_of Migrating = []
specs_of (RecordingTape s) = s ∷ []
specs_of PlayingFile = []
specs_of (GuardingTape s) = s ∷ []
specs_of (FilteringTape rules s) = s ∷ []
specs_of (RunningRig file) = []
specs_of (Selftesting start count) = []

abbrev pub AreWordsOf : (words : List (List ℕ)) → List Spec → Type 0
AreWordsOf [] [] = Unit {0}
AreWordsOf [] (s ∷ specs) = ⊥
AreWordsOf (word ∷ words) [] = ⊥
AreWordsOf (word ∷ words) (s ∷ specs) = IsWordOf word s × AreWordsOf words specs

-- a chain has ten specs at most; a self-test starts below 2^31 and makes a million units at most
abbrev pub IsBuilt : Command → Type 0
IsBuilt (Converting tally first between last) = length between ≤ 8
IsBuilt (Listing traced s) = Unit {0}
IsBuilt Migrating = Unit {0}
IsBuilt (RecordingTape s) = Unit {0}
IsBuilt PlayingFile = Unit {0}
IsBuilt (GuardingTape s) = Unit {0}
IsBuilt (FilteringTape file s) = Unit {0}
IsBuilt (RunningRig file) = Unit {0}
IsBuilt (Selftesting start count) = (start < 2 ^ 31) × (count ≤ 1000000)

-- a command that is its name alone
pub record IsAlone (c : Command) : Type 0 where
  pub no_options : options_of c ≡ []
  pub no_specs : specs_of c ≡ []
  pub built : IsBuilt c

pub record Means (words : List (List ℕ)) (c : Command) : Type 0 where
  pub arguments : List (List ℕ)
  pub words_are : words ≡ name_of c ∷ (options_of c ++ arguments)
  pub are_specs : AreWordsOf arguments (specs_of c)
  pub built : IsBuilt c
