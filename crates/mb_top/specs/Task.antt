-- What a command comes to once the rules that it takes are known.
--
--   Task                a command, a filter with its rules
--   with_rules rules c  that of a command, with these rules where it takes any
use Rattle.std.specs.Prelude.{List}
use Rattle.mb_filter.specs.declared.rule.Rule.{Rule}
use Rattle.mb_words.specs.Command.{Command, CommandOf, Converting, Listing, Migrating, RecordingTape, PlayingFile}
use Rattle.mb_words.specs.Command.{GuardingTape, FilteringTape, RunningRig, Selftesting}

abbrev pub Task : Type 0
Task = CommandOf (List Rule)

abbrev pub with_rules : List Rule → Command → Task
with_rules rules (Converting tally first between last) = Converting tally first between last
with_rules rules (Listing traced s) = Listing traced s
with_rules rules Migrating = Migrating
with_rules rules (RecordingTape s) = RecordingTape s
with_rules rules PlayingFile = PlayingFile
with_rules rules (GuardingTape s) = GuardingTape s
with_rules rules (FilteringTape file s) = FilteringTape rules s
with_rules rules (RunningRig file) = RunningRig file
with_rules rules (Selftesting start count) = Selftesting start count
