-- Inside the top call: what a command did before its answer was said.
--
--   Ran c ..               a task read these bytes and wrote those, and changed nothing else
--   CommandRan c ..        the same of a command, whose rules, if it takes any, were read before; one that reads nothing
--                          read none
--   RanEnd c bytes ..      the same at the end of an input of which what is known was written before
--   CommandDid c ..        that, or what the run of a rig did
--   RanWords words ..      the same for words, which may mean no command; DidWords, that or what the run of a rig did
--   Closed, HasClosed      the tally was told at the end
--   RanStop c bytes stop ..  the same where an input of which what is known was written is stopped
--   HasStopped ..          how the stopping itself went
--   Faulted quiet ..       a fault of reading or writing came exactly where the status tells of one, but for one of
--                          reading where what was written behind it failed, which isn't so of a command that is quiet
--   at_end cut noted       how a command ends at the end of its input
use Rattle.std.specs.Prelude.{◌≡◌, ℕ, ◌<◌, ◌≤◌, Bool, ◌||◌, true, false, List, [], ◌++◌, length, None, ◌⊎◌}
use Rattle.mb_outside.specs.Cause.{Rose}
use Rattle.mb_outside.specs.Contents.{Contents, after_read, after_write}
use Rattle.mb_message.specs.Front.{IsFront}
use Rattle.mb_filter.specs.declared.rule.Rule.{Rule}
use Rattle.mb_carrier.specs.declared.spec.Spec.{Spec}
use Rattle.mb_words.specs.Command.{Command, CommandOf, FilteringTape, RunningRig, Means}
use Rattle.mb_message.specs.Front.{IsPart}
use Rattle.mb_top.specs.Output.{live_output_of, output_of, stopped_output_of, may_want_memory, answers_notes, fault_of}
use Rattle.mb_top.specs.Output.{tally_of}
use Rattle.mb_top.specs.Output.{reads_tape, reads_file, reads_from, records, runs_rig, takes_rules, writes_at_stop}
use Rattle.mb_top.specs.RigFile.{RigDid}
use Rattle.mb_top.specs.TextFile.{Opened}
use Rattle.mb_top.specs.Task.{Task, with_rules}
use Rattle.mb_top.specs.declared.fault.Fault.TheVariants as fault
use Rattle.mb_top.specs.declared.status.Stop.{Stop}
use Rattle.mb_top.specs.Answer.{ByRules, EndsAs, GotNone, GotRules}
use Rattle.mb_top.specs.declared.status.Status.{Status}
use Rattle.mb_top.specs.declared.status.Status.TheVariants.{Done, Noted, Usage, Cut, Stopped, BadTape}
use Rattle.mb_top.specs.declared.status.Stop.TheVariants.{ReadFault, Refused, Faulty, TooLong}

-- standard input was read, standard output written, and a tally to standard error
abbrev pub written_of : (input output tally : List ℕ) → Contents → Contents
written_of input output tally c = after_write 2 tally (after_write 1 output (after_read 0 (length input) c))

pub record Ran (c : Task) (limit : ℕ) (before after : Contents) (status : Status) : Type 0 where
  pub input : List ℕ
  pub output : List ℕ
  pub tally : List ℕ
  pub contents : after ≡ written_of input output tally before
  pub front : IsFront input (before.left 0)
  pub within : length input ≤ limit
  pub ends : EndsAs c limit (before.left 0) input output tally status

-- nothing was read or written
abbrev pub RanNothing : (input output tally : List ℕ) → Type 0
RanNothing input output tally = (input ≡ []) × (output ≡ []) × (tally ≡ [])

-- what an answer says of a command, from the desk on that its rules left
abbrev pub EndsCommand : Command → (limit : ℕ) (before start : Contents) (input output tally : List ℕ) → Status → Type 0
EndsCommand c limit before start input output tally status =
    ByRules c (GotRules c before start) (λ t. EndsAs t limit (before.left 0) input output tally status)
    ⊎ (RanNothing input output tally × GotNone c before start status)

pub record CommandRan (c : Command) (limit : ℕ) (before after : Contents) (status : Status) : Type 0 where
  pub start : Contents
  pub opened : (start ≡ before) ⊎ ((file : List ℕ) × (s : Spec) × (c ≡ FilteringTape file s) × Opened before start file)
  pub input : List ℕ
  pub output : List ℕ
  pub tally : List ℕ
  pub contents : after ≡ written_of input output tally start
  pub front : IsFront input (before.left 0)
  pub unread : reads_from c 0 ≡ false → input ≡ []
  pub within : length input ≤ limit
  pub ends : EndsCommand c limit before start input output tally status

-- a rig that was run has its own
abbrev pub CommandDid : Command → (limit : ℕ) (before after : Contents) → Status → Type 0
CommandDid (RunningRig file) limit before after status = RigDid file limit before after status
CommandDid c limit before after status = CommandRan c limit before after status

pub record RanWords (words : List (List ℕ)) (limit : ℕ) (before after : Contents) (status : Status) : Type 0 where
  pub start : Contents
  pub opened : (start ≡ before)
      ⊎ ((file : List ℕ) × (s : Spec) × Means words (FilteringTape file s) × Opened before start file)
  pub input : List ℕ
  pub output : List ℕ
  pub tally : List ℕ
  pub contents : after ≡ written_of input output tally start
  pub front : IsFront input (before.left 0)
  pub nothing : status ≡ Usage → RanNothing input output tally
  pub unread : (c : Command) → Means words c → reads_from c 0 ≡ false → input ≡ []
  pub within : length input ≤ limit
  pub ends : (c : Command) → Means words c → EndsCommand c limit before start input output tally status

abbrev pub DidWords : (words : List (List ℕ)) (limit : ℕ) (before after : Contents) → Status → Type 0
DidWords words limit before after status =
    RanWords words limit before after status
    ⊎ ((file : List ℕ) × Means words (RunningRig file) × RigDid file limit before after status)

pub record Faulted (quiet : Type 0) (reads reads_now writes writes_now : ℕ) (status : Status) : Type 0 where
  pub reads_later : reads ≤ reads_now
  pub writes_later : writes ≤ writes_now
  pub read : status ≡ Stopped ReadFault → Rose reads reads_now
  pub write : status ≡ Stopped Refused → Rose writes writes_now
  pub unread : (status ≡ Stopped ReadFault → ⊥) → (status ≡ Stopped Refused → quiet) → reads_now ≡ reads
  pub unwritten : (status ≡ Stopped Refused → ⊥) → writes_now ≡ writes

abbrev pub at_end : (cut noted : Bool) → Status
at_end true noted = Cut
at_end false true = Noted
at_end false false = Done

-- the end of an input without a fault, of which what is known was written before
pub record RanEnd (c : Task) (bytes : List ℕ) (before after : Contents) (status : Status) : Type 0 where
  pub output : List ℕ
  pub tally : List ℕ
  pub contents : after ≡ after_write 2 tally (after_write 1 output before)
  pub ends : (limit : ℕ) → length bytes < limit → fault_of c bytes ≡ None →
      EndsAs c limit bytes bytes (live_output_of c bytes ++ output) tally status

-- an input that ended was told of: how many bytes crossed each spec, all of it or a part
pub record Closed (c : Task) (done : List ℕ → Type 0) (cut noted : Bool) (before after : Contents) (status : Status)
    : Type 0 where
  pub tally : List ℕ
  pub contents : after ≡ after_write 2 tally before
  pub ends : ((status ≡ at_end cut noted) × ((bytes : List ℕ) → done bytes → tally ≡ tally_of c bytes))
      ⊎ ((status ≡ Stopped Refused) × ((bytes : List ℕ) → done bytes → IsPart tally (tally_of c bytes)))

abbrev pub HasClosed : (closing : Status) (writes writes_now : ℕ) → Status → Type 0
HasClosed closing writes writes_now status =
    ((status ≡ closing) × (writes_now ≡ writes)) ⊎ ((status ≡ Stopped Refused) × Rose writes writes_now × (writes ≤ writes_now))

-- an input was stopped: what is owed then was written, or a part of what all of it gives
pub record RanStop (c : Task) (bytes : List ℕ) (stop : Stop) (before after : Contents) (status : Status) : Type 0
  where
    pub output : List ℕ
    pub contents : after ≡ after_write 1 output before
    pub ends : ((status ≡ Stopped stop) × (live_output_of c bytes ++ output ≡ stopped_output_of c bytes))
        ⊎ ((status ≡ Stopped Refused) × IsPart (live_output_of c bytes ++ output) (output_of c bytes))

-- it ends as it was stopped, or because what it still wrote was refused
abbrev pub HasStopped : Task → Stop → (writes writes_now : ℕ) → Status → Type 0
HasStopped c stop writes writes_now status =
    ((status ≡ Stopped stop) × (writes_now ≡ writes))
    ⊎ ((status ≡ Stopped Refused) × Rose writes writes_now × (writes ≤ writes_now) × (writes_at_stop c ≡ true))

-- want of memory is answered of commands alone that may want it, notes of `check` alone, what may be wrong of an input
-- of those that read one, a fault of a tape or of a file of those that read one, one of rules of those that take any,
-- and one of a rig of those that run one
abbrev pub MayAnswer : {R : Type 0} → CommandOf R → Status → Type 0
MayAnswer c Usage = ⊥
MayAnswer c Noted = answers_notes c ≡ true
MayAnswer c Cut = (reads_from c 0 || runs_rig c) ≡ true
MayAnswer c (Stopped ReadFault) = (reads_from c 0 || runs_rig c) ≡ true
MayAnswer c (Stopped TooLong) = (reads_from c 0 || runs_rig c) ≡ true
MayAnswer c (Stopped (Faulty (fault.Tape f))) = reads_tape c ≡ true
MayAnswer c (Stopped (Faulty (fault.File f))) = reads_file c ≡ true
MayAnswer c (Stopped (Faulty fault.LongTrack)) = records c ≡ true
MayAnswer c (Stopped (Faulty (fault.LongGap was now))) = records c ≡ true
MayAnswer c (Stopped (Faulty fault.Memory)) = may_want_memory c ≡ true
MayAnswer c (Stopped (Faulty (fault.Rules f))) = takes_rules c ≡ true
MayAnswer c (Stopped (Faulty (fault.Rig line cause))) = runs_rig c ≡ true
MayAnswer c (BadTape file f) = runs_rig c ≡ true
MayAnswer c _ = Unit {0}

-- the same of a command, whatever its rules
pub record CommandMay (c : Command) (status : Status) : Type 0 where
  pub rules : List Rule
  pub may : MayAnswer (with_rules rules c) status

pub record MayAnswerWords (words : List (List ℕ)) (status : Status) : Type 0 where
  pub usage : status ≡ Usage → (c : Command) → Means words c → ⊥
  pub other : (status ≡ Usage → ⊥) → (c : Command) × Means words c × CommandMay c status
