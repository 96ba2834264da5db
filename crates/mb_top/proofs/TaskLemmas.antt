-- What holds of a command with its rules is what holds of it, where rules don't matter.
use Rattle.std.proofs.Common.{◌≡◌, ℕ, Bool, true, false, List, [], ◌∷◌, refl, sym, inl, inr}
use Rattle.mb_outside.specs.Contents.{Contents}
use Rattle.mb_filter.specs.declared.rule.Rule.{Rule}
use Rattle.mb_carrier.specs.declared.spec.Spec.{Spec}
use Rattle.mb_words.specs.Command.{Command, Converting, Listing, Migrating, RecordingTape, PlayingFile, GuardingTape}
use Rattle.mb_words.specs.Command.{FilteringTape, RunningRig, Selftesting}
use Rattle.mb_words.specs.Meaning.{converting}
use Rattle.mb_top.specs.Output.{HasNotes, HasNoNotes, ReadsOne, is_whole, may_want_memory, reads_from, reads_tape, rewrites}
use Rattle.mb_top.specs.Output.{takes_file, takes_rules, writes_at_stop}
use Rattle.mb_top.specs.Answer.{ByRules, Did, DidCommand, DidRun, EndsAs, GotNone, GotRules}
use Rattle.mb_top.specs.Ran.{EndsCommand}
use Rattle.mb_top.specs.Task.{Task, with_rules}
use Rattle.mb_top.specs.declared.status.Status.{Status}

wrong : true ≡ false → ⊥
wrong e = cc

pub rewrites-task : (rules : List Rule) (c : Command) → rewrites (with_rules rules c) ≡ rewrites c
rewrites-task rules (Converting tally first between last) = refl
rewrites-task rules (Listing traced s) = refl
rewrites-task rules Migrating = refl
rewrites-task rules (RecordingTape s) = refl
rewrites-task rules PlayingFile = refl
rewrites-task rules (GuardingTape s) = refl
rewrites-task rules (FilteringTape file s) = refl
rewrites-task rules (RunningRig file) = refl
rewrites-task rules (Selftesting start count) = refl

pub tape-task : (rules : List Rule) (c : Command) → reads_tape (with_rules rules c) ≡ reads_tape c
tape-task rules (Converting tally first between last) = refl
tape-task rules (Listing traced s) = refl
tape-task rules Migrating = refl
tape-task rules (RecordingTape s) = refl
tape-task rules PlayingFile = refl
tape-task rules (GuardingTape s) = refl
tape-task rules (FilteringTape file s) = refl
tape-task rules (RunningRig file) = refl
tape-task rules (Selftesting start count) = refl

pub memory-task : (rules : List Rule) (c : Command) → may_want_memory (with_rules rules c) ≡ may_want_memory c
memory-task rules (Converting tally first between last) = refl
memory-task rules (Listing traced s) = refl
memory-task rules Migrating = refl
memory-task rules (RecordingTape s) = refl
memory-task rules PlayingFile = refl
memory-task rules (GuardingTape s) = refl
memory-task rules (FilteringTape file s) = refl
memory-task rules (RunningRig file) = refl
memory-task rules (Selftesting start count) = refl

pub quiet-task : (rules : List Rule) (c : Command) → writes_at_stop (with_rules rules c) ≡ writes_at_stop c
quiet-task rules (Converting tally first between last) = refl
quiet-task rules (Listing traced s) = refl
quiet-task rules Migrating = refl
quiet-task rules (RecordingTape s) = refl
quiet-task rules PlayingFile = refl
quiet-task rules (GuardingTape s) = refl
quiet-task rules (FilteringTape file s) = refl
quiet-task rules (RunningRig file) = refl
quiet-task rules (Selftesting start count) = refl

pub takes-task : (rules : List Rule) (c : Command) → takes_rules (with_rules rules c) ≡ takes_rules c
takes-task rules (Converting tally first between last) = refl
takes-task rules (Listing traced s) = refl
takes-task rules Migrating = refl
takes-task rules (RecordingTape s) = refl
takes-task rules PlayingFile = refl
takes-task rules (GuardingTape s) = refl
takes-task rules (FilteringTape file s) = refl
takes-task rules (RunningRig file) = refl
takes-task rules (Selftesting start count) = refl

pub reads-task : (rules : List Rule) (c : Command) (handle : ℕ) →
    reads_from (with_rules rules c) handle ≡ reads_from c handle
reads-task rules (Converting tally first between last) handle = refl
reads-task rules (Listing traced s) handle = refl
reads-task rules Migrating handle = refl
reads-task rules (RecordingTape s) handle = refl
reads-task rules PlayingFile handle = refl
reads-task rules (GuardingTape s) handle = refl
reads-task rules (FilteringTape file s) handle = refl
reads-task rules (RunningRig file) handle = refl
reads-task rules (Selftesting start count) handle = refl

pub whole-task : (rules : List Rule) (c : Command) (input : List ℕ) →
    is_whole (with_rules rules c) input ≡ is_whole c input
whole-task rules (Converting tally first between last) input = refl
whole-task rules (Listing traced s) input = refl
whole-task rules Migrating input = refl
whole-task rules (RecordingTape s) input = refl
whole-task rules PlayingFile input = refl
whole-task rules (GuardingTape s) input = refl
whole-task rules (FilteringTape file s) input = refl
whole-task rules (RunningRig file) input = refl
whole-task rules (Selftesting start count) input = refl

pub converting-task : (rules : List Rule) (tally : Bool) (specs : List Spec) →
    with_rules rules (converting tally specs) ≡ converting tally specs
converting-task rules tally [] = refl
converting-task rules tally (first ∷ []) = refl
converting-task rules tally (first ∷ s ∷ specs) = refl

-- commands that take no rules and no rig

pub plain-rewrites : (c : Command) → rewrites c ≡ true → takes_file c ≡ false
plain-rewrites (Converting tally first between last) e = refl
plain-rewrites (Listing traced s) e = refl
plain-rewrites Migrating e = refl
plain-rewrites (RecordingTape s) e = refl
plain-rewrites PlayingFile e = refl
plain-rewrites (GuardingTape s) e = refl
plain-rewrites (FilteringTape file s) e = absurd (wrong (sym e))
plain-rewrites (RunningRig file) e = absurd (wrong (sym e))
plain-rewrites (Selftesting start count) e = refl

pub plain-reader : (c : Command) (s : Spec) → ReadsOne c s → takes_file c ≡ false
plain-reader (Converting tally first between last) t e = refl
plain-reader (Listing traced s) t e = refl
plain-reader Migrating t e = refl
plain-reader (RecordingTape s) t e = refl
plain-reader PlayingFile t e = refl
plain-reader (GuardingTape s) t e = refl
plain-reader (FilteringTape file s) t e = absurd e
plain-reader (RunningRig file) t e = absurd e
plain-reader (Selftesting start count) t e = refl

pub reader-task : (c : Command) (s : Spec) → ReadsOne c s → ReadsOne (with_rules [] c) s
reader-task (Converting tally first between last) t e = e
reader-task (Listing traced s) t e = e
reader-task Migrating t e = e
reader-task (RecordingTape s) t e = e
reader-task PlayingFile t e = e
reader-task (GuardingTape s) t e = e
reader-task (FilteringTape file s) t e = e
reader-task (RunningRig file) t e = e
reader-task (Selftesting start count) t e = e

pub notes-task : (c : Command) (input : List ℕ) → HasNotes (with_rules [] c) input → HasNotes c input
notes-task (Converting tally first between last) input h = h
notes-task (Listing true s) input h = h
notes-task (Listing false s) input h = h
notes-task Migrating input h = h
notes-task (RecordingTape s) input h = h
notes-task PlayingFile input h = h
notes-task (GuardingTape s) input h = h
notes-task (FilteringTape file s) input h = h
notes-task (RunningRig file) input h = h
notes-task (Selftesting start count) input h = h

pub no_notes-task : (c : Command) (input : List ℕ) → HasNoNotes (with_rules [] c) input → HasNoNotes c input
no_notes-task (Converting tally first between last) input h = h
no_notes-task (Listing true s) input h = h
no_notes-task (Listing false s) input h = h
no_notes-task Migrating input h = h
no_notes-task (RecordingTape s) input h = h
no_notes-task PlayingFile input h = h
no_notes-task (GuardingTape s) input h = h
no_notes-task (FilteringTape file s) input h = h
no_notes-task (RunningRig file) input h = h
no_notes-task (Selftesting start count) input h = h

pub got-plain : (c : Command) (before after : Contents) → takes_file c ≡ false → GotRules c before after []
got-plain (Converting tally first between last) before after e = tt
got-plain (Listing traced s) before after e = tt
got-plain Migrating before after e = tt
got-plain (RecordingTape s) before after e = tt
got-plain PlayingFile before after e = tt
got-plain (GuardingTape s) before after e = tt
got-plain (FilteringTape file s) before after e = absurd (wrong e)
got-plain (RunningRig file) before after e = absurd (wrong e)
got-plain (Selftesting start count) before after e = tt

none-plain : (c : Command) (before after : Contents) (status : Status) → takes_file c ≡ false →
    GotNone c before after status → ⊥
none-plain (Converting tally first between last) before after status e h = h
none-plain (Listing traced s) before after status e h = h
none-plain Migrating before after status e h = h
none-plain (RecordingTape s) before after status e h = h
none-plain PlayingFile before after status e h = h
none-plain (GuardingTape s) before after status e h = h
none-plain (FilteringTape file s) before after status e h = wrong e
none-plain (RunningRig file) before after status e h = h
none-plain (Selftesting start count) before after status e h = h

run-plain : (c : Command) (limit : ℕ) (before after : Contents) (tally : List ℕ) (status : Status) →
    takes_file c ≡ false → DidRun c limit before after tally status → ⊥
run-plain (Converting tally first between last) limit before after said status e h = h
run-plain (Listing traced s) limit before after said status e h = h
run-plain Migrating limit before after said status e h = h
run-plain (RecordingTape s) limit before after said status e h = h
run-plain PlayingFile limit before after said status e h = h
run-plain (GuardingTape s) limit before after said status e h = h
run-plain (FilteringTape file s) limit before after said status e h = h
run-plain (RunningRig file) limit before after said status e h = wrong e
run-plain (Selftesting start count) limit before after said status e h = h

holds-plain : (c : Command) (got : List Rule → Type 0) (claim : Task → Type 0) → takes_file c ≡ false →
    ByRules c got claim → claim (with_rules [] c)
holds-plain (Converting tally first between last) got claim e b = b.holds
holds-plain (Listing traced s) got claim e b = b.holds
holds-plain Migrating got claim e b = b.holds
holds-plain (RecordingTape s) got claim e b = b.holds
holds-plain PlayingFile got claim e b = b.holds
holds-plain (GuardingTape s) got claim e b = b.holds
holds-plain (FilteringTape file s) got claim e b = absurd (wrong e)
holds-plain (RunningRig file) got claim e b = absurd (wrong e)
holds-plain (Selftesting start count) got claim e b = b.holds

pub did-plain : (c : Command) (limit : ℕ) (before after : Contents) (tally : List ℕ) (status : Status) →
    takes_file c ≡ false → DidCommand c limit before after tally status →
    Did (with_rules [] c) limit before after tally status
did-plain c limit before after tally status plain d = elim d [
  | inl b ↦ holds-plain c (GotRules c before after) (λ t. Did t limit before after tally status) plain b
  | inr other ↦ elim other [
    | inl none ↦ absurd (none-plain c before after status plain none.1)
    | inr run ↦ absurd (run-plain c limit before after tally status plain run)
  ]
]

pub ends-plain : (c : Command) (limit : ℕ) (before start : Contents) (input output tally : List ℕ) (status : Status) →
    takes_file c ≡ false → EndsCommand c limit before start input output tally status →
    EndsAs (with_rules [] c) limit (before.left 0) input output tally status
ends-plain c limit before start input output tally status plain d = elim d [
  | inl b ↦ holds-plain c (GotRules c before start)
      (λ t. EndsAs t limit (before.left 0) input output tally status) plain b
  | inr none ↦ absurd (none-plain c before start status plain none.1)
]
