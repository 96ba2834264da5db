-- What the reading of a rig's text answers.
--
--   line_seen line             what a line that was read says
--   Refuses text fault         a fault of the text, or of memory where memory is wanted
--   IsRefused n setup s fault  of one line
--   Begun all rest setup       a line was added, or none yet
use Rattle.std.specs.Prelude.{◌≡◌, ◌⊎◌, ℕ, Bool, true, false, ◌&&◌, nat_le, List, Some, None}
use Rattle.std.specs.List.{list_all}
use Rattle.mb_rig.specs.RigText.{Statement, Remark, Link, Outlet, Route, Unfit, Setup, no_setup, Outcome, Faulty}
use Rattle.mb_rig.specs.RigText.{rig_of, why_not, is_remark, begins_right, wants_memory}
use Rattle.mb_rig.specs.declared.line.Line.{Line}
use Rattle.mb_rig.specs.declared.line.Line.TheVariants as line
use Rattle.mb_rig.specs.declared.fault.RigFault.{RigFault}
use Rattle.mb_rig.specs.declared.fault.RigFault.TheVariants as fault

abbrev pub line_seen : Line → Statement
line_seen line.Remark = Remark
line_seen (line.Link name word file track) = Link name.now word.now file.now track
line_seen (line.Outlet name word file) = Outlet name.now word.now file.now
line_seen (line.Route from to) = Route from.now to.now
line_seen line.Unfit = Unfit

-- each byte is 21 to 7E
abbrev pub are_printed : List ℕ → Bool
are_printed bytes = list_all (λ b. nat_le 0x21 b && nat_le b 0x7e) bytes

abbrev pub has_printed : Statement → Bool
has_printed Remark = true
has_printed (Link name word file track) = are_printed name && are_printed file
has_printed (Outlet name word file) = are_printed name && are_printed file
has_printed (Route from to) = true
has_printed Unfit = true

abbrev pub Refuses : (text : List ℕ) → RigFault → Type 0
Refuses text (fault.Line n cause) = rig_of text ≡ Faulty n cause
Refuses text (fault.Memory memory) = wants_memory text ≡ true

-- memory is wanted for a right line that says something
abbrev pub IsRefused : (number : ℕ) → Setup → Statement → RigFault → Type 0
IsRefused number setup s (fault.Line n cause) = (n ≡ number) × (why_not setup s ≡ Some cause)
IsRefused number setup s (fault.Memory memory) = (why_not setup s ≡ None) × (is_remark s ≡ false)

abbrev pub IsFaulty : Outcome → RigFault → Type 0
IsFaulty o (fault.Line n cause) = o ≡ Faulty n cause
IsFaulty o (fault.Memory memory) = ⊥

abbrev pub IsMemory : RigFault → Type 0
IsMemory (fault.Line n cause) = ⊥
IsMemory (fault.Memory memory) = Unit {0}

abbrev pub Begun : (all rest : List (List ℕ)) → Setup → Type 0
Begun all rest setup = ((setup ≡ no_setup) × (begins_right all ≡ begins_right rest)) ⊎ (begins_right all ≡ true)
