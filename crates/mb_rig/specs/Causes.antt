-- When a run stops: a fault of reading or of writing was counted exactly where the stop tells of one.
--
--   Faulted was now         a count rose
--   LinkCause reads reads_now stop                      of a stop at a link
--   StopCause reads reads_now writes writes_now stop    of a stop in a step
--   EndCause reads reads_now writes writes_now end      of a run's end
use Rattle.std.specs.Prelude.{◌≡◌, ◌≤◌, ℕ}
use Rattle.mb_outside.specs.Cause.{Rose}
use Rattle.mb_rig.specs.declared.ending.RigEnd.{RigEnd}
use Rattle.mb_rig.specs.declared.ending.RigEnd.TheVariants as end
use Rattle.mb_rig.specs.declared.feed.RunStop.{RunStop}
use Rattle.mb_rig.specs.declared.feed.RunStop.TheVariants as stop
use Rattle.mb_rig.specs.declared.link.LinkStop.{LinkStop}
use Rattle.mb_rig.specs.declared.link.LinkStop.TheVariants as why

abbrev pub Faulted : (was now : ℕ) → Type 0
Faulted was now = Rose was now × (was ≤ now)

abbrev pub LinkCause : (reads reads_now : ℕ) → LinkStop → Type 0
LinkCause reads reads_now why.ReadFault = Faulted reads reads_now
LinkCause reads reads_now why.TooLong = reads_now ≡ reads
LinkCause reads reads_now (why.BadTape fault) = reads_now ≡ reads

abbrev pub StopCause : (reads reads_now writes writes_now : ℕ) → RunStop → Type 0
StopCause reads reads_now writes writes_now stop.WriteFault = (reads_now ≡ reads) × Faulted writes writes_now
StopCause reads reads_now writes writes_now (stop.Link reason) =
    LinkCause reads reads_now reason × (writes_now ≡ writes)

abbrev pub EndCause : (reads reads_now writes writes_now : ℕ) → RigEnd → Type 0
EndCause reads reads_now writes writes_now end.Done = (reads_now ≡ reads) × (writes_now ≡ writes)
EndCause reads reads_now writes writes_now end.Cut = (reads_now ≡ reads) × (writes_now ≡ writes)
EndCause reads reads_now writes writes_now end.ReadFault = Faulted reads reads_now × (writes_now ≡ writes)
EndCause reads reads_now writes writes_now end.WriteFault = (reads_now ≡ reads) × Faulted writes writes_now
EndCause reads reads_now writes writes_now (end.BadTape link fault) = (reads_now ≡ reads) × (writes_now ≡ writes)
EndCause reads reads_now writes writes_now (end.TooLong link) = (reads_now ≡ reads) × (writes_now ≡ writes)
EndCause reads reads_now writes writes_now (end.Memory memory) = (reads_now ≡ reads) × (writes_now ≡ writes)
