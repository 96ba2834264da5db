-- The end of a run that a stop at a link is.
use Rattle.std.specs.Prelude.{ℕ}
use Rattle.mb_rig.specs.declared.ending.RigEnd.{RigEnd}
use Rattle.mb_rig.specs.declared.ending.RigEnd.TheVariants as end
use Rattle.mb_rig.specs.declared.feed.RunStop.{RunStop}
use Rattle.mb_rig.specs.declared.feed.RunStop.TheVariants as stop
use Rattle.mb_rig.specs.declared.link.LinkStop.{LinkStop}
use Rattle.mb_rig.specs.declared.link.LinkStop.TheVariants as why

abbrev pub end_at : (link : ℕ) → LinkStop → RigEnd
end_at link why.ReadFault = end.ReadFault
end_at link why.TooLong = end.TooLong link
end_at link (why.BadTape fault) = end.BadTape link fault

abbrev pub end_by : (link : ℕ) → RunStop → RigEnd
end_by link stop.WriteFault = end.WriteFault
end_by link (stop.Link reason) = end_at link reason
