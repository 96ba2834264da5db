use Rattle.std.proofs.Common.{◌≡◌, ◌+◌, ◌≤◌, length}
use Rattle.mb_text.specs.Text.{lines}
use Rattle.mb_rig.specs.RigText.{rig_from, rig_of}
use Rattle.mb_rig.specs.RigAnswer.{Begun}
use Rattle.mb_rig.proofs.draft.Draft.read.Given as goal

abbrev pub invariant-loop-line : goal.invariant-loop-line
invariant-loop-line l = record {
  whole : rig_of l.fn.text ≡ rig_from l.number l.rig (lines l.rest);
  begun : Begun (lines l.fn.text) (lines l.rest) l.rig;
  few : l.number + length l.rest ≤ 65537;
}

abbrev pub decreases-loop-line : goal.decreases-loop-line
decreases-loop-line l = length l.rest
