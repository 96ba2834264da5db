use Rattle.std.proofs.Common.{◌+◌, ◌-◌, ◌≤◌, length}
use Rattle.mb_fire.specs.Passed.{PassedOver}
use Rattle.mb_fire.proofs.PassedLemmas.{within}
use Rattle.mb_fire.proofs.passed.pass_quiet.Given as goal

abbrev pub invariant-quadlets : goal.invariant-quadlets
invariant-quadlets l = record {
  passed : PassedOver l.own l.fn.packet
      (within (l.fn.packet.offset + (length l.fn.input - length l.left)) l.place l.fn.packet.under.expected) l.fn.input
      l.left;
  shorter : length l.left ≤ length l.fn.input;
}

abbrev pub decreases-quadlets : goal.decreases-quadlets
decreases-quadlets l = length l.left
