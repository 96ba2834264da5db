use Rattle.std.proofs.Common.{◌≡◌, [], take, drop}
use Rattle.mb_merge.specs.Opening.{route_fault}
use Rattle.mb_merge.proofs.opening.route_fault.Given as goal

abbrev pub invariant-loop-place : goal.invariant-loop-place
invariant-loop-place l = route_fault l.sources l.outs (take l.place l.routes) (drop l.place l.routes) ≡
    route_fault l.sources l.outs [] l.routes
