use Rattle.std.proofs.Common.{◌≡◌, ◌<◌, length}
use Rattle.std.specs.Prelude.{IfSome}
use Rattle.mb_merge.specs.Passing.{least_below}
use Rattle.mb_merge.proofs.waiting.least.Given as goal

abbrev pub invariant-loop-source : goal.invariant-loop-source
invariant-loop-source l = (l.best ≡ least_below l.sources l.source) × IfSome l.best (λ head.
    head.source < length l.sources)
