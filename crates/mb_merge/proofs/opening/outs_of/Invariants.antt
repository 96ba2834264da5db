use Rattle.std.proofs.Common.{◌≡◌, ℕ, ◌<◌, false, get_or, length}
use Rattle.mb_merge.specs.Opening.{stands_in}
use Rattle.mb_merge.proofs.opening.outs_of.Given as goal

abbrev pub invariant-loop-out : goal.invariant-loop-out
invariant-loop-out l =
    (length l.outs ≡ 16) × ((k : ℕ) → k < l.out → get_or l.outs k false ≡ stands_in (l.source, k) l.routes)
