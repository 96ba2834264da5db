use Rattle.std.proofs.Common.{◌≡◌}
use Rattle.mb_merge.specs.Opening.{links_of}
use Rattle.mb_merge.proofs.opening.sources_of.Given as goal

abbrev pub invariant-loop-source : goal.invariant-loop-source
invariant-loop-source l = l.made.items ≡ links_of l.source l.routes
