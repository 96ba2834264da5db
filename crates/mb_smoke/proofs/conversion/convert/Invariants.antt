use Rattle.std.proofs.Common.{◌≡◌, ℕ, ◌+◌, ◌≤◌, List, [], ◌++◌, length, take}
use Rattle.mb_make.specs.Generated.{generated}
use Rattle.mb_smoke.specs.Selftest.{ToConvert}
use Rattle.mb_smoke.proofs.conversion.convert.Given as goal

abbrev pub invariant-pieces : goal.invariant-pieces
invariant-pieces l =
    record {
      within : l.filled ≤ 512;
      along : (fed : List ℕ) × (generated l.start l.count ≡ fed ++ (take l.filled l.buffer ++ l.maker)) ×
          ToConvert l.chain l.out fed;
      last : l.filled ≡ 0 → l.maker ≡ [];
    }

abbrev pub decreases-pieces : goal.decreases-pieces
decreases-pieces l = length l.maker + l.filled
