use Rattle.std.proofs.Common.{◌≡◌, ℕ, List, ◌++◌, length}
use Rattle.mb_outside.specs.Taking.{Wrote}
use Rattle.mb_outside.proofs.desk_out.write_all.Given as goal

-- what is done and what is left are the piece, and the done part was written
abbrev pub invariant-writes : goal.invariant-writes
invariant-writes g l =
    let D = g.D.Desk in
    record {
      sound : D.write_faults l.desk ≡ D.write_faults l.initial.desk;
      wrote : (done : List ℕ) × (l.piece ≡ done ++ l.rest) × Wrote D.tells D.contents D.read_faults l.h l.initial.desk
          done l.desk;
    }

abbrev pub decreases-writes : goal.decreases-writes
decreases-writes g l = length l.rest
