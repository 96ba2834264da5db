use Rattle.std.proofs.Common.{◌≡◌, ℕ, ◌+◌, ◌*◌, List, length}
use Rattle.mb_din.specs.State.{owed}
use Rattle.mb_smoke.specs.SumOut.{ReadStands}
use Rattle.mb_smoke.proofs.SumLemmas.{Midway}
use Rattle.mb_smoke.proofs.sum_out.read_piece.Given as goal

abbrev pub invariant-events : goal.invariant-events
invariant-events l =
    record {
      offset : l.reader.offset + length l.rest ≡ l.initial.reader.offset + length l.piece;
      along : (bytes : List ℕ) → ReadStands l.initial.reader l.initial.counts bytes →
          Midway l.reader l.counts bytes l.piece l.rest;
    }

abbrev pub decreases-events : goal.decreases-events
decreases-events l = 2 * length l.rest + owed l.reader
