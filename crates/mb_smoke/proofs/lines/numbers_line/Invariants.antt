use Rattle.std.proofs.Common.{◌≡◌, ◌+◌, ◌*◌, ◌≤◌, ◌++◌, length}
use Rattle.std.specs.Prelude.{flat_map}
use Rattle.arrayvec.specs.ArrayVec.{array_vec_len}
use Rattle.mb_smoke.specs.Texts.{spaced_number}
use Rattle.mb_smoke.proofs.lines.numbers_line.Given as goal

abbrev pub invariant-numbers : goal.invariant-numbers
invariant-numbers l =
    record {
      text : l.line.items ++ flat_map spaced_number l.rest ≡ l.word ++ flat_map spaced_number l.numbers;
      len : array_vec_len l.line + 21 * length l.rest ≤ 7 + 21 * length l.numbers;
    }

abbrev pub decreases-numbers : goal.decreases-numbers
decreases-numbers l = length l.rest
