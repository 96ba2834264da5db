use Rattle.std.proofs.Common.{◌≡◌, ◌+◌, ◌++◌}
use Rattle.arrayvec.specs.ArrayVec.{array_vec_len}
use Rattle.mb_make.specs.Generated.{data_bytes, state_after}
use Rattle.mb_make.proofs.unit.put_data.Given as goal

abbrev pub invariant-data : goal.invariant-data
invariant-data l =
    record {
      bytes : l.unit.items ++ data_bytes l.left l.draws.state
          ≡ l.initial.unit.items ++ data_bytes l.count l.initial.draws.state;
      state : state_after l.left l.draws.state ≡ state_after l.count l.initial.draws.state;
      len : array_vec_len l.unit + l.left ≡ array_vec_len l.initial.unit + l.count;
    }

abbrev pub decreases-data : goal.decreases-data
decreases-data l = l.left
