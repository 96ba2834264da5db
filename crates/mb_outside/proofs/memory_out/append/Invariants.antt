use Rattle.std.proofs.Common.{◌≡◌, ◌++◌, take, vec_capacity}
use Rattle.mb_outside.proofs.memory_out.append.Given as goal

abbrev pub invariant-bytes : goal.invariant-bytes
invariant-bytes l =
    record {
      all : l.all.items ≡ l.initial.all.items ++ take l.byte-index l.bytes;
      capacity : vec_capacity l.all ≡ vec_capacity l.initial.all;
    }
