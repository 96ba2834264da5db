use Rattle.std.proofs.Common.{◌≡◌, ◌++◌, take, vec_capacity}
use Rattle.mb_outside.specs.MemoryDesk.{logged}
use Rattle.mb_outside.proofs.memory_desk.note_down.Given as goal

abbrev pub invariant-bytes : goal.invariant-bytes
invariant-bytes l =
    record {
      log : l.log.items ≡ l.initial.log.items ++ logged l.h (take l.byte-index l.bytes);
      capacity : vec_capacity l.log ≡ vec_capacity l.initial.log;
    }
