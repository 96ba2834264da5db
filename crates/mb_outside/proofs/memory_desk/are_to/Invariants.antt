use Rattle.std.proofs.Common.{◌≡◌, ◌↔◌, drop}
use Rattle.mb_outside.specs.MemoryDesk.{bytes_to}
use Rattle.mb_outside.proofs.memory_desk.are_to.Given as goal

-- what is left of the log against what is left of the bytes
abbrev pub invariant-entries : goal.invariant-entries
invariant-entries l = (bytes_to l.h l.log ≡ l.bytes) ↔ (bytes_to l.h (drop l.entry-index l.log) ≡ l.rest)
