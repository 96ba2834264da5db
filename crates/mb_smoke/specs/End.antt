-- How a self-test ended.
--
--   wants_memory end   there was no memory for it
use Rattle.std.specs.Prelude.{Bool, true, false}
use Rattle.mb_smoke.specs.declared.on_desk.SmokeEnd.{SmokeEnd}
use Rattle.mb_smoke.specs.declared.on_desk.SmokeEnd.TheVariants.{Done, WriteFault, Memory}

abbrev pub wants_memory : SmokeEnd → Bool
wants_memory Done = false
wants_memory WriteFault = false
wants_memory (Memory memory) = true
