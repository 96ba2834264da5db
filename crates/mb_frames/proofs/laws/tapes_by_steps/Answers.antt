use Rattle.std.proofs.Common.{sym}
use Rattle.mb_frames.proofs.TapeLiteral.{tape-reads}
use Rattle.mb_frames.proofs.laws.tapes_by_steps.Goals as goal

pub returns-clause-parts : goal.returns-clause-parts
returns-clause-parts c = λ bytes. sym (tape-reads bytes).parts

pub returns-clause-ending : goal.returns-clause-ending
returns-clause-ending c = λ bytes. sym (tape-reads bytes).ending
