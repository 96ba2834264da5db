use Rattle.std.proofs.Common.{refl}
use Rattle.mb_frames.proofs.Bytewise.{new-stands}
use Rattle.mb_frames.proofs.frames.Frames.new.Goals as goal

pub returns-clause-stands : goal.returns-clause-stands
returns-clause-stands c = new-stands _ refl
