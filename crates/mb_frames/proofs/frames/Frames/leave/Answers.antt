use Rattle.std.proofs.Common.{refl}
use Rattle.mb_frames.proofs.Bytewise.{behind-end}
use Rattle.mb_frames.proofs.frames.Frames.leave.Goals as goal

pub returns-clause-stands : goal.returns-clause-stands
returns-clause-stands c = behind-end c.args.self.now _ c.requires refl
