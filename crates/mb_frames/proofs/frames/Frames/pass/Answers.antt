use Rattle.std.proofs.Common.{◌-◌, ap}
use Rattle.mb_frames.specs.Reading.{Within}
use Rattle.mb_frames.proofs.Bytewise.{behind-content}
use Rattle.mb_frames.proofs.frames.Frames.pass.Goals as goal

pub returns-clause-stands : goal.returns-clause-stands
returns-clause-stands c =
    behind-content c.args.self.now _ c.args.count (ap (λ n. Within (n - c.args.count)) c.room.ensures) c.requires.some
    c.requires.room
