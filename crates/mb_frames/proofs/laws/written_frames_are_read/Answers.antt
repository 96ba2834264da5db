use Rattle.mb_frames.proofs.Cuts.{frames-parts, frames-whole, whole-frames}
use Rattle.mb_frames.proofs.laws.written_frames_are_read.Goals as goal

pub returns-clause-parts : goal.returns-clause-parts
returns-clause-parts c = frames-parts

pub returns-clause-whole : goal.returns-clause-whole
returns-clause-whole c = frames-whole

pub returns-clause-only : goal.returns-clause-only
returns-clause-only c = whole-frames
