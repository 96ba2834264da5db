use Rattle.mb_frames.proofs.Steps.{parts-counted}
use Rattle.mb_frames.proofs.laws.reading_by_counting.Goals as goal

pub returns : goal.returns
returns c = parts-counted
