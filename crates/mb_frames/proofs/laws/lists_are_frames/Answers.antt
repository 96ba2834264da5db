use Rattle.std.proofs.Common.{◌∙◌, ◌++◌, ap}
use Rattle.std.specs.List.{flat_map}
use Rattle.mb_frames.specs.Frames.{frame_parts}
use Rattle.mb_frames.proofs.Cuts.{cut, parts-frames, parts-unfinished}
use Rattle.mb_frames.proofs.laws.lists_are_frames.Goals as goal

pub returns-clause-cut : goal.returns-clause-cut
returns-clause-cut c = cut

pub returns-clause-parts : goal.returns-clause-parts
returns-clause-parts c = λ contents rest is.
    parts-frames contents rest ∙ ap (λ z. flat_map frame_parts contents ++ z) (parts-unfinished rest is)
