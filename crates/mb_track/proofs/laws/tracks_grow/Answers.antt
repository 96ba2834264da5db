use Rattle.mb_track.proofs.GrowLemmas.{track-grows}
use Rattle.mb_track.proofs.laws.tracks_grow.Goals as goal

pub returns : goal.returns
returns c = track-grows
