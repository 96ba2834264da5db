use Rattle.mb_track.proofs.EndLemmas.{all-closed, no-end}
use Rattle.mb_track.proofs.laws.tracks_end.Goals as goal

pub returns-clause-closed : goal.returns-clause-closed
returns-clause-closed c = all-closed

pub returns-clause-no_end : goal.returns-clause-no_end
returns-clause-no_end c = no-end
