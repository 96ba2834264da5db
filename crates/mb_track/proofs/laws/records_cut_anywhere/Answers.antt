use Rattle.mb_track.proofs.FrontLemmas.{all-signs, all-suit, so-far-signs}
use Rattle.mb_track.proofs.laws.records_cut_anywhere.Goals as goal

pub returns-clause-so_far : goal.returns-clause-so_far
returns-clause-so_far c = so-far-signs

pub returns-clause-all : goal.returns-clause-all
returns-clause-all c = all-signs

pub returns-clause-suit : goal.returns-clause-suit
returns-clause-suit c = all-suit
