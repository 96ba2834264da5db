use Rattle.std.proofs.Common.{◌++◌}
use Rattle.mb_carrier.specs.Port.{ReaderStands}
use Rattle.mb_track.specs.TrackReading.{track_spec}
use Rattle.mb_track.proofs.EndLemmas.{none-told}
use Rattle.mb_track.proofs.FrontLemmas.{told-front, told-suits}
use Rattle.mb_track.proofs.StandLemmas.{stands-more}
use Rattle.mb_track.proofs.laws.readers_tell_a_front.Goals as goal

pub returns-clause-front : goal.returns-clause-front
returns-clause-front c = λ r taken next told st.
    told-front (track_spec r) (ReaderStands r.reader) r.tape r.track r.own r.moment taken next told st

pub returns-clause-suit : goal.returns-clause-suit
returns-clause-suit c = λ r taken next told st.
    told-suits (track_spec r) r.track (taken ++ next) told (returns-clause-front c r taken next told st)

pub returns-clause-more : goal.returns-clause-more
returns-clause-more c = stands-more

pub returns-clause-none : goal.returns-clause-none
returns-clause-none c = λ r taken next told st none.
    none-told (track_spec r) r.track (taken ++ next) told none (returns-clause-front c r taken next told st)
