use Rattle.std.proofs.Common.{[]}
use Rattle.mb_frames.specs.Tapes.{tape_whole}
use Rattle.mb_carrier.specs.Carrier.{known, whole}
use Rattle.mb_track.specs.Track.{recording, track_records}
use Rattle.mb_track.specs.TrackReading.{track_spec}
use Rattle.mb_track.proofs.StandLemmas.{cut-then, cut-else}
use Rattle.mb_track.proofs.track.TrackReader.partial.Goals as goal

pub returns-then-partial-clause-law : goal.returns-then-partial-clause-law
returns-then-partial-clause-law c = λ bytes t.
    let r = c.args.self.now in
    let st = t.stands [] in
    cut-then (tape_whole bytes) (whole (track_spec r) (recording r.track (track_records bytes))) c.partial.result
    (c.partial.ensures.whole bytes st.parts st.of_tape) c.if-partial.true

pub returns-else-partial-clause-law : goal.returns-else-partial-clause-law
returns-else-partial-clause-law c = λ bytes t.
    let r = c.args.self.now in
    let recorded = recording r.track (track_records bytes) in
    let st = t.stands [] in
    cut-else (tape_whole bytes) (whole (track_spec r) recorded) c.partial.result c.partial-else-partial.result
    (c.partial.ensures.whole bytes st.parts st.of_tape) c.if-partial.false
    (c.partial-else-partial.ensures.law recorded (known (track_spec r) recorded) t.of_reader)
