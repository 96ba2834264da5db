use Rattle.std.proofs.Common.{◌∙◌, sym, ap}
use Rattle.mb_stream.specs.ReaderLaw.{told_by}
use Rattle.mb_carrier.specs.Step.{seen_in}
use Rattle.mb_carrier.specs.declared.step.PortStep.{PortStep}
use Rattle.mb_track.specs.Track.{recording, track_records}
use Rattle.mb_track.proofs.StandLemmas.{end-told}
use Rattle.mb_track.proofs.track.TrackReader.finish.Goals as goal

pub returns-in-Some-Ev-clause-told : goal.returns-in-Some-Ev-clause-told
returns-in-Some-Ev-clause-told c = λ bytes t.
    end-told c.args.self.now bytes c.in-Some-Ev.ev t
    (sym (ap (λ (z : PortStep). told_by (seen_in z)) c.in-Some-Ev.field-0-is)
    ∙ c.in-Some-Ev.ensures.told (recording c.args.self.now.track (track_records bytes)) t.of_reader)
