use Rattle.std.proofs.Common.{[], refl}
use Rattle.mb_carrier.specs.Port.{ReaderStands, reader_spec}
use Rattle.std.proofs.Common.{ap, false}
use Rattle.mb_frames.specs.TapeSteps.{TapeState, parts_from}
use Rattle.mb_track.proofs.StandLemmas.{fresh-stands, fresh-told}
use Rattle.mb_track.proofs.track.TrackReader.new.Goals as goal

pub returns-clause-stands : goal.returns-clause-stands
returns-clause-stands c = λ next.
    fresh-stands (reader_spec c.new-2.result) (ReaderStands c.new-2.result) c.new.result c.args.track next
    c.new.ensures.stands c.new-2.ensures.stands

pub returns-clause-told : goal.returns-clause-told
returns-clause-told c =
    fresh-told (record {
      tape = c.new.result;
      reader = c.new-2.result;
      track = c.args.track;
      own = false;
      moment = 0;
    }) refl refl c.new.ensures.stands c.new-2.ensures.stands (ap (λ (t : TapeState). parts_from t []) c.new.ensures.fresh)
