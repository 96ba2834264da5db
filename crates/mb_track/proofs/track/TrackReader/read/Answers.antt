use Rattle.std.proofs.Common.{sym, ap, ◌∙◌, take, subst}
use Rattle.mb_stream.specs.ReaderLaw.{answer}
use Rattle.mb_carrier.specs.Hop.{ReaderGoes}
use Rattle.mb_carrier.specs.Port.{ReaderStands, reader_moment}
use Rattle.mb_carrier.specs.Step.{seen_of}
use Rattle.mb_carrier.specs.declared.reader.PortReader.{PortReader}
use Rattle.mb_track.specs.TrackReading.{IsSameTrack, track_spec}
use Rattle.mb_track.specs.declared.track.TrackReader.{TrackReader}
use Rattle.mb_track.proofs.StandLemmas.{ReaderCall, if-none, of-none, read-all, read-goes}
use Rattle.mb_track.proofs.track.TrackReader.read.Goals as goal

same : (c : goal.After-take) → IsSameTrack c.args.self.now c.take.new.self
same c = record {
  spec = ap track_spec c.take.ensures.rest ∙ c.next-step.ensures.spec;
  track = ap (λ (r : TrackReader). r.track) c.take.ensures.rest;
  own = ap (λ (r : TrackReader). r.own) c.take.ensures.rest;
  moment = ap (λ (r : TrackReader). r.moment) c.take.ensures.rest;
}

call : (c : goal.After-take) → ReaderCall c.args.self.now c.take.new.self c.front_of-near.result.now
    c.next-step.new.input.now (answer (seen_of c.next-step.result)) (reader_moment c.next-step.new.self)
call c = λ recorded told st still.
    subst (λ (z : PortReader). ReaderGoes (track_spec c.args.self.now) (ReaderStands z)
    (reader_moment c.next-step.new.self) c.front_of-near.result.now c.next-step.new.input.now
    (answer (seen_of c.next-step.result)) recorded told)
    (sym (ap (λ (r : TrackReader). r.reader) c.take.ensures.rest)) (c.next-step.ensures.goes recorded told st still)

pub returns-clause-goes : goal.returns-clause-goes
returns-clause-goes c =
    let input = c.args.input.now.now in
    read-goes c.args.self.now c.take.new.self input c.take.new.input.now c.front_of-near.result.now
    c.next-step.new.input.now c.saturating_sub.result (answer (seen_of c.next-step.result))
    (reader_moment c.next-step.new.self) c.requires.own (same c)
    (c.front_of-near.ensures ∙ ap (λ n. take n input) c.to_come.ensures) c.saturating_sub.ensures c.take.ensures.front
    c.take.ensures.tape c.take.ensures.to_come (call c)

pub returns-clause-quiet : goal.returns-clause-quiet
returns-clause-quiet c =
    let input = c.args.input.now.now in
    if-none c.next-step.result _ (λ none.
    read-all c.args.self.now c.take.new.self input c.take.new.input.now c.front_of-near.result.now
    c.next-step.new.input.now c.saturating_sub.result (answer (seen_of c.next-step.result))
    (reader_moment c.next-step.new.self) c.requires.own (same c)
    (c.front_of-near.ensures ∙ ap (λ n. take n input) c.to_come.ensures) c.saturating_sub.ensures c.take.ensures.front
    c.take.ensures.tape c.take.ensures.to_come (call c) (ap (λ o. answer (seen_of o)) none)
    (of-none c.next-step.result _ none c.next-step.ensures.none)
    (of-none c.next-step.result _ none c.next-step.ensures.all_told))
