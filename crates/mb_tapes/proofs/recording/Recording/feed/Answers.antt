use Rattle.std.proofs.Common.{◌≡◌, None, Some, sym, subst}
use Rattle.mb_track.specs.declared.track.TrackReader.{TrackReader}
use Rattle.mb_tapes.proofs.RecordingLemmas.{Feeding, feeding-end, feeding-follows, feeding-full, feeding-heard}
use Rattle.mb_tapes.proofs.RecordingLemmas.{feeding-order, feeding-passed, feeding-start, over-of, told-goes}
use Rattle.mb_tapes.proofs.recording.Recording.feed.Goals as goal

pub steps-init : goal.steps-init
steps-init c = record {
  feeding = feeding-start c.args.self.now c.args.piece.now c.requires.stands.0 c.requires.stands.1;
}

pub put-requires-clause-follows : goal.put-requires-clause-follows
put-requires-clause-follows c =
    feeding-follows c.args.self.now c.steps.self.track c.next.new.self c.steps.self.file c.args.piece.now
    c.steps.rest.now c.next.new.input.now c.requires.stands.0 c.in-Ok-Some-Heard.ev c.requires.stands.1
    c.steps.invariant.feeding
    (told-goes c.steps.self.track c.next.new.self c.steps.rest.now c.next.new.input.now
    c.in-Ok-Some-Heard.is c.in-Ok-Some-Heard.field-0-is c.in-Ok-Some-Heard.field-0-0-is c.next.ensures.goes)

pub put-requires-clause-order : goal.put-requires-clause-order
put-requires-clause-order c =
    feeding-order c.args.self.now c.steps.self.track c.next.new.self c.steps.self.file c.args.piece.now
    c.steps.rest.now c.requires.stands.0 c.requires.stands.1 c.steps.invariant.feeding c.next.ensures.rises

pub returns-in-Err-put-clause-full : goal.returns-in-Err-put-clause-full
returns-in-Err-put-clause-full c = λ bytes st.
    feeding-full c.args.self.now c.steps.self.track c.next.new.self c.steps.self.file c.args.piece.now
    c.steps.rest.now c.next.new.input.now c.in-Ok-Some-Heard.ev c.in-Err-put.full
    c.steps.invariant.feeding c.next.ensures.spec c.next.ensures.track
    (told-goes c.steps.self.track c.next.new.self c.steps.rest.now c.next.new.input.now
    c.in-Ok-Some-Heard.is c.in-Ok-Some-Heard.field-0-is c.in-Ok-Some-Heard.field-0-0-is c.next.ensures.goes)
    c.in-Err-put.ensures.full bytes st

pub steps-preserved-in_default : goal.steps-preserved-in_default
steps-preserved-in_default c = record {
  feeding =
      subst (λ (z : TrackReader). Feeding c.args.self.now z c.put.new.self.file c.args.piece.now c.next.new.input.now)
      (sym c.put.ensures.track)
      (feeding-heard c.args.self.now c.steps.self.track c.next.new.self c.steps.self.file c.put.new.self.file
      c.args.piece.now c.steps.rest.now c.next.new.input.now c.in-Ok-Some-Heard.ev c.steps.invariant.feeding
      c.next.ensures.spec c.next.ensures.track c.next.ensures.end
      (told-goes c.steps.self.track c.next.new.self c.steps.rest.now c.next.new.input.now
      c.in-Ok-Some-Heard.is c.in-Ok-Some-Heard.field-0-is c.in-Ok-Some-Heard.field-0-0-is c.next.ensures.goes)
      c.in_default.ensures.writes c.in_default.ensures.short c.in_default.ensures.order);
}

pub steps-preserved : goal.steps-preserved
steps-preserved c = record {
  feeding =
      feeding-passed c.args.self.now c.steps.self.track c.next.new.self c.steps.self.file c.args.piece.now
      c.steps.rest.now c.next.new.input.now c.requires.stands.0 c.requires.stands.1 c.steps.invariant.feeding
      c.next.ensures.spec c.next.ensures.track c.next.ensures.end c.next.ensures.rises
      (told-goes c.steps.self.track c.next.new.self c.steps.rest.now c.next.new.input.now
      c.in-Ok-Some-End.is c.in-Ok-Some-End.field-0-is c.in-Ok-Some-End.field-0-0-is c.next.ensures.goes);
}

pub steps-preserved-in-Ok-Some-Begin : goal.steps-preserved-in-Ok-Some-Begin
steps-preserved-in-Ok-Some-Begin c = record {
  feeding =
      feeding-passed c.args.self.now c.steps.self.track c.next.new.self c.steps.self.file c.args.piece.now
      c.steps.rest.now c.next.new.input.now c.requires.stands.0 c.requires.stands.1 c.steps.invariant.feeding
      c.next.ensures.spec c.next.ensures.track c.next.ensures.end c.next.ensures.rises
      (told-goes c.steps.self.track c.next.new.self c.steps.rest.now c.next.new.input.now
      c.in-Ok-Some-Begin.is c.in-Ok-Some-Begin.field-0-is c.in-Ok-Some-Begin.field-0-0-is c.next.ensures.goes);
}

pub returns-in-Ok-None-clause-fed : goal.returns-in-Ok-None-clause-fed
returns-in-Ok-None-clause-fed c =
    let none : c.in-Ok-None.field-0 ≡ None = c.in-Ok-None.field-0-is in
    feeding-end c.args.self.now c.steps.self.track c.next.new.self c.steps.self.file c.args.piece.now c.steps.rest.now
    c.next.new.input.now None c.steps.invariant.feeding c.next.ensures.spec c.next.ensures.track c.next.ensures.end
    c.next.ensures.rises (over-of c.in-Ok-None.field-0 _ none c.in-Ok-None.ensures.over)

pub returns-in-Err-clause-fed : goal.returns-in-Err-clause-fed
returns-in-Err-clause-fed c =
    feeding-end c.args.self.now c.steps.self.track c.next.new.self c.steps.self.file c.args.piece.now c.steps.rest.now
    c.next.new.input.now (Some c.in-Err.fault) c.steps.invariant.feeding c.next.ensures.spec c.next.ensures.track
    c.next.ensures.end c.next.ensures.rises c.in-Err.ensures.over
