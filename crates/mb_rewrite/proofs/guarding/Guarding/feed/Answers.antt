use Rattle.std.proofs.Common.{[], ◌≡◌, ◌++◌, List, None, Option, Some, refl, sym, ap, ◌∙◌, subst}
use Rattle.std.specs.Prelude.{Ok}
use Rattle.std.proofs.lemmas.Result.{on_err_weaker}
use Rattle.mb_message.specs.Signs.{signs_of_event}
use Rattle.mb_guard.specs.Guard.{Stands}
use Rattle.mb_track.specs.TrackReading.{step_signs}
use Rattle.mb_track.specs.declared.track.TrackReader.{TrackReader}
use Rattle.mb_track.proofs.StandLemmas.{goes-by}
use Rattle.mb_rewrite.proofs.FeedLemmas.{Feeding, feeding-cut, feeding-end, feeding-heard, feeding-passed}
use Rattle.mb_rewrite.proofs.FeedLemmas.{feeding-refused, feeding-start, feeding-suits, if-ok-as, over-of}
use Rattle.mb_rewrite.proofs.GuardLemmas.{before_of, event-suits}
use Rattle.mb_rewrite.proofs.guarding.Guarding.feed.Goals as goal

pub steps-init : goal.steps-init
steps-init g c = record {
  ready = c.requires.ready;
  sound = refl;
  feeding =
      feeding-start (before_of c.args.self.now) c.begin.new.self c.args.piece.now c.begin.new.held.items
      (λ x. g.K.Out.took c.args.out.now x c.args.out.now) (g.met.K.Out.nothing c.args.out.now) c.begin.ensures.begun
      c.begin.ensures.same.0 c.begin.ensures.same.1 c.begin.ensures.written;
}

pub hear-requires-clause-suits : goal.hear-requires-clause-suits
hear-requires-clause-suits g c =
    event-suits c.args.self.now c.steps.self.guard c.steps.self.line c.in-Ok-Some-Heard.ev
    (feeding-suits (before_of c.args.self.now) (Stands c.steps.self.guard) c.steps.self.track c.next.new.self
    c.steps.self.line c.args.piece.now c.steps.rest.now c.next.new.input.now c.steps.held.items
    (signs_of_event c.in-Ok-Some-Heard.ev) (λ x. g.K.Out.took c.args.out.now x c.steps.out) c.requires.stands.0
    c.requires.stands.1 c.steps.invariant.feeding
    (goes-by c.steps.self.track c.next.new.self c.steps.rest.now c.next.new.input.now _ _
    (ap step_signs (c.in-Ok-Some-Heard.is
    ∙ ap Ok (c.in-Ok-Some-Heard.field-0-is ∙ ap Some c.in-Ok-Some-Heard.field-0-0-is))) c.next.ensures.goes))

pub returns-in-Err-hear-clause-halted : goal.returns-in-Err-hear-clause-halted
returns-in-Err-hear-clause-halted g c =
    feeding-refused (before_of c.args.self.now) (Stands c.steps.self.guard) c.steps.self.track c.next.new.self
    c.steps.self.line c.args.piece.now c.steps.rest.now c.next.new.input.now c.steps.held.items
    (signs_of_event c.in-Ok-Some-Heard.ev) (λ x. g.K.Out.took c.args.out.now x c.steps.out)
    (λ x. g.K.Out.took c.steps.out x c.hear.new.out) (λ x. g.K.Out.took c.args.out.now x c.hear.new.out)
    (λ x y. g.met.K.Out.both _ _ _ x y) c.requires.some c.steps.invariant.feeding c.next.ensures.spec
    c.next.ensures.track
    (goes-by c.steps.self.track c.next.new.self c.steps.rest.now c.next.new.input.now _ _
    (ap step_signs (c.in-Ok-Some-Heard.is
    ∙ ap Ok (c.in-Ok-Some-Heard.field-0-is ∙ ap Some c.in-Ok-Some-Heard.field-0-0-is))) c.next.ensures.goes)
    c.in-Err-hear.ensures.err

pub steps-preserved-in_default : goal.steps-preserved-in_default
steps-preserved-in_default g c = record {
  ready = c.hear.ensures.ready;
  sound = c.in_default.ensures.sound ∙ c.steps.invariant.sound;
  feeding =
      subst (λ (z : TrackReader). Feeding (before_of c.args.self.now) (Stands c.hear.new.self.guard) z
      c.hear.new.self.line c.args.piece.now c.next.new.input.now c.hear.new.held.items
      (λ x. g.K.Out.took c.args.out.now x c.hear.new.out)) (sym c.hear.ensures.track)
      (feeding-heard (before_of c.args.self.now) (Stands c.steps.self.guard) (Stands c.hear.new.self.guard)
      c.steps.self.track c.next.new.self c.steps.self.line c.hear.new.self.line c.args.piece.now c.steps.rest.now
      c.next.new.input.now c.steps.held.items c.hear.new.held.items (signs_of_event c.in-Ok-Some-Heard.ev)
      (λ x. g.K.Out.took c.args.out.now x c.steps.out) (λ x. g.K.Out.took c.steps.out x c.hear.new.out)
      (λ x. g.K.Out.took c.args.out.now x c.hear.new.out) (λ x y. g.met.K.Out.both _ _ _ x y)
      c.steps.invariant.feeding c.next.ensures.spec c.next.ensures.track c.next.ensures.end
      (goes-by c.steps.self.track c.next.new.self c.steps.rest.now c.next.new.input.now _ _
      (ap step_signs (c.in-Ok-Some-Heard.is
      ∙ ap Ok (c.in-Ok-Some-Heard.field-0-is ∙ ap Some c.in-Ok-Some-Heard.field-0-0-is))) c.next.ensures.goes)
      c.hear.ensures.sounds c.in_default.ensures.ok);
}

pub steps-preserved : goal.steps-preserved
steps-preserved g c = record {
  ready = c.steps.invariant.ready;
  sound = c.steps.invariant.sound;
  feeding =
      feeding-passed (before_of c.args.self.now) (Stands c.steps.self.guard) c.steps.self.track c.next.new.self
      c.steps.self.line c.args.piece.now c.steps.rest.now c.next.new.input.now c.steps.held.items
      (λ x. g.K.Out.took c.args.out.now x c.steps.out) c.steps.invariant.feeding c.next.ensures.spec
      c.next.ensures.track c.next.ensures.end
      (goes-by c.steps.self.track c.next.new.self c.steps.rest.now c.next.new.input.now _ []
      (ap step_signs (c.in-Ok-Some-End.is
      ∙ ap Ok (c.in-Ok-Some-End.field-0-is ∙ ap Some c.in-Ok-Some-End.field-0-0-is))) c.next.ensures.goes);
}

pub steps-preserved-in-Ok-Some-Begin : goal.steps-preserved-in-Ok-Some-Begin
steps-preserved-in-Ok-Some-Begin g c = record {
  ready = c.steps.invariant.ready;
  sound = c.steps.invariant.sound;
  feeding =
      feeding-passed (before_of c.args.self.now) (Stands c.steps.self.guard) c.steps.self.track c.next.new.self
      c.steps.self.line c.args.piece.now c.steps.rest.now c.next.new.input.now c.steps.held.items
      (λ x. g.K.Out.took c.args.out.now x c.steps.out) c.steps.invariant.feeding c.next.ensures.spec
      c.next.ensures.track c.next.ensures.end
      (goes-by c.steps.self.track c.next.new.self c.steps.rest.now c.next.new.input.now _ []
      (ap step_signs (c.in-Ok-Some-Begin.is
      ∙ ap Ok (c.in-Ok-Some-Begin.field-0-is ∙ ap Some c.in-Ok-Some-Begin.field-0-0-is))) c.next.ensures.goes);
}

pub returns-in-Ok-None-clause-fed : goal.returns-in-Ok-None-clause-fed
returns-in-Ok-None-clause-fed g c =
    let none : c.in-Ok-None.field-0 ≡ None = c.in-Ok-None.field-0-is in
    if-ok-as c.hand_on.result _ _ _
    (λ took. feeding-end (before_of c.args.self.now) (Stands c.steps.self.guard) c.steps.self.track c.next.new.self
    c.steps.self.line c.args.piece.now c.steps.rest.now c.next.new.input.now c.steps.held.items None
    (λ x. g.K.Out.took c.args.out.now x c.steps.out) (λ x. g.K.Out.took c.steps.out x c.hand_on.new.out)
    (λ x. g.K.Out.took c.args.out.now x c.hand_on.new.out) (λ x y. g.met.K.Out.both _ _ _ x y) c.requires.some
    c.steps.invariant.feeding c.next.ensures.spec c.next.ensures.track c.next.ensures.end
    (over-of c.in-Ok-None.field-0 _ none c.in-Ok-None.ensures.over) took) c.hand_on.ensures.fault
    c.hand_on.ensures.took

pub returns-in-Ok-None-clause-halted : goal.returns-in-Ok-None-clause-halted
returns-in-Ok-None-clause-halted g c =
    let none : c.in-Ok-None.field-0 ≡ None = c.in-Ok-None.field-0-is in
    on_err_weaker c.hand_on.result
    (λ front. feeding-cut (before_of c.args.self.now) (Stands c.steps.self.guard) c.steps.self.track c.next.new.self
    c.steps.self.line c.args.piece.now c.steps.rest.now c.next.new.input.now c.steps.held.items None
    (λ x. g.K.Out.took c.args.out.now x c.steps.out) (λ x. g.K.Out.took c.steps.out x c.hand_on.new.out)
    (λ x. g.K.Out.took c.args.out.now x c.hand_on.new.out) (λ x y. g.met.K.Out.both _ _ _ x y) c.requires.some
    c.steps.invariant.feeding c.next.ensures.spec c.next.ensures.track c.next.ensures.end
    (over-of c.in-Ok-None.field-0 _ none c.in-Ok-None.ensures.over) front) c.hand_on.ensures.front

pub returns-in-Err-clause-fed : goal.returns-in-Err-clause-fed
returns-in-Err-clause-fed g c =
    if-ok-as c.hand_on-in-Err.result _ _ _
    (λ took. feeding-end (before_of c.args.self.now) (Stands c.steps.self.guard) c.steps.self.track c.next.new.self
    c.steps.self.line c.args.piece.now c.steps.rest.now c.next.new.input.now c.steps.held.items (Some c.in-Err.fault)
    (λ x. g.K.Out.took c.args.out.now x c.steps.out) (λ x. g.K.Out.took c.steps.out x c.hand_on-in-Err.new.out)
    (λ x. g.K.Out.took c.args.out.now x c.hand_on-in-Err.new.out) (λ x y. g.met.K.Out.both _ _ _ x y)
    c.requires.some c.steps.invariant.feeding c.next.ensures.spec c.next.ensures.track c.next.ensures.end
    c.in-Err.ensures.over took) c.hand_on-in-Err.ensures.fault c.hand_on-in-Err.ensures.took

pub returns-in-Err-clause-halted : goal.returns-in-Err-clause-halted
returns-in-Err-clause-halted g c =
    on_err_weaker c.hand_on-in-Err.result
    (λ front. feeding-cut (before_of c.args.self.now) (Stands c.steps.self.guard) c.steps.self.track c.next.new.self
    c.steps.self.line c.args.piece.now c.steps.rest.now c.next.new.input.now c.steps.held.items (Some c.in-Err.fault)
    (λ x. g.K.Out.took c.args.out.now x c.steps.out) (λ x. g.K.Out.took c.steps.out x c.hand_on-in-Err.new.out)
    (λ x. g.K.Out.took c.args.out.now x c.hand_on-in-Err.new.out) (λ x y. g.met.K.Out.both _ _ _ x y)
    c.requires.some c.steps.invariant.feeding c.next.ensures.spec c.next.ensures.track c.next.ensures.end
    c.in-Err.ensures.over front) c.hand_on-in-Err.ensures.front
