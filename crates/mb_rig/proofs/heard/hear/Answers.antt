use Rattle.std.proofs.Common.{[], Ok, Some, None, refl, sym, ◌∙◌, ap, arith}
use Rattle.mb_track.specs.TrackReading.{TrackGoes, step_signs, track_moment}
use Rattle.mb_track.proofs.StandLemmas.{gone-none, gone-then, goes-by}
use Rattle.mb_rig.specs.Heard.{signs_heard}
use Rattle.mb_rig.proofs.HeardLemmas.{goes-fewer, moment-none, moment-step, of-step, over-then, rises-then}
use Rattle.mb_rig.proofs.heard.hear.Goals as goal

pub steps-init : goal.steps-init
steps-init c = record {
  spec = refl;
  track = refl;
  end = omega arith;
  moment = refl;
  less = omega arith;
  fewer = omega arith;
  goes = gone-none c.args.reader.now c.args.input.now.now;
}

pub returns-in-Some-clause-goes : goal.returns-in-Some-clause-goes
returns-in-Some-clause-goes c =
    gone-then c.args.reader.now c.steps.reader c.next.new.self c.args.input.now.now c.steps.input.now
    c.next.new.input.now _ c.steps.invariant.goes
    (goes-by c.steps.reader c.next.new.self c.steps.input.now c.next.new.input.now _ _
    (ap step_signs (c.in-Ok-Some.is ∙ ap Ok c.in-Ok-Some.field-0-is)
    ∙ (sym c.heard_of.ensures.signs ∙ ap signs_heard c.in-Some.is)) c.next.ensures.goes)

pub returns-in-Some-clause-fewer : goal.returns-in-Some-clause-fewer
returns-in-Some-clause-fewer c =
    goes-fewer c.args.reader.now c.next.new.self _ _ _ (returns-in-Some-clause-goes c) c.requires.stands

quiet : (c : goal.In_default) → TrackGoes c.args.reader.now c.next.new.self c.args.input.now.now c.next.new.input.now []
quiet c =
    gone-then c.args.reader.now c.steps.reader c.next.new.self c.args.input.now.now c.steps.input.now
    c.next.new.input.now _ c.steps.invariant.goes
    (goes-by c.steps.reader c.next.new.self c.steps.input.now c.next.new.input.now _ _
    (ap step_signs (c.in-Ok-Some.is ∙ ap Ok c.in-Ok-Some.field-0-is)
    ∙ (sym c.heard_of.ensures.signs ∙ ap signs_heard c.in_default.is)) c.next.ensures.goes)

pub steps-preserved : goal.steps-preserved
steps-preserved c = record {
  spec = c.next.ensures.spec ∙ c.steps.invariant.spec;
  track = c.next.ensures.track ∙ c.steps.invariant.track;
  end = omega (arith, c.steps.invariant.end, c.next.ensures.end);
  moment =
      moment-step _ (track_moment c.steps.reader) (track_moment c.next.new.self) c.next.result _ c.heard_of.result _
      (c.in-Ok-Some.is ∙ ap Ok c.in-Ok-Some.field-0-is) c.in_default.is c.steps.invariant.moment
      c.heard_of.ensures.moment c.next.ensures.moment;
  less =
      omega (
        arith,
        c.steps.invariant.less,
        of-step c.next.result _ _ (c.in-Ok-Some.is ∙ ap Ok c.in-Ok-Some.field-0-is) c.next.ensures.progress,
      );
  fewer = goes-fewer c.args.reader.now c.next.new.self _ _ _ (quiet c) c.requires.stands;
  goes = quiet c;
}

pub returns-in-Some-clause-moment : goal.returns-in-Some-clause-moment
returns-in-Some-clause-moment c =
    moment-step _ (track_moment c.steps.reader) (track_moment c.next.new.self) c.next.result _ c.heard_of.result _
    (c.in-Ok-Some.is ∙ ap Ok c.in-Ok-Some.field-0-is) c.in-Some.is c.steps.invariant.moment
    c.heard_of.ensures.moment c.next.ensures.moment

pub returns-in-Some-clause-rises : goal.returns-in-Some-clause-rises
returns-in-Some-clause-rises c =
    rises-then c.args.reader.now c.steps.reader c.next.new.self c.args.input.now.now c.steps.input.now
    c.steps.invariant.goes c.steps.invariant.moment c.next.ensures.rises

pub returns-in-Some-clause-progress : goal.returns-in-Some-clause-progress
returns-in-Some-clause-progress c =
    omega (
      arith,
      c.steps.invariant.less,
      of-step c.next.result _ _ (c.in-Ok-Some.is ∙ ap Ok c.in-Ok-Some.field-0-is) c.next.ensures.progress,
    )

pub returns-in-Ok-None-clause-moment : goal.returns-in-Ok-None-clause-moment
returns-in-Ok-None-clause-moment c =
    moment-none _ (track_moment c.steps.reader) (track_moment c.next.new.self) c.next.result
    (c.in-Ok-None.is ∙ ap Ok c.in-Ok-None.field-0-is) c.steps.invariant.moment c.next.ensures.moment

pub returns-in-Ok-None-clause-rises : goal.returns-in-Ok-None-clause-rises
returns-in-Ok-None-clause-rises c =
    rises-then c.args.reader.now c.steps.reader c.next.new.self c.args.input.now.now c.steps.input.now
    c.steps.invariant.goes c.steps.invariant.moment c.next.ensures.rises

pub returns-in-Err-clause-rises : goal.returns-in-Err-clause-rises
returns-in-Err-clause-rises c =
    rises-then c.args.reader.now c.steps.reader c.next.new.self c.args.input.now.now c.steps.input.now
    c.steps.invariant.goes c.steps.invariant.moment c.next.ensures.rises

pub returns-in-Ok-None-clause-goes : goal.returns-in-Ok-None-clause-goes
returns-in-Ok-None-clause-goes c =
    gone-then c.args.reader.now c.steps.reader c.next.new.self c.args.input.now.now c.steps.input.now
    c.next.new.input.now _ c.steps.invariant.goes
    (goes-by c.steps.reader c.next.new.self c.steps.input.now c.next.new.input.now _ _
    (ap step_signs (c.in-Ok-None.is ∙ ap Ok c.in-Ok-None.field-0-is)) c.next.ensures.goes)

pub returns-in-Ok-None-clause-over : goal.returns-in-Ok-None-clause-over
returns-in-Ok-None-clause-over c =
    over-then c.args.reader.now c.steps.reader c.next.new.self c.args.input.now.now c.steps.input.now None
    c.steps.invariant.goes c.steps.invariant.spec c.steps.invariant.track
    (rw (c.in-Ok-None.is, c.in-Ok-None.field-0-is) at c.next.ensures.over)

pub returns-in-Err-clause-goes : goal.returns-in-Err-clause-goes
returns-in-Err-clause-goes c =
    gone-then c.args.reader.now c.steps.reader c.next.new.self c.args.input.now.now c.steps.input.now
    c.next.new.input.now _ c.steps.invariant.goes
    (goes-by c.steps.reader c.next.new.self c.steps.input.now c.next.new.input.now _ _
    (ap step_signs c.in-Err.is) c.next.ensures.goes)

pub returns-in-Err-clause-over : goal.returns-in-Err-clause-over
returns-in-Err-clause-over c =
    over-then c.args.reader.now c.steps.reader c.next.new.self c.args.input.now.now c.steps.input.now
    (Some c.in-Err.fault) c.steps.invariant.goes c.steps.invariant.spec c.steps.invariant.track c.in-Err.ensures.over

pub returns-in-Err-clause-fewer : goal.returns-in-Err-clause-fewer
returns-in-Err-clause-fewer c =
    goes-fewer c.args.reader.now c.next.new.self _ _ _ (returns-in-Err-clause-goes c) c.requires.stands
