use Rattle.std.proofs.Common.{◌≡◌, ◌<◌, ℕ, List, Option, Some, sym, ap, subst, ◌∙◌, arith, length, get_or}
use Rattle.std.specs.Prelude.{slice_get}
use Rattle.std.proofs.lemmas.List.{length-set}
use Rattle.std.proofs.lemmas.Option.{slice_get-get_or}
use Rattle.mb_rig.specs.Turn.{IsTurn, MayStep}
use Rattle.mb_rig.proofs.RunLemmas.{caused, halted, owed-falls, run-may, run-over, run-stepped, touched-step}
use Rattle.mb_rig.proofs.steps.run_steps.Goals as goal

pub returns-in_default-clause-over : goal.returns-in_default-clause-over
returns-in_default-clause-over g c = λ s before base first limit links play st.
    let D = g.D.Desk in
    let r = c.steps.invariant.goes s before base first limit links play st in
    run-over D.tells D.contents s before base first limit c.steps.feeds c.steps.bay c.steps.desk r.links r.play
    c.turns_of-turns.result.items r.stands c.turns_of-turns.ensures.each
    (subst (λ (ts : List (Option ℕ)). (y m : ℕ) → MayStep ts y m → ⊥) c.as_slice.ensures.value
    c.in_default.ensures.turn)

pub step-requires : goal.step-requires
step-requires g c =
    let D = g.D.Desk in
    let q = c.requires.stands in
    let r = c.steps.invariant.goes q.0 q.1 q.2 q.3 q.4 q.5 q.6 q.7 in
    let x = c.in-Some.turn.link in
    let value = ap length c.as_slice.ensures.value in
    let many = c.turns_of-turns.ensures.many in
    let within = c.in-Some.ensures.within in
    record {
      may = (
        q.0,
        q.1,
        q.3,
        r.links,
        r.play,
        run-may D.tells D.contents q.0 q.1 q.2 q.3 q.4 c.steps.feeds c.steps.bay
            c.steps.desk r.links r.play c.turns_of-turns.result.items x c.in-Some.turn.moment
            (get_or c.steps.feeds x c.index-feeds-turn.result) r.stands c.turns_of-turns.ensures.each
            (subst (λ (ts : List (Option ℕ)). IsTurn ts x c.in-Some.turn.moment) c.as_slice.ensures.value
            c.in-Some.ensures.turn)
            (slice_get-get_or c.steps.feeds x c.index-feeds-turn.result (omega (arith, value, many, within))),
      );
    }

pub steps-smaller : goal.steps-smaller
steps-smaller g c =
    let x = c.in-Some.turn.link in
    let value = ap length c.as_slice.ensures.value in
    let many = c.turns_of-turns.ensures.many in
    let within = c.in-Some.ensures.within in
    owed-falls c.steps.feeds x (get_or c.steps.feeds x c.index-feeds-turn.result) c.step.new.self
    (slice_get-get_or c.steps.feeds x c.index-feeds-turn.result (omega (arith, value, many, within)))
    c.in_default-step.ensures.owed

pub returns-in-Err-clause-stops : goal.returns-in-Err-clause-stops
returns-in-Err-clause-stops g c = λ s before base first limit links play st.
    let D = g.D.Desk in
    let r = c.steps.invariant.goes s before base first limit links play st in
    let x = c.in-Some.turn.link in
    let value = ap length c.as_slice.ensures.value in
    let many = c.turns_of-turns.ensures.many in
    let within = c.in-Some.ensures.within in
    let f = get_or c.steps.feeds x c.index-feeds-turn.result in
    let at = slice_get-get_or c.steps.feeds x c.index-feeds-turn.result (omega (arith, value, many, within)) in
    let may = run-may D.tells D.contents s before base first limit c.steps.feeds c.steps.bay
    c.steps.desk r.links r.play c.turns_of-turns.result.items x c.in-Some.turn.moment f r.stands
    c.turns_of-turns.ensures.each (subst (λ (ts : List (Option ℕ)). IsTurn ts x c.in-Some.turn.moment)
    c.as_slice.ensures.value c.in-Some.ensures.turn) at in
    halted D.tells D.contents s before base first limit (length c.steps.bay.outs.items) c.steps.feeds c.steps.bay c.step.new.bay c.steps.desk c.step.new.desk r.links r.play x f c.step.new.self c.in-Err.stop
    c.end_of.result r.stands at c.step.ensures.same
    (c.step.ensures.touched s before first r.links r.play may) c.end_of.ensures (c.in-Err.ensures.stops s before first r.links r.play may)

pub returns-in-Err-clause-touched : goal.returns-in-Err-clause-touched
returns-in-Err-clause-touched g c = λ s before base first limit links play st.
    let D = g.D.Desk in
    let r = c.steps.invariant.goes s before base first limit links play st in
    let x = c.in-Some.turn.link in
    let value = ap length c.as_slice.ensures.value in
    let many = c.turns_of-turns.ensures.many in
    let within = c.in-Some.ensures.within in
    let f = get_or c.steps.feeds x c.index-feeds-turn.result in
    let at = slice_get-get_or c.steps.feeds x c.index-feeds-turn.result (omega (arith, value, many, within)) in
    let may = run-may D.tells D.contents s before base first limit c.steps.feeds c.steps.bay
    c.steps.desk r.links r.play c.turns_of-turns.result.items x c.in-Some.turn.moment f r.stands
    c.turns_of-turns.ensures.each (subst (λ (ts : List (Option ℕ)). IsTurn ts x c.in-Some.turn.moment)
    c.as_slice.ensures.value c.in-Some.ensures.turn) at in
    touched-step D.tells D.contents s base limit first c.steps.feeds (length c.args.feeds.now)
    (length c.steps.bay.outs.items) (length c.args.bay.now.outs.items) x f c.args.desk.now c.steps.desk
    c.step.new.desk r.stands.are at c.steps.invariant.many c.steps.invariant.outs
    (c.steps.invariant.touched s before base first limit links play st)
    (c.step.ensures.touched s before first r.links r.play may)

pub steps-preserved : goal.steps-preserved
steps-preserved g c =
    let D = g.D.Desk in
    let x = c.in-Some.turn.link in
    let value = ap length c.as_slice.ensures.value in
    let many = c.turns_of-turns.ensures.many in
    let within = c.in-Some.ensures.within in
    let f = get_or c.steps.feeds x c.index-feeds-turn.result in
    let at = slice_get-get_or c.steps.feeds x c.index-feeds-turn.result (omega (arith, value, many, within)) in
    record {
      goes = λ s before base first limit links play st.
          let r = c.steps.invariant.goes s before base first limit links play st in
          let may = run-may D.tells D.contents s before base first limit c.steps.feeds c.steps.bay
          c.steps.desk r.links r.play c.turns_of-turns.result.items x c.in-Some.turn.moment f r.stands
          c.turns_of-turns.ensures.each (subst (λ (ts : List (Option ℕ)). IsTurn ts x c.in-Some.turn.moment)
          c.as_slice.ensures.value c.in-Some.ensures.turn) at in
          run-stepped D.tells D.contents s before base first limit (length c.steps.bay.outs.items) c.steps.feeds
          c.steps.bay c.step.new.bay c.steps.desk c.step.new.desk r.links r.play x f c.step.new.self r.stands at
          may.source c.step.ensures.same (c.step.ensures.touched s before first r.links r.play may)
          (c.in_default-step.ensures.ends s before first r.links r.play may);
      touched = λ s before base first limit links play st.
          let r = c.steps.invariant.goes s before base first limit links play st in
          let may = run-may D.tells D.contents s before base first limit c.steps.feeds c.steps.bay
          c.steps.desk r.links r.play c.turns_of-turns.result.items x c.in-Some.turn.moment f r.stands
          c.turns_of-turns.ensures.each (subst (λ (ts : List (Option ℕ)). IsTurn ts x c.in-Some.turn.moment)
          c.as_slice.ensures.value c.in-Some.ensures.turn) at in
          touched-step D.tells D.contents s base limit first c.steps.feeds (length c.args.feeds.now)
          (length c.steps.bay.outs.items) (length c.args.bay.now.outs.items) x f c.args.desk.now c.steps.desk
          c.step.new.desk r.stands.are at c.steps.invariant.many c.steps.invariant.outs
          (c.steps.invariant.touched s before base first limit links play st)
          (c.step.ensures.touched s before first r.links r.play may);
      many = length-set c.steps.feeds x c.step.new.self ∙ c.steps.invariant.many;
      outs = c.step.ensures.outs ∙ c.steps.invariant.outs;
      reads = c.in_default-step.ensures.read_faults ∙ c.steps.invariant.reads;
      writes = c.in_default-step.ensures.write_faults ∙ c.steps.invariant.writes;
    }

pub returns-in-Err-clause-cause : goal.returns-in-Err-clause-cause
returns-in-Err-clause-cause g c =
    let D = g.D.Desk in
    caused c.in-Some.turn.link (D.read_faults c.args.desk.now) (D.read_faults c.steps.desk)
    (D.read_faults c.step.new.desk) (D.write_faults c.args.desk.now) (D.write_faults c.steps.desk)
    (D.write_faults c.step.new.desk) c.in-Err.stop c.end_of.result c.steps.invariant.reads c.steps.invariant.writes
    c.end_of.ensures c.in-Err.ensures.cause
