use Rattle.std.proofs.Common.{ℕ, sym, ◌∙◌, ap, subst, length}
use Rattle.mb_merge.specs.Links.{Merger}
use Rattle.mb_rig.specs.Running.{RunTouched}
use Rattle.mb_rig.specs.Step.{ByStop, StepBroke, StepStops, StepUnder}
use Rattle.mb_rig.specs.declared.bay.Bay.{Bay}
use Rattle.mb_rig.proofs.StepLemmas.{end-breaks, step-begun, step-ended, touched-then, touched-wrote}
use Rattle.mb_rig.proofs.feed.Feed.step.Goals as goal

pub give-requires : goal.give-requires
give-requires g c =
    let D = g.D.Desk in
    let p = c.requires.may in
    record {
      may = (
        p.0,
        p.1,
        p.2,
        p.3,
        p.4,
        subst (λ (b : Bay). StepUnder D.tells D.contents p.0 p.1 p.2 c.args.turn.link c.args.turn.moment
            c.args.self.now b c.args.desk.now p.3 p.4) (sym c.begin.ensures.rest)
            (step-begun D.tells D.contents p.0 p.1 p.2 c.args.turn.link c.args.turn.moment c.args.self.now
            c.args.bay.now c.begin.new.self.greatest c.args.desk.now p.3 p.4 c.begin.ensures.greatest p.5),
      );
    }

pub flush-requires : goal.flush-requires
flush-requires g c =
    let D = g.D.Desk in
    let p = c.requires.may in
    let under = subst (λ (b : Bay). StepUnder D.tells D.contents p.0 p.1 p.2 c.args.turn.link c.args.turn.moment
    c.args.self.now b c.args.desk.now p.3 p.4) (sym c.begin.ensures.rest)
    (step-begun D.tells D.contents p.0 p.1 p.2 c.args.turn.link c.args.turn.moment c.args.self.now c.args.bay.now
    c.begin.new.self.greatest c.args.desk.now p.3 p.4 c.begin.ensures.greatest p.5) in
    let ends = c.in-Ok.ensures.ends p.0 p.1 p.2 p.3 p.4 under in
    record { stands = (p.0, p.1, p.2, ends.links_now, ends.play, ends.stands) }

pub returns-in-Ok-flush-clause-ends : goal.returns-in-Ok-flush-clause-ends
returns-in-Ok-flush-clause-ends g c = λ s before first links play may.
    let D = g.D.Desk in
    let under = subst (λ (b : Bay). StepUnder D.tells D.contents s before first c.args.turn.link c.args.turn.moment
    c.args.self.now b c.args.desk.now links play) (sym c.begin.ensures.rest)
    (step-begun D.tells D.contents s before first c.args.turn.link c.args.turn.moment c.args.self.now c.args.bay.now
    c.begin.new.self.greatest c.args.desk.now links play c.begin.ensures.greatest may) in
    let ends = c.in-Ok.ensures.ends s before first links play under in
    step-ended D.tells D.contents s before first (length c.give.new.bay.outs.items) c.args.turn.link
    c.begin.new.self.router c.args.bay.now.router c.give.new.self c.give.new.bay c.flush.new.self c.give.new.desk
    c.flush.new.desk links ends c.flush.ensures.router (ap (λ (b : Bay). b.router) c.begin.ensures.rest)
    (c.flush.ensures.wrote s before first ends.links_now ends.play ends.stands)
    (c.in-Ok-flush.ensures.stands s before first ends.links_now ends.play ends.stands)

pub returns-in-Ok-flush-clause-touched : goal.returns-in-Ok-flush-clause-touched
returns-in-Ok-flush-clause-touched g c = λ s before first links play may.
    let D = g.D.Desk in
    let under = subst (λ (b : Bay). StepUnder D.tells D.contents s before first c.args.turn.link c.args.turn.moment
    c.args.self.now b c.args.desk.now links play) (sym c.begin.ensures.rest)
    (step-begun D.tells D.contents s before first c.args.turn.link c.args.turn.moment c.args.self.now c.args.bay.now
    c.begin.new.self.greatest c.args.desk.now links play c.begin.ensures.greatest may) in
    let ends = c.in-Ok.ensures.ends s before first links play under in
    let outs = ap (λ (b : Bay). length b.outs.items) c.begin.ensures.rest in
    touched-then D.tells D.contents _ _ _ _ _ c.give.new.desk _
    (subst (λ (n : ℕ). RunTouched D.tells D.contents c.args.self.now.link.supply.handle 1 first n c.args.desk.now
    c.give.new.desk) outs (c.give.ensures.touched s before first links play under))
    (touched-wrote D.tells D.contents _ _ _ (length c.give.new.bay.outs.items) _ _ _ (c.give.ensures.outs ∙ outs)
    (c.flush.ensures.wrote s before first ends.links_now ends.play ends.stands))

pub returns-in-Err-flush-clause-touched : goal.returns-in-Err-flush-clause-touched
returns-in-Err-flush-clause-touched g c = λ s before first links play may.
    let D = g.D.Desk in
    let under = subst (λ (b : Bay). StepUnder D.tells D.contents s before first c.args.turn.link c.args.turn.moment
    c.args.self.now b c.args.desk.now links play) (sym c.begin.ensures.rest)
    (step-begun D.tells D.contents s before first c.args.turn.link c.args.turn.moment c.args.self.now c.args.bay.now
    c.begin.new.self.greatest c.args.desk.now links play c.begin.ensures.greatest may) in
    let ends = c.in-Ok.ensures.ends s before first links play under in
    let outs = ap (λ (b : Bay). length b.outs.items) c.begin.ensures.rest in
    touched-then D.tells D.contents _ _ _ _ _ c.give.new.desk _
    (subst (λ (n : ℕ). RunTouched D.tells D.contents c.args.self.now.link.supply.handle 1 first n c.args.desk.now
    c.give.new.desk) outs (c.give.ensures.touched s before first links play under))
    (touched-wrote D.tells D.contents _ _ _ (length c.give.new.bay.outs.items) _ _ _ (c.give.ensures.outs ∙ outs)
    (c.flush.ensures.wrote s before first ends.links_now ends.play ends.stands))

pub returns-in-Err-clause-stops : goal.returns-in-Err-clause-stops
returns-in-Err-clause-stops g c = λ s before first links play may.
    let D = g.D.Desk in
    let under = subst (λ (b : Bay). StepUnder D.tells D.contents s before first c.args.turn.link c.args.turn.moment
    c.args.self.now b c.args.desk.now links play) (sym c.begin.ensures.rest)
    (step-begun D.tells D.contents s before first c.args.turn.link c.args.turn.moment c.args.self.now c.args.bay.now
    c.begin.new.self.greatest c.args.desk.now links play c.begin.ensures.greatest may) in
    let stops = c.in-Err.ensures.stops s before first links play under in (
      subst (λ (m : Merger). ByStop c.in-Err.stop (StepStops D.tells D.contents s before first c.args.turn.link m
          c.give.new.self c.give.new.bay c.give.new.desk links)
          (StepBroke D.tells D.contents s before c.args.turn.link c.give.new.self c.give.new.desk links)) (ap (λ (b : Bay). b.router) c.begin.ensures.rest)
          stops.0,
      stops.1,
    )

pub returns-in-Err-clause-touched : goal.returns-in-Err-clause-touched
returns-in-Err-clause-touched g c = λ s before first links play may.
    let D = g.D.Desk in
    let under = subst (λ (b : Bay). StepUnder D.tells D.contents s before first c.args.turn.link c.args.turn.moment
    c.args.self.now b c.args.desk.now links play) (sym c.begin.ensures.rest)
    (step-begun D.tells D.contents s before first c.args.turn.link c.args.turn.moment c.args.self.now c.args.bay.now
    c.begin.new.self.greatest c.args.desk.now links play c.begin.ensures.greatest may) in
    subst (λ (n : ℕ). RunTouched D.tells D.contents c.args.self.now.link.supply.handle 1 first n c.args.desk.now
    c.give.new.desk) (ap (λ (b : Bay). length b.outs.items) c.begin.ensures.rest)
    (c.give.ensures.touched s before first links play under)

pub returns-in-Err-flush-clause-stops : goal.returns-in-Err-flush-clause-stops
returns-in-Err-flush-clause-stops g c = λ s before first links play may.
    let D = g.D.Desk in
    let under = subst (λ (b : Bay). StepUnder D.tells D.contents s before first c.args.turn.link c.args.turn.moment
    c.args.self.now b c.args.desk.now links play) (sym c.begin.ensures.rest)
    (step-begun D.tells D.contents s before first c.args.turn.link c.args.turn.moment c.args.self.now c.args.bay.now
    c.begin.new.self.greatest c.args.desk.now links play c.begin.ensures.greatest may) in
    let ends = c.in-Ok.ensures.ends s before first links play under in (
      end-breaks D.tells D.contents s before first (length c.give.new.bay.outs.items) c.args.turn.link
          c.begin.new.self.router c.give.new.self c.give.new.bay c.give.new.desk c.flush.new.desk links ends
          (c.flush.ensures.wrote s before first ends.links_now ends.play ends.stands)
          (c.flush.ensures.report s before first ends.links_now ends.play ends.stands),
      tt,
    )
