use Rattle.std.proofs.Common.{◌≡◌, ◌≤◌, ◌+◌, ℕ, Bool, Option, None, OnSome, refl, ◌∙◌, ap, subst, arith, length}
use Rattle.mb_message.specs.declared.mark.Mark.{Mark}
use Rattle.mb_rig.specs.Bay.{HandedOn}
use Rattle.mb_rig.specs.Feed.{FeedGoes, feed_owed}
use Rattle.mb_rig.proofs.FeedLemmas.{same-then}
use Rattle.mb_rig.proofs.StepLemmas.{owed-waits, step-breaks, step-knows, step-stalls, step-starts, step-stops, step-takes}
use Rattle.mb_rig.proofs.StepLemmas.{step-turns, stops-at, touched-none, touched-on, touched-then, touched-took}
use Rattle.mb_rig.proofs.StepLemmas.{waits-none}
use Rattle.mb_rig.proofs.feed.Feed.give.Goals as goal

pub marks-init : goal.marks-init
marks-init g c = record {
  same = record { handle = refl; limit = refl; spec = refl; track = refl };
  goes = λ s before first links play under.
      step-starts g.D.Desk.tells g.D.Desk.contents s before first c.args.turn.link c.args.turn.moment c.args.self.now
      c.args.bay.now c.args.desk.now links play under;
  touched = λ s before first links play under. touched-none g.D.Desk.tells g.D.Desk.contents _ _ _ _ _;
  outs = refl;
  owed = omega arith;
  reads = refl;
  writes = refl;
}

pub next_mark-requires : goal.next_mark-requires
next_mark-requires g c =
    let p = c.requires.may in
    let on = c.marks.invariant.goes p.0 p.1 p.2 p.3 p.4 p.5 in
    record {
      stands = (
        c.args.turn.link,
        c.args.turn.moment,
        on.links_now.present c.args.turn.link,
        on.links_now.given c.args.turn.link,
        on.under.feed,
        on.under.here,
      );
    }

pub hand_on-requires : goal.hand_on-requires
hand_on-requires g c =
    let D = g.D.Desk in
    let x = c.args.turn.link in
    let moment = c.args.turn.moment in
    let p = c.requires.may in
    let on = c.marks.invariant.goes p.0 p.1 p.2 p.3 p.4 p.5 in
    let known = step-knows D.tells D.contents p.0 p.1 p.2 x moment c.args.bay.now.router c.marks.self
    c.next_mark.new.self c.marks.bay c.marks.desk c.next_mark.new.desk p.3 c.in-Ok.next c.in-Some.mark on c.in-Some.is
    c.in-Ok.ensures.goes c.next_mark.ensures.took in
    record { stands = (p.0, p.1, p.2, on.links_now, on.play, known.stands, known.may) }

pub marks-preserved : goal.marks-preserved
marks-preserved g c =
    let D = g.D.Desk in
    let x = c.args.turn.link in
    let moment = c.args.turn.moment in
    let i = c.marks.invariant in
    let many = length c.marks.bay.outs.items in
    record {
      same = same-then c.args.self.now.link c.marks.self.link c.next_mark.new.self.link i.same c.next_mark.ensures.same;
      goes = λ s before first links play under.
          let on = i.goes s before first links play under in
          let known = step-knows D.tells D.contents s before first x moment c.args.bay.now.router c.marks.self
          c.next_mark.new.self c.marks.bay c.marks.desk c.next_mark.new.desk links c.in-Ok.next c.in-Some.mark on
          c.in-Some.is c.in-Ok.ensures.goes c.next_mark.ensures.took in
          step-takes D.tells D.contents s before first many x moment c.args.bay.now.router c.marks.self
          c.next_mark.new.self c.marks.bay c.hand_on.new.self c.marks.desk c.next_mark.new.desk c.hand_on.new.desk links
          c.in-Some.mark on known.gave
          (c.hand_on.ensures.wrote s before first on.links_now on.play known.stands known.may)
          c.hand_on.ensures.greatest
          (subst (λ (b : Bool). HandedOn D.tells D.contents s before first c.marks.bay c.hand_on.new.self
          c.hand_on.new.desk on.links_now x moment c.in-Some.mark on.play b) c.in-Ok-true.field-0-test
          (c.in-Ok-true.ensures.handed s before first on.links_now on.play known.stands known.may));
      touched = λ s before first links play under.
          let on = i.goes s before first links play under in
          let known = step-knows D.tells D.contents s before first x moment c.args.bay.now.router c.marks.self
          c.next_mark.new.self c.marks.bay c.marks.desk c.next_mark.new.desk links c.in-Ok.next c.in-Some.mark on
          c.in-Some.is c.in-Ok.ensures.goes c.next_mark.ensures.took in
          touched-on D.tells D.contents c.marks.self.link.supply.handle _ _ many _ _ c.marks.desk c.next_mark.new.desk _
          i.same.handle i.outs (i.touched s before first links play under) c.next_mark.ensures.took
          (c.hand_on.ensures.wrote s before first on.links_now on.play known.stands known.may);
      outs = c.hand_on.ensures.outs ∙ i.outs;
      owed = omega (arith, i.owed, c.in-Ok.ensures.owed);
      reads = c.hand_on.ensures.read_faults ∙ (c.in-Ok.ensures.sound ∙ i.reads);
      writes = c.in-Ok-true.ensures.sound ∙ (c.next_mark.ensures.write_faults ∙ i.writes);
    }

pub returns-in-Ok-false-clause-ends : goal.returns-in-Ok-false-clause-ends
returns-in-Ok-false-clause-ends g c = λ s before first links play under.
    let D = g.D.Desk in
    let x = c.args.turn.link in
    let moment = c.args.turn.moment in
    let many = length c.marks.bay.outs.items in
    let on = c.marks.invariant.goes s before first links play under in
    let known = step-knows D.tells D.contents s before first x moment c.args.bay.now.router c.marks.self
    c.next_mark.new.self c.marks.bay c.marks.desk c.next_mark.new.desk links c.in-Ok.next c.in-Some.mark on c.in-Some.is
    c.in-Ok.ensures.goes c.next_mark.ensures.took in
    let full = subst (λ (b : Bool). HandedOn D.tells D.contents s before first c.marks.bay c.hand_on.new.self
    c.hand_on.new.desk on.links_now x moment c.in-Some.mark on.play b) c.in-Ok-false.field-0-test
    (c.in-Ok-false.ensures.handed s before first on.links_now on.play known.stands known.may) in
    step-stalls D.tells D.contents s before first many x moment c.args.bay.now.router c.marks.self c.next_mark.new.self
    c.marks.bay c.hand_on.new.self c.marks.desk c.next_mark.new.desk c.hand_on.new.desk links c.in-Some.mark on
    known.gave (c.hand_on.ensures.wrote s before first on.links_now on.play known.stands known.may) full.1 full.0

pub returns-in-Ok-false-clause-touched : goal.returns-in-Ok-false-clause-touched
returns-in-Ok-false-clause-touched g c = λ s before first links play under.
    let D = g.D.Desk in
    let x = c.args.turn.link in
    let moment = c.args.turn.moment in
    let i = c.marks.invariant in
    let many = length c.marks.bay.outs.items in
    let on = i.goes s before first links play under in
    let known = step-knows D.tells D.contents s before first x moment c.args.bay.now.router c.marks.self
    c.next_mark.new.self c.marks.bay c.marks.desk c.next_mark.new.desk links c.in-Ok.next c.in-Some.mark on c.in-Some.is
    c.in-Ok.ensures.goes c.next_mark.ensures.took in
    touched-on D.tells D.contents c.marks.self.link.supply.handle _ _ many _ _ c.marks.desk c.next_mark.new.desk _
    i.same.handle i.outs (i.touched s before first links play under) c.next_mark.ensures.took
    (c.hand_on.ensures.wrote s before first on.links_now on.play known.stands known.may)

pub returns-in-Err-hand_on-clause-touched : goal.returns-in-Err-hand_on-clause-touched
returns-in-Err-hand_on-clause-touched g c = λ s before first links play under.
    let D = g.D.Desk in
    let x = c.args.turn.link in
    let moment = c.args.turn.moment in
    let i = c.marks.invariant in
    let many = length c.marks.bay.outs.items in
    let on = i.goes s before first links play under in
    let known = step-knows D.tells D.contents s before first x moment c.args.bay.now.router c.marks.self
    c.next_mark.new.self c.marks.bay c.marks.desk c.next_mark.new.desk links c.in-Ok.next c.in-Some.mark on c.in-Some.is
    c.in-Ok.ensures.goes c.next_mark.ensures.took in
    touched-on D.tells D.contents c.marks.self.link.supply.handle _ _ many _ _ c.marks.desk c.next_mark.new.desk _
    i.same.handle i.outs (i.touched s before first links play under) c.next_mark.ensures.took
    (c.hand_on.ensures.wrote s before first on.links_now on.play known.stands known.may)

pub returns-in-Ok-false-clause-owed : goal.returns-in-Ok-false-clause-owed
returns-in-Ok-false-clause-owed g c =
    let D = g.D.Desk in
    let x = c.args.turn.link in
    let moment = c.args.turn.moment in
    let p = c.requires.may in
    let on = c.marks.invariant.goes p.0 p.1 p.2 p.3 p.4 p.5 in
    let known = step-knows D.tells D.contents p.0 p.1 p.2 x moment c.args.bay.now.router c.marks.self
    c.next_mark.new.self c.marks.bay c.marks.desk c.next_mark.new.desk p.3 c.in-Ok.next c.in-Some.mark on c.in-Some.is
    c.in-Ok.ensures.goes c.next_mark.ensures.took in
    let full = subst (λ (b : Bool). HandedOn D.tells D.contents p.0 p.1 p.2 c.marks.bay c.hand_on.new.self
    c.hand_on.new.desk on.links_now x moment c.in-Some.mark on.play b) c.in-Ok-false.field-0-test
    (c.in-Ok-false.ensures.handed p.0 p.1 p.2 on.links_now on.play known.stands known.may) in
    let less = subst (λ (o : Option Mark). OnSome o (c.marks.self.waiting ≡ None →
    feed_owed c.next_mark.new.self + 2 ≤ feed_owed c.marks.self)) c.in-Some.is c.in-Ok.ensures.owed_by_mark in
    omega (
      arith,
      c.marks.invariant.owed,
      owed-waits c.next_mark.new.self c.in-Some.mark known.gave.none,
      less (waits-none c.marks.self.waiting _ on.under.room full.2),
    )

pub returns-in-None-clause-ends : goal.returns-in-None-clause-ends
returns-in-None-clause-ends g c = λ s before first links play under.
    let D = g.D.Desk in
    let x = c.args.turn.link in
    let moment = c.args.turn.moment in
    let on = c.marks.invariant.goes s before first links play under in
    let turned = subst (λ (o : Option Mark). FeedGoes D.tells D.contents x c.marks.self c.next_mark.new.self
    c.next_mark.new.desk (on.links_now.present x) (on.links_now.given x) moment o) c.in-None.is
    (c.in-Ok.ensures.goes x moment (on.links_now.present x) (on.links_now.given x) on.under.feed on.under.here) in
    step-turns D.tells D.contents s before first x moment c.marks.self.link.supply.handle c.args.bay.now.router
    c.marks.self c.next_mark.new.self c.marks.bay c.marks.desk c.next_mark.new.desk links on turned
    c.next_mark.ensures.took

pub returns-in-None-clause-touched : goal.returns-in-None-clause-touched
returns-in-None-clause-touched g c = λ s before first links play under.
    let D = g.D.Desk in
    touched-then D.tells D.contents _ _ _ _ _ c.marks.desk _ (c.marks.invariant.touched s before first links play under)
    (touched-took D.tells D.contents c.marks.self.link.supply.handle _ _ _ _ _ c.marks.invariant.same.handle
    c.next_mark.ensures.took)

pub returns-in-Err-clause-stops : goal.returns-in-Err-clause-stops
returns-in-Err-clause-stops g c = λ s before first links play under.
    let D = g.D.Desk in
    let x = c.args.turn.link in
    let moment = c.args.turn.moment in
    let i = c.marks.invariant in
    let on = i.goes s before first links play under in
    let present = on.links_now.present x in
    let given = on.links_now.given x in (
      step-stops D.tells D.contents s before first x moment c.marks.self.link.supply.handle c.args.bay.now.router
          c.marks.self c.next_mark.new.self c.marks.bay c.marks.desk c.next_mark.new.desk links on
          (c.next_mark.ensures.front x present given on.under.feed) c.next_mark.ensures.took,
      λ t. stops-at c.marks.self.link.supply.limit _
          ((D.contents c.next_mark.new.desk).taken c.marks.self.link.supply.handle) _ c.in-Err.stop
          i.same.limit (ap (λ (h : ℕ). (D.contents c.next_mark.new.desk).taken h) i.same.handle)
          (c.in-Err.ensures.stops x present given on.under.feed t),
    )

pub returns-in-Err-clause-touched : goal.returns-in-Err-clause-touched
returns-in-Err-clause-touched g c = λ s before first links play under.
    let D = g.D.Desk in
    touched-then D.tells D.contents _ _ _ _ _ c.marks.desk _ (c.marks.invariant.touched s before first links play under)
    (touched-took D.tells D.contents c.marks.self.link.supply.handle _ _ _ _ _ c.marks.invariant.same.handle
    c.next_mark.ensures.took)

pub returns-in-Err-hand_on-clause-stops : goal.returns-in-Err-hand_on-clause-stops
returns-in-Err-hand_on-clause-stops g c = λ s before first links play under.
    let D = g.D.Desk in
    let x = c.args.turn.link in
    let moment = c.args.turn.moment in
    let i = c.marks.invariant in
    let many = length c.marks.bay.outs.items in
    let on = i.goes s before first links play under in
    let known = step-knows D.tells D.contents s before first x moment c.args.bay.now.router c.marks.self
    c.next_mark.new.self c.marks.bay c.marks.desk c.next_mark.new.desk links c.in-Ok.next c.in-Some.mark on c.in-Some.is
    c.in-Ok.ensures.goes c.next_mark.ensures.took in (
      step-breaks D.tells D.contents s before first many x moment c.args.bay.now.router c.marks.self
          c.next_mark.new.self c.marks.bay c.marks.desk c.next_mark.new.desk c.hand_on.new.desk links c.in-Some.mark on
          known.gave (c.hand_on.ensures.wrote s before first on.links_now on.play known.stands known.may)
          (c.in-Err-hand_on.ensures.broke s before first on.links_now on.play known.stands known.may),
      tt,
    )
