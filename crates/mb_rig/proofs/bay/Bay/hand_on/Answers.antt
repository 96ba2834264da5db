use Rattle.std.proofs.Common.{refl, sym, ap, subst, ◌∙◌, true}
use Rattle.std.specs.Prelude.{slice_set}
use Rattle.mb_merge.specs.Links.{Merger}
use Rattle.mb_rig.specs.Bay.{OffersOf}
use Rattle.mb_rig.proofs.BayLemmas.{bay-stalls, bay-taken, bay-takes, room-ok, source-within}
use Rattle.mb_rig.proofs.Merging.RoomLemmas.{offers-own}
use Rattle.mb_rig.proofs.bay.Bay.hand_on.Goals as goal

pub offer-requires-clause-source : goal.offer-requires-clause-source
offer-requires-clause-source g c =
    let r = c.requires.stands in
    source-within r.0 c.args.self.now r.3 r.4 c.args.link r.5.course r.6.source

pub drain-requires : goal.drain-requires
drain-requires g c =
    let D = g.D.Desk in
    let r = c.requires.stands in
    record {
      stands = (
        r.0,
        r.1,
        r.2,
        _,
        _,
        bay-takes D.tells D.contents r.0 r.1 r.2 c.args.self.now _ c.args.desk.now r.3 r.4
            c.args.link c.args.moment c.args.mark r.5 r.6 (room-ok c.offer.result _ _ c.in-Ok.is c.offer.ensures.full) c.in-Ok.ensures.ok refl refl refl,
      );
    }

pub returns-in-Ok-drain-clause-handed : goal.returns-in-Ok-drain-clause-handed
returns-in-Ok-drain-clause-handed g c = λ s before first links play st may.
    let D = g.D.Desk in
    bay-taken D.tells D.contents s before first c.args.self.now _ c.drain.new.self c.drain.new.desk links c.args.link
    c.args.moment c.args.mark c.in-Ok.ensures.ok
    (c.in-Ok-drain.ensures.goes s before first _ _ c.args.link
    (bay-takes D.tells D.contents s before first c.args.self.now _ c.args.desk.now links play c.args.link
    c.args.moment c.args.mark st may (room-ok c.offer.result _ _ c.in-Ok.is c.offer.ensures.full) c.in-Ok.ensures.ok refl refl refl) (subst (λ (m : Merger). OffersOf m c.args.link) (sym c.in-Ok.ensures.ok)
    (offers-own c.args.self.now.router c.args.link c.args.moment c.args.mark)))

pub returns-in-Ok-drain-clause-wrote : goal.returns-in-Ok-drain-clause-wrote
returns-in-Ok-drain-clause-wrote g c = λ s before first links play st may.
    let D = g.D.Desk in
    c.drain.ensures.wrote s before first _ _ (bay-takes D.tells D.contents s before first c.args.self.now _
    c.args.desk.now links play c.args.link c.args.moment c.args.mark st may (room-ok c.offer.result _ _ c.in-Ok.is c.offer.ensures.full) c.in-Ok.ensures.ok refl refl refl)

pub returns-in-Err-drain-clause-wrote : goal.returns-in-Err-drain-clause-wrote
returns-in-Err-drain-clause-wrote g c = λ s before first links play st may.
    let D = g.D.Desk in
    c.drain.ensures.wrote s before first _ _ (bay-takes D.tells D.contents s before first c.args.self.now _
    c.args.desk.now links play c.args.link c.args.moment c.args.mark st may (room-ok c.offer.result _ _ c.in-Ok.is c.offer.ensures.full) c.in-Ok.ensures.ok refl refl refl)

pub returns-in-Err-clause-handed : goal.returns-in-Err-clause-handed
returns-in-Err-clause-handed g c = λ s before first links play st may.
    let D = g.D.Desk in
    bay-stalls D.tells D.contents s before first c.args.self.now _ c.args.desk.now links play c.args.link
    c.args.moment c.args.mark st may (sym c.in-Err.ensures.held ∙ c.in-Err.ensures.room) c.in-Err.ensures.err (ap (λ n. slice_set c.args.self.now.stalled n true) c.from.ensures) refl refl

pub returns-in-Err-drain-clause-broke : goal.returns-in-Err-drain-clause-broke
returns-in-Err-drain-clause-broke g c = λ s before first links play st may.
    let D = g.D.Desk in
    c.in-Err-drain.ensures.broke s before first _ _ c.args.link
    (bay-takes D.tells D.contents s before first c.args.self.now _ c.args.desk.now links play c.args.link
    c.args.moment c.args.mark st may (room-ok c.offer.result _ _ c.in-Ok.is c.offer.ensures.full) c.in-Ok.ensures.ok
    refl refl refl) (subst (λ (m : Merger). OffersOf m c.args.link) (sym c.in-Ok.ensures.ok)
    (offers-own c.args.self.now.router c.args.link c.args.moment c.args.mark))
