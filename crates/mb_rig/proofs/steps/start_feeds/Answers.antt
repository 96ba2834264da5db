use Rattle.std.proofs.Common.{◌≡◌, ◌<◌, ℕ, List, Some, refl, sym, ap, subst, ◌∙◌, arith, length, get_or}
use Rattle.std.specs.Prelude.{slice_get}
use Rattle.std.proofs.lemmas.Grind.{common_steps}
use Rattle.std.proofs.lemmas.List.{length-set}
use Rattle.std.proofs.lemmas.Option.{slice_get-get_or}
use Rattle.mb_outside.specs.Contents.{Contents}
use Rattle.mb_rig.specs.declared.feed.RunStop.TheVariants as stop
use Rattle.mb_rig.proofs.RunLemmas.{caused}
use Rattle.mb_rig.proofs.StartLemmas.{start-halts, under-all, under-first, under-halts, under-next, under-touched}
use Rattle.mb_rig.proofs.StepLemmas.{touched-none}
use Rattle.mb_rig.proofs.steps.start_feeds.Goals as goal

pub links-init : goal.links-init
links-init g c =
    let D = g.D.Desk in
    record {
      goes = λ s base limit ready. under-first D.tells D.contents s base limit c.args.feeds.now c.args.desk.now ready;
      touched = λ s base limit first outs ready. touched-none D.tells D.contents base _ first outs c.args.desk.now;
      many = refl;
      report = λ t. refl;
      reads = refl;
      writes = refl;
    }

pub start-requires : goal.start-requires
start-requires g c =
    let p = c.requires.ready in
    let under = c.links.invariant.goes p.0 p.1 p.2 p.3 in
    let many = c.links.invariant.many in
    record {
      stands =
          under.fresh c.links.at (get_or c.links.feeds c.links.at c.index-feeds-at.result)
          (slice_get-get_or c.links.feeds c.links.at c.index-feeds-at.result (grind (arith, common_steps, many)))
          (omega arith);
    }

pub returns-in-Err-clause-stops : goal.returns-in-Err-clause-stops
returns-in-Err-clause-stops g c = λ s base limit ready.
    let D = g.D.Desk in
    let many = c.links.invariant.many in
    let n = c.links.at in
    let f = get_or c.links.feeds n c.index-feeds-at.result in
    let at = slice_get-get_or c.links.feeds n c.index-feeds-at.result (grind (arith, common_steps, many)) in
    let under = c.links.invariant.goes s base limit ready in (
      under-halts D.tells D.contents s base limit n c.links.feeds c.links.desk c.start.new.desk f c.start.new.self under
          at c.start.ensures.same c.start.ensures.took c.start.ensures.front,
      start-halts D.tells s base limit n c.links.feeds f (D.contents c.start.new.desk) c.in-Err.stop c.end_of.result
          under.are at c.in-Err.ensures.stops c.end_of.ensures,
    )

pub returns-in-Err-clause-touched : goal.returns-in-Err-clause-touched
returns-in-Err-clause-touched g c = λ s base limit first outs ready.
    let D = g.D.Desk in
    let many = c.links.invariant.many in
    let n = c.links.at in
    let f = get_or c.links.feeds n c.index-feeds-at.result in
    let at = slice_get-get_or c.links.feeds n c.index-feeds-at.result (grind (arith, common_steps, many)) in
    under-touched D.tells D.contents s base limit first outs n _ c.links.feeds c.args.desk.now c.links.desk
    c.start.new.desk f (c.links.invariant.goes s base limit ready) at many
    (c.links.invariant.touched s base limit first outs ready) c.start.ensures.took

pub links-preserved : goal.links-preserved
links-preserved g c =
    let D = g.D.Desk in
    let i = c.links.invariant in
    let many = i.many in
    let n = c.links.at in
    let f = get_or c.links.feeds n c.index-feeds-at.result in
    let at = slice_get-get_or c.links.feeds n c.index-feeds-at.result (grind (arith, common_steps, many)) in
    record {
      goes = λ s base limit ready.
          under-next D.tells D.contents s base limit n c.links.feeds c.links.desk c.start.new.desk f c.start.new.self
          (i.goes s base limit ready) at c.start.ensures.same c.start.ensures.took (c.in_default.ensures.stands n);
      touched = λ s base limit first outs ready.
          under-touched D.tells D.contents s base limit first outs n _ c.links.feeds c.args.desk.now c.links.desk
          c.start.new.desk f (i.goes s base limit ready) at many (i.touched s base limit first outs ready)
          c.start.ensures.took;
      many = length-set c.links.feeds n c.start.new.self ∙ many;
      report = λ t. ap (λ (z : Contents). z.written) (c.start.ensures.took t).contents ∙ i.report t;
      reads = c.in_default.ensures.sound ∙ i.reads;
      writes = c.start.ensures.write_faults ∙ i.writes;
    }

pub returns-clause-starts : goal.returns-clause-starts
returns-clause-starts g c = λ s base limit ready.
    let D = g.D.Desk in
    let many = c.links.invariant.many in
    under-all D.tells D.contents s base limit c.links.at c.links.feeds c.links.desk
    (c.links.invariant.goes s base limit ready) (grind (arith, common_steps, many))
