use Rattle.std.proofs.Common.{sym, ap, ◌∙◌}
use Rattle.std.specs.Prelude.{not}
use Rattle.mb_outside.specs.Contents.{next_handle}
use Rattle.mb_rig.proofs.EndLemmas.{close-breaks, run-done, run-part}
use Rattle.mb_rig.proofs.run.close.Goals as goal

pub returns-then-any_cut-clause-merges : goal.returns-then-any_cut-clause-merges
returns-then-any_cut-clause-merges g c = λ s start first limit rig t first_is over.
    let D = g.D.Desk in
    let st = over.stands.bay in
    let wrote = c.finish.ensures.wrote s (start.written 1) first over.links over.play st in
    let d = run-done D.tells D.contents s first limit c.args.feeds.now c.args.bay.now c.args.desk.now
    c.finish.new.desk start rig over t first_is (wrote.taken t) (wrote.left t)
    (c.in-Ok.ensures.ended s (start.written 1) first over.links over.play st) in
    (d.through, d.run, d.whole ∙ ap not (sym c.any_cut.ensures ∙ c.if-any_cut.true))

pub returns-else-any_cut-clause-merges : goal.returns-else-any_cut-clause-merges
returns-else-any_cut-clause-merges g c = λ s start first limit rig t first_is over.
    let D = g.D.Desk in
    let st = over.stands.bay in
    let wrote = c.finish.ensures.wrote s (start.written 1) first over.links over.play st in
    let d = run-done D.tells D.contents s first limit c.args.feeds.now c.args.bay.now c.args.desk.now
    c.finish.new.desk start rig over t first_is (wrote.taken t) (wrote.left t)
    (c.in-Ok.ensures.ended s (start.written 1) first over.links over.play st) in
    (d.through, d.run, d.whole ∙ ap not (sym c.any_cut.ensures ∙ c.if-any_cut.false))

pub returns-then-any_cut-clause-wrote : goal.returns-then-any_cut-clause-wrote
returns-then-any_cut-clause-wrote g c = λ s before base first limit over.
    c.finish.ensures.wrote s before first over.links over.play over.stands.bay

pub returns-else-any_cut-clause-wrote : goal.returns-else-any_cut-clause-wrote
returns-else-any_cut-clause-wrote g c = λ s before base first limit over.
    c.finish.ensures.wrote s before first over.links over.play over.stands.bay

pub returns-in-Err-clause-wrote : goal.returns-in-Err-clause-wrote
returns-in-Err-clause-wrote g c = λ s before base first limit over.
    c.finish.ensures.wrote s before first over.links over.play over.stands.bay

pub returns-in-Err-clause-merges : goal.returns-in-Err-clause-merges
returns-in-Err-clause-merges g c = λ s start first limit rig t first_is over.
    let D = g.D.Desk in
    let st = over.stands.bay in
    run-part D.tells D.contents s limit c.args.feeds.now c.finish.new.desk start
    (close-breaks D.tells D.contents s (start.written 1) (next_handle start) first limit _ c.args.feeds.now
    c.args.bay.now c.args.desk.now c.finish.new.desk over
    (c.finish.ensures.wrote s (start.written 1) first over.links over.play st)
    (c.finish.ensures.report s (start.written 1) first over.links over.play st)) t
