use Rattle.std.proofs.Common.{ℕ, length, subst, sym, ◌∙◌, ap, arith}
use Rattle.mb_outside.specs.Contents.{Contents, next_handle}
use Rattle.mb_rig.specs.RigText.{Setup}
use Rattle.mb_rig.specs.Running.{RunTouched}
use Rattle.mb_rig.proofs.BeginLemmas.{cause-from, halt-merges, run-starts}
use Rattle.mb_rig.proofs.EndLemmas.{halts-link, stop-merges}
use Rattle.mb_rig.proofs.StepLemmas.{touched-then, touched-wrote}
use Rattle.mb_rig.proofs.run.run_feeds.Goals as goal

pub start_feeds-requires-clause-few : goal.start_feeds-requires-clause-few
start_feeds-requires-clause-few g c =
    let b = c.requires.begins.5 in
    let few = b.right.counts.1 in
    let many = b.ready.are.many in
    omega (arith, few, many)

pub run_steps-requires : goal.run_steps-requires
run_steps-requires g c =
    let D = g.D.Desk in
    let p = c.requires.begins in
    let b = p.5 in
    record {
      stands = (
        p.0,
        p.1,
        p.2,
        p.3,
        p.4,
        _,
        _,
        run-starts D.tells D.contents p.0 p.1 p.2 p.3 p.4 (length c.args.feeds.now) 0 c.args.feeds.now
            c.start_feeds.new.feeds c.args.bay.now c.args.desk.now c.start_feeds.new.desk b
            (c.in-Ok.ensures.starts p.0 p.2 p.4 b.ready) c.start_feeds.ensures.report
            (c.start_feeds.ensures.touched p.0 p.2 p.4 p.3 0 b.ready),
      );
    }

pub close-requires : goal.close-requires
close-requires g c =
    let D = g.D.Desk in
    let p = c.requires.begins in
    let b = p.5 in
    record {
      over = (
        p.0,
        p.1,
        p.2,
        p.3,
        p.4,
        c.in-Ok-run_steps.ensures.over p.0 p.1 p.2 p.3 p.4 _ _
            (run-starts D.tells D.contents p.0 p.1 p.2 p.3 p.4 (length c.args.feeds.now) 0 c.args.feeds.now
            c.start_feeds.new.feeds c.args.bay.now c.args.desk.now c.start_feeds.new.desk b
            (c.in-Ok.ensures.starts p.0 p.2 p.4 b.ready) c.start_feeds.ensures.report
            (c.start_feeds.ensures.touched p.0 p.2 p.4 p.3 0 b.ready)),
      );
    }

pub returns-in-Ok-run_steps-clause-merges : goal.returns-in-Ok-run_steps-clause-merges
returns-in-Ok-run_steps-clause-merges g c = λ s start first limit t first_is b.
    let D = g.D.Desk in
    c.close.ensures.merges s start first limit b.right t first_is
    (c.in-Ok-run_steps.ensures.over s (start.written 1) (next_handle start) first limit _ _
    (run-starts D.tells D.contents s (start.written 1) (next_handle start) first limit (length c.args.feeds.now) 0
    c.args.feeds.now c.start_feeds.new.feeds c.args.bay.now c.args.desk.now c.start_feeds.new.desk b
    (c.in-Ok.ensures.starts s (next_handle start) limit b.ready) c.start_feeds.ensures.report
    (c.start_feeds.ensures.touched s (next_handle start) limit first 0 b.ready)))

pub returns-in-Ok-run_steps-clause-touched : goal.returns-in-Ok-run_steps-clause-touched
returns-in-Ok-run_steps-clause-touched g c = λ s before base first limit b.
    let D = g.D.Desk in
    let st = run-starts D.tells D.contents s before base first limit (length c.args.feeds.now) 0 c.args.feeds.now
    c.start_feeds.new.feeds c.args.bay.now c.args.desk.now c.start_feeds.new.desk b
    (c.in-Ok.ensures.starts s base limit b.ready) c.start_feeds.ensures.report
    (c.start_feeds.ensures.touched s base limit first 0 b.ready) in
    touched-then D.tells D.contents base _ first _ c.args.desk.now c.run_steps.new.desk c.close.new.desk
    (touched-then D.tells D.contents base _ first _ c.args.desk.now c.start_feeds.new.desk c.run_steps.new.desk
    (c.start_feeds.ensures.touched s base limit first _ b.ready)
    (subst (λ (n : ℕ). RunTouched D.tells D.contents base n first (length c.args.bay.now.outs.items)
    c.start_feeds.new.desk c.run_steps.new.desk) c.start_feeds.ensures.many
    (c.run_steps.ensures.touched s before base first limit _ _ st)))
    (touched-wrote D.tells D.contents base _ first _ _ c.run_steps.new.desk c.close.new.desk c.run_steps.ensures.outs
    (c.close.ensures.wrote s before base first limit (c.in-Ok-run_steps.ensures.over s before base first limit _ _ st)))

pub returns-in-Ok-run_steps-clause-link : goal.returns-in-Ok-run_steps-clause-link
returns-in-Ok-run_steps-clause-link g c = λ s before base first limit b. c.close.ensures.link s

pub returns-in-Err-run_steps-clause-merges : goal.returns-in-Err-run_steps-clause-merges
returns-in-Err-run_steps-clause-merges g c = λ s start first limit t first_is b.
    let D = g.D.Desk in
    stop-merges D.tells D.contents s first limit c.run_steps.new.feeds c.run_steps.new.bay c.run_steps.new.desk start
    c.in-Err-run_steps.end b.right first_is t
    (c.in-Err-run_steps.ensures.stops s (start.written 1) (next_handle start) first limit _ _
    (run-starts D.tells D.contents s (start.written 1) (next_handle start) first limit (length c.args.feeds.now) 0
    c.args.feeds.now c.start_feeds.new.feeds c.args.bay.now c.args.desk.now c.start_feeds.new.desk b
    (c.in-Ok.ensures.starts s (next_handle start) limit b.ready) c.start_feeds.ensures.report
    (c.start_feeds.ensures.touched s (next_handle start) limit first 0 b.ready)))

pub returns-in-Err-run_steps-clause-touched : goal.returns-in-Err-run_steps-clause-touched
returns-in-Err-run_steps-clause-touched g c = λ s before base first limit b.
    let D = g.D.Desk in
    let st = run-starts D.tells D.contents s before base first limit (length c.args.feeds.now) 0 c.args.feeds.now
    c.start_feeds.new.feeds c.args.bay.now c.args.desk.now c.start_feeds.new.desk b
    (c.in-Ok.ensures.starts s base limit b.ready) c.start_feeds.ensures.report
    (c.start_feeds.ensures.touched s base limit first 0 b.ready) in
    touched-then D.tells D.contents base _ first _ c.args.desk.now c.start_feeds.new.desk c.run_steps.new.desk
    (c.start_feeds.ensures.touched s base limit first _ b.ready)
    (subst (λ (n : ℕ). RunTouched D.tells D.contents base n first (length c.args.bay.now.outs.items)
    c.start_feeds.new.desk c.run_steps.new.desk) c.start_feeds.ensures.many
    (c.run_steps.ensures.touched s before base first limit _ _ st))

pub returns-in-Err-run_steps-clause-link : goal.returns-in-Err-run_steps-clause-link
returns-in-Err-run_steps-clause-link g c = λ s before base first limit b.
    let D = g.D.Desk in
    halts-link D.tells s base limit (D.contents c.run_steps.new.desk) c.in-Err-run_steps.end
    (c.in-Err-run_steps.ensures.stops s before base first limit _ _
    (run-starts D.tells D.contents s before base first limit (length c.args.feeds.now) 0 c.args.feeds.now
    c.start_feeds.new.feeds c.args.bay.now c.args.desk.now c.start_feeds.new.desk b
    (c.in-Ok.ensures.starts s base limit b.ready) c.start_feeds.ensures.report
    (c.start_feeds.ensures.touched s base limit first 0 b.ready))).1

pub returns-in-Err-clause-merges : goal.returns-in-Err-clause-merges
returns-in-Err-clause-merges g c = λ s start first limit t first_is b.
    let D = g.D.Desk in
    halt-merges D.tells D.contents s first limit c.args.feeds.now c.start_feeds.new.feeds c.args.bay.now
    c.args.desk.now c.start_feeds.new.desk start c.in-Err.end first_is t b
    (c.in-Err.ensures.stops s (next_handle start) limit b.ready) (c.start_feeds.ensures.report t)

pub returns-in-Err-clause-touched : goal.returns-in-Err-clause-touched
returns-in-Err-clause-touched g c = λ s before base first limit b.
    c.start_feeds.ensures.touched s base limit first _ b.ready

pub returns-in-Err-clause-link : goal.returns-in-Err-clause-link
returns-in-Err-clause-link g c = λ s before base first limit b.
    let D = g.D.Desk in
    halts-link D.tells s base limit (D.contents c.start_feeds.new.desk) c.in-Err.end
    (c.in-Err.ensures.stops s base limit b.ready).1
