use Rattle.std.proofs.Common.{rules}
use Rattle.std.proofs.lemmas.Result.{on_ok_weaker}
use Rattle.mb_rig.proofs.OutsLemmas.{flush-behind, finish-step, outs-among}
use Rattle.mb_rig.proofs.outs.+finish_all.Goals as goal

pub finish_all-requires : goal.finish_all-requires
finish_all-requires g t c κs within =
    let D = g.D.Desk in
    let r = flush-behind D.tells D.contents D.read_faults c.args.outs.now c.in-Some.outs_behind.now
    c.in-Some.out.now c.args.desk.now c.finish.new.desk c.in-Some.ensures.cases.0 c.finish.ensures.among
    c.requires in
    (search rules, (within, r))

pub returns-clause-ended : goal.returns-clause-ended
returns-clause-ended g t c =
    let D = g.D.Desk in
    on_ok_weaker c.finish_all.result
    (finish-step D.tells D.contents D.read_faults c.args.outs.now c.in-Some.outs_behind.now c.in-Some.out.now
    c.args.desk.now c.finish.new.desk c.finish_all.new.desk c.in-Some.ensures.cases.0
    c.in_default-finish.ensures.ended c.finish.ensures.among c.finish_all.ensures.among) c.finish_all.ensures.ended

pub returns-clause-among : goal.returns-clause-among
returns-clause-among g t c =
    let D = g.D.Desk in
    outs-among D.tells D.contents D.read_faults c.args.outs.now c.in-Some.out.now c.in-Some.outs_behind.now
    c.args.desk.now c.finish.new.desk c.finish_all.new.desk c.in-Some.ensures.cases.0 c.finish.ensures.among
    c.finish_all.ensures.among
