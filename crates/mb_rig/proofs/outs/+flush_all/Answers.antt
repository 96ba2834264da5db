use Rattle.std.proofs.Common.{rules}
use Rattle.std.proofs.lemmas.Result.{on_ok_weaker}
use Rattle.mb_rig.proofs.OutsLemmas.{flush-behind, flush-step, outs-among}
use Rattle.mb_rig.proofs.outs.+flush_all.Goals as goal

pub flush_all-requires : goal.flush_all-requires
flush_all-requires g t c κs within =
    let D = g.D.Desk in
    let r = flush-behind D.tells D.contents D.read_faults c.args.outs.now c.in-Some.outs_behind.now
    c.in-Some.out.now c.args.desk.now c.flush.new.desk c.in-Some.ensures.cases.0 c.flush.ensures.among
    c.requires in
    (search rules, (within, r))

pub returns-clause-stand : goal.returns-clause-stand
returns-clause-stand g t c =
    let D = g.D.Desk in
    on_ok_weaker c.flush_all.result
    (flush-step D.tells D.contents D.read_faults c.args.outs.now c.in-Some.outs_behind.now c.flush_all.new.outs
    c.in-Some.out.now c.flush.new.out c.args.desk.now c.flush.new.desk c.flush_all.new.desk
    c.in-Some.ensures.cases.0 c.flush.ensures.handle c.in_default-flush.ensures.stands c.flush.ensures.among
    c.flush_all.ensures.among) c.flush_all.ensures.stand

pub returns-clause-among : goal.returns-clause-among
returns-clause-among g t c =
    let D = g.D.Desk in
    outs-among D.tells D.contents D.read_faults c.args.outs.now c.in-Some.out.now c.in-Some.outs_behind.now
    c.args.desk.now c.flush.new.desk c.flush_all.new.desk c.in-Some.ensures.cases.0 c.flush.ensures.among
    c.flush_all.ensures.among
