use Rattle.std.proofs.Common.{rules}
use Rattle.std.proofs.lemmas.Result.{on_ok_weaker}
use Rattle.mb_rig.proofs.OutsLemmas.{outs-among, pass-behind, pass-step}
use Rattle.mb_rig.proofs.outs.+pass_on.Goals as goal

pub pass_on-requires : goal.pass_on-requires
pass_on-requires g t c κs within =
    let D = g.D.Desk in
    let r = pass-behind D.tells D.contents D.read_faults c.args.goes.now c.in-Some-split_first.goes_behind.now
    c.in-Some-split_first.here.now c.args.mark c.args.outs.now c.in-Some.outs_behind.now c.in-Some.out.now
    c.args.desk.now c.pass_to.new.desk c.in-Some.ensures.cases.0 c.in-Some-split_first.ensures.cases.0
    c.pass_to.ensures.among c.requires.stand c.requires.suits in
    (search rules, (within, (r.0, r.1)))

pub returns-clause-stand : goal.returns-clause-stand
returns-clause-stand g t c =
    let D = g.D.Desk in
    on_ok_weaker c.pass_on.result
    (pass-step D.tells D.contents D.read_faults c.args.goes.now c.in-Some-split_first.goes_behind.now
    c.in-Some-split_first.here.now _ c.args.outs.now c.in-Some.outs_behind.now c.pass_on.new.outs c.in-Some.out.now
    c.pass_to.new.out c.args.desk.now c.pass_to.new.desk c.pass_on.new.desk c.in-Some.ensures.cases.0
    c.in-Some-split_first.ensures.cases.0 c.pass_to.ensures.handle c.in_default-pass_to.ensures.stands
    c.pass_to.ensures.among c.pass_on.ensures.among) c.pass_on.ensures.stand

pub returns-clause-among : goal.returns-clause-among
returns-clause-among g t c =
    let D = g.D.Desk in
    outs-among D.tells D.contents D.read_faults c.args.outs.now c.in-Some.out.now c.in-Some.outs_behind.now
    c.args.desk.now c.pass_to.new.desk c.pass_on.new.desk c.in-Some.ensures.cases.0 c.pass_to.ensures.among
    c.pass_on.ensures.among
