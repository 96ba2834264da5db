use Rattle.std.proofs.lemmas.Result.{on_ok_weaker}
use Rattle.mb_rig.proofs.BayLemmas.{among-slice, bay-ends, ended-slice, report-kept}
use Rattle.mb_rig.proofs.FrameLemmas.{bay-among}
use Rattle.mb_rig.proofs.bay.Bay.finish.Goals as goal

pub returns-clause-ended : goal.returns-clause-ended
returns-clause-ended g c =
    let D = g.D.Desk in
    on_ok_weaker c.finish_all.result (λ ended s before first links play st.
    bay-ends D.tells D.contents D.read_faults s before first c.args.self.now c.args.desk.now c.finish_all.new.desk
    links play st
    (ended-slice D.tells D.contents c.as_mut_slice.result.now c.args.self.now.outs.items c.args.desk.now
    c.finish_all.new.desk c.as_mut_slice.ensures.value ended)
    (among-slice D.tells D.contents D.read_faults c.as_mut_slice.result.now c.args.self.now.outs.items
    c.args.desk.now c.finish_all.new.desk c.as_mut_slice.ensures.value c.finish_all.ensures.among))
    c.finish_all.ensures.ended

pub returns-clause-report : goal.returns-clause-report
returns-clause-report g c = λ s before first links play.
    let D = g.D.Desk in
    report-kept D.tells D.contents D.read_faults s before first c.args.self.now c.args.desk.now
    c.finish_all.new.desk links play
    (among-slice D.tells D.contents D.read_faults c.as_mut_slice.result.now c.args.self.now.outs.items
    c.args.desk.now c.finish_all.new.desk c.as_mut_slice.ensures.value c.finish_all.ensures.among)
