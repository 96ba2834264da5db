use Rattle.std.proofs.Common.{refl, ap, ◌∙◌, map}
use Rattle.std.proofs.lemmas.Result.{on_ok_weaker}
use Rattle.mb_rig.specs.Outlet.{outlet_spec}
use Rattle.mb_rig.proofs.BayLemmas.{among-slice, bay-flushes, flushed-slice, outs-items, report-kept}
use Rattle.mb_rig.proofs.bay.Bay.flush.Goals as goal

pub returns-clause-stands : goal.returns-clause-stands
returns-clause-stands g c =
    let D = g.D.Desk in
    let outs = c.args.self.now.outs in
    let specs = c.flush_all.ensures.specs ∙ ap (map outlet_spec) c.as_mut_slice.ensures.value in
    let items = outs-items outs c.flush_all.new.outs specs in
    on_ok_weaker c.flush_all.result (λ flushed s before first links play st.
    bay-flushes D.tells D.contents D.read_faults s before first c.args.self.now _ c.args.desk.now
    c.flush_all.new.desk links play st refl refl refl (ap (map outlet_spec) items ∙ specs)
    (flushed-slice D.tells D.contents c.as_mut_slice.result.now outs.items c.flush_all.new.outs _ c.args.desk.now
    c.flush_all.new.desk c.as_mut_slice.ensures.value items flushed)
    (among-slice D.tells D.contents D.read_faults c.as_mut_slice.result.now outs.items c.args.desk.now
    c.flush_all.new.desk c.as_mut_slice.ensures.value c.flush_all.ensures.among)) c.flush_all.ensures.stand

pub returns-clause-report : goal.returns-clause-report
returns-clause-report g c = λ s before first links play.
    let D = g.D.Desk in
    report-kept D.tells D.contents D.read_faults s before first c.args.self.now c.args.desk.now
    c.flush_all.new.desk links play
    (among-slice D.tells D.contents D.read_faults c.as_mut_slice.result.now c.args.self.now.outs.items
    c.args.desk.now c.flush_all.new.desk c.as_mut_slice.ensures.value c.flush_all.ensures.among)
