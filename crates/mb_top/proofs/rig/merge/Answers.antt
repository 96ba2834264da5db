use Rattle.std.proofs.Common.{inl, inr}
use Rattle.mb_top.proofs.RigRunLemmas.{end-faults, end-may, later-faults, no_rig-may}
use Rattle.mb_top.proofs.rig.merge.Goals as goal

pub returns-in-Ok-clause-did : goal.returns-in-Ok-clause-did
returns-in-Ok-clause-did g c = λ tells.
    let read = c.in-Ok.ensures.read tells in
    inr (record {
      start = _;
      rig = c.in-Ok.rig;
      opened = read.0;
      read = read.1;
      ending = c.run_rig-end.result;
      ends = c.run_rig-end.ensures.ends tells;
      keeps = c.run_rig-end.ensures.keeps tells;
      link = c.run_rig-end.ensures.link;
      answer = c.status_of.ensures;
    })

pub returns-in-Ok-clause-may : goal.returns-in-Ok-clause-may
returns-in-Ok-clause-may g c = end-may c.in-Ok.rig _ c.run_rig-end.result _ c.status_of.ensures

pub returns-in-Ok-clause-faults : goal.returns-in-Ok-clause-faults
returns-in-Ok-clause-faults g c =
    later-faults _ _ _ _ _ _ _ c.in-Ok.ensures.sound c.read_rig.ensures.write_faults
    (end-faults c.in-Ok.rig c.run_rig-end.result _ _ _ _ _ c.status_of.ensures c.run_rig-end.ensures.cause)

pub returns-in-Err-clause-did : goal.returns-in-Err-clause-did
returns-in-Err-clause-did g c = λ tells. inl (c.in-Err.ensures.read tells)

pub returns-in-Err-clause-may : goal.returns-in-Err-clause-may
returns-in-Err-clause-may g c = no_rig-may _ c.in-Err.stop c.in-Err.ensures.stops
