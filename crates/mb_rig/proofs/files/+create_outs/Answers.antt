use Rattle.std.proofs.lemmas.Result.{on_err_weaker, on_ok_weaker}
use Rattle.mb_rig.proofs.GivenLemmas.{outs-then, outs-then_part}
use Rattle.mb_rig.proofs.files.+create_outs.Goals as goal

pub returns-in-Ok-clause-created : goal.returns-in-Ok-clause-created
returns-in-Ok-clause-created g t c =
    let D = g.D.Desk in
    on_ok_weaker c.create_outs.result
    (outs-then D.tells D.contents c.args.ports.now c.in-Some.ports_behind.now c.in-Some.port.now
    c.args.outs.now.items _ c.create_outs.new.outs.items c.in-Ok.out c.args.desk.now c.create_outlet.new.desk
    c.create_outs.new.desk c.in-Some.ensures.cases.0 c.push.ensures.items
    (record { created = c.in-Ok.ensures.created; spec = c.in-Ok.ensures.spec; stands = c.in-Ok.ensures.stands }))
    c.create_outs.ensures.created

pub returns-in-Ok-clause-part : goal.returns-in-Ok-clause-part
returns-in-Ok-clause-part g t c =
    let D = g.D.Desk in
    on_err_weaker c.create_outs.result
    (outs-then_part D.tells D.contents c.args.ports.now c.in-Some.ports_behind.now c.in-Some.port.now
    c.args.outs.now.items _ c.in-Ok.out c.args.desk.now c.create_outlet.new.desk c.create_outs.new.desk
    c.in-Some.ensures.cases.0 c.push.ensures.items
    (record { created = c.in-Ok.ensures.created; spec = c.in-Ok.ensures.spec; stands = c.in-Ok.ensures.stands }))
    c.create_outs.ensures.part
