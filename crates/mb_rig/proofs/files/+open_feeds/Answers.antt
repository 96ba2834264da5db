use Rattle.std.proofs.lemmas.Result.{on_err_weaker, on_ok_weaker}
use Rattle.mb_rig.proofs.GivenLemmas.{feeds-then, feeds-then_part, link-by}
use Rattle.mb_rig.proofs.files.+open_feeds.Goals as goal

pub returns-in-Ok-clause-opened : goal.returns-in-Ok-clause-opened
returns-in-Ok-clause-opened g t c =
    let D = g.D.Desk in
    let p = c.in-Some.port.now in
    on_ok_weaker c.open_feeds.result
    (feeds-then D.tells D.contents c.args.ports.now c.in-Some.ports_behind.now p c.args.limit c.args.feeds.now.items
    _ c.open_feeds.new.feeds.items c.new.result c.args.desk.now c.open_link.new.desk c.open_feeds.new.desk
    c.in-Some.ensures.cases.0 c.push.ensures.items
    (link-by D.tells D.contents p c.args.limit c.in-Ok.link c.new.result c.args.desk.now c.open_link.new.desk
    c.new.ensures.link c.in-Ok.ensures.opened c.in-Ok.ensures.spec c.in-Ok.ensures.track c.in-Ok.ensures.limit
    c.in-Ok.ensures.stands)) c.open_feeds.ensures.opened

pub returns-in-Ok-clause-part : goal.returns-in-Ok-clause-part
returns-in-Ok-clause-part g t c =
    let D = g.D.Desk in
    let p = c.in-Some.port.now in
    on_err_weaker c.open_feeds.result
    (feeds-then_part D.tells D.contents c.args.ports.now c.in-Some.ports_behind.now p c.args.limit
    c.args.feeds.now.items _ c.new.result c.args.desk.now c.open_link.new.desk c.open_feeds.new.desk
    c.in-Some.ensures.cases.0 c.push.ensures.items
    (link-by D.tells D.contents p c.args.limit c.in-Ok.link c.new.result c.args.desk.now c.open_link.new.desk
    c.new.ensures.link c.in-Ok.ensures.opened c.in-Ok.ensures.spec c.in-Ok.ensures.track c.in-Ok.ensures.limit
    c.in-Ok.ensures.stands)) c.open_feeds.ensures.part
