use Rattle.std.proofs.Common.{◌≤◌, ◌^◌, ◌∙◌, arith}
use Rattle.mb_rig.proofs.FilesLemmas.{link-opened}
use Rattle.mb_rig.proofs.files.open_link.Goals as goal

pub returns-in-Ok-clause-stands : goal.returns-in-Ok-clause-stands
returns-in-Ok-clause-stands g c =
    let D = g.D.Desk in
    let most : c.new.result.supply.limit ≤ 2 ^ 40 = omega (arith, c.new.ensures.limit, c.requires.most) in
    link-opened D.tells D.contents c.new.result c.args.desk.now c.open.new.self _ c.new.ensures.reading most
    c.new.ensures.ahead c.new.ensures.reads
    (λ t.
    let o = c.in-Ok.ensures.contents t in
    (c.new.ensures.handle ∙ o.0, o.1, o.2))
