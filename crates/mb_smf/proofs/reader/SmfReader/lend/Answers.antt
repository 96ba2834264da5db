use Rattle.std.proofs.Common.{◌≡◌, ◌<◌, ◌≤◌, length, sym, ◌∙◌, ap, arith}
use Rattle.mb_smf.specs.SmfReading.{SmfState, run_room}
use Rattle.mb_smf.proofs.RunLemmas.{takes-run}
use Rattle.mb_smf.proofs.reader.SmfReader.lend.Goals as goal

pub returns-clause-takes : goal.returns-clause-takes
returns-clause-takes c =
    let room_is : c.args.room ≡ run_room c.self.inside.file = c.requires.room ∙ ap (λ (r : SmfState). run_room r.file)
    (sym c.self.view_is) in
    let short : c.min-count.result ≤ length c.args.input.now.now = omega (arith, c.min-count.ensures) in
    let some : 0 < c.min-count.result = omega (arith, c.min-count.ensures, c.requires.some, c.requires.there) in
    let fits : c.min-count.result ≤ run_room c.self.inside.file = omega (arith, c.min-count.ensures, room_is) in
    takes-run c.args.self.now c.self.inside.file c.pass.new.self c.self.inside.owed c.args.input.now.now
    c.split_at.result.0.now c.split_at.result.1.now
    c.min-count.result _ c.self.view_is c.requires.nothing short some fits c.split_at.ensures.front
    c.split_at.ensures.back c.pass.ensures c.moment-moment.ensures
