use Rattle.std.proofs.Common.{◌≡◌, ◌+◌, ◌*◌, length, refl, ap, ◌∙◌, rules}
use Rattle.std.proofs.Math.ListN.{set}
use Rattle.mb_fire.specs.Running.{next_dbc}
use Rattle.mb_fire.proofs.FilledBlocks.{filled, three-filled}
use Rattle.mb_fire.proofs.packet.put_three.Goals as goal

pub returns-clause-written : goal.returns-clause-written
returns-clause-written c =
    let out = c.args.out.now.items in
    let port = c.args.port in
    let next = next_dbc c.args.dbc in
    let before : c.len-start.result ≡ length out = search rules in
    three-filled port c.args.dbc c.args.first c.args.second c.args.third (length out) out c.append.new.out.items
    c.fill_below_eight.new.out.items c.fill_below_eight-2.new.out.items c.fill_below_eight-3.new.out.items c.requires.port refl
    c.append.ensures.written
    (c.fill_below_eight.ensures.written
    ∙ ap (λ n. filled (set c.append.new.out.items (n + 5) c.args.dbc) (n + (10 + 4 * port)) c.args.first) before)
    (c.fill_below_eight-2.ensures.written
    ∙ ap (λ n. filled (set c.fill_below_eight.new.out.items (n + 42 + 5) next) (n + 42 + (10 + 4 * port)) c.args.second)
    before)
    (c.fill_below_eight-3.ensures.written
    ∙ ap (λ n. filled (set c.fill_below_eight-2.new.out.items (n + 84 + 5) (next_dbc next)) (n + 84 + (10 + 4 * port))
    c.args.third) before)
