use Rattle.std.proofs.Common.{◌≡◌, ◌+◌, ◌*◌, length, refl, ap, ◌∙◌, rules}
use Rattle.std.proofs.Math.ListN.{set}
use Rattle.mb_fire.proofs.FilledBlocks.{filled, one-filled}
use Rattle.mb_fire.proofs.packet.put_below_eight.Goals as goal

pub returns-clause-written : goal.returns-clause-written
returns-clause-written c =
    let out = c.args.out.now.items in
    let before : c.len-start.result ≡ length out = search rules in
    one-filled c.args.stream c.args.byte c.args.dbc (length out) out c.append.new.out.items c.fill_below_eight.new.out.items
    c.requires.stream refl c.append.ensures.written
    (c.fill_below_eight.ensures.written
    ∙ ap (λ n. filled (set c.append.new.out.items (n + 5) c.args.dbc) (n + (10 + 4 * c.args.stream)) c.args.byte) before)
