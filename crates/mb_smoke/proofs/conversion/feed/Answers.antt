use Rattle.mb_smoke.proofs.ConvertLemmas.{feed-halted, feed-goes}
use Rattle.mb_smoke.proofs.conversion.feed.Goals as goal

pub unreachable-requires : goal.unreachable-requires
unreachable-requires c =
    feed-halted c.args.chain.now c.args.out.now c.feed.new.out c.requires.0 c.args.piece.now c.requires.1 c.requires.2
    c.in-Err.ensures.halted c.in-Err.ensures.cause.failed

pub returns : goal.returns
returns c = λ bytes h few.
    feed-goes c.args.chain.now c.feed.new.self c.args.out.now c.feed.new.out bytes c.args.piece.now h
    c.feed.ensures.links c.in-Ok.ensures.sound c.in-Ok.ensures.fed
