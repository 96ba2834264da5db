use Rattle.mb_smoke.proofs.ConvertLemmas.{end-halted, end-goes}
use Rattle.mb_smoke.proofs.conversion.end.Goals as goal

pub unreachable-requires : goal.unreachable-requires
unreachable-requires c =
    end-halted c.args.chain.now c.args.out.now c.finish.new.out c.requires.0 c.requires.1 c.requires.2
    c.in-Err.ensures.halted c.in-Err.ensures.cause.failed

pub returns : goal.returns
returns c = λ bytes h few.
    end-goes c.args.chain.now c.finish.new.self c.args.out.now c.finish.new.out c.finish-in-Ok.new.self bytes h
    c.finish.ensures.links c.in-Ok.ensures.ended c.finish-in-Ok.ensures
