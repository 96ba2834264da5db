use Rattle.std.proofs.lemmas.Result.{on_err_weaker}
use Rattle.mb_smf.proofs.HandOnLemmas.{front-then, front-within}
use Rattle.mb_smf.proofs.hand_on.take_both.Goals as goal

pub returns-in-Err-clause-front : goal.returns-in-Err-clause-front
returns-in-Err-clause-front g c =
    front-within g.K.Out.took c.args.out.now c.take.new.self c.args.first.now c.args.second.now c.in-Err.ensures.front

pub returns-clause-front : goal.returns-clause-front
returns-clause-front g c =
    on_err_weaker _
    (front-then g.K.Out.took g.met.K.Out.both c.args.out.now c.take.new.self c.take-2.new.self c.args.first.now
    c.args.second.now c.in_default.ensures.took) c.take-2.ensures.front
