use Rattle.std.proofs.Common.{◌++◌, [], refl}
use Rattle.std.proofs.lemmas.Result.{on_ok_weaker, on_err_weaker}
use Rattle.mb_held.proofs.HeldLemmas.{fronted-then, fronted-within, holds-none}
use Rattle.mb_held.proofs.held.put_bytes.Goals as goal

pub returns-in-Err-clause-err : goal.returns-in-Err-clause-err
returns-in-Err-clause-err g c = fronted-within _ _ _ c.in-Err.ensures.err (c.args.bytes.now, refl)

pub returns-clause-ok : goal.returns-clause-ok
returns-clause-ok g c =
    on_ok_weaker _
    (λ took. holds-none _ (c.args.held.now.items ++ c.args.bytes.now) c.empty.new.held.items c.in_default.ensures.none
    (g.met.K.Out.both _ _ _ _ _ c.in_default.ensures.took took)) c.take.ensures.took

pub returns-clause-err : goal.returns-clause-err
returns-clause-err g c =
    on_err_weaker _
    (λ front. fronted-then (λ x. g.K.Out.took c.args.out.now x c.empty.new.out)
    (λ x. g.K.Out.took c.empty.new.out x c.take.new.self) (λ x. g.K.Out.took c.args.out.now x c.take.new.self)
    c.args.held.now.items c.args.bytes.now [] (λ x y. g.met.K.Out.both _ _ _ x y)
    (holds-none _ c.args.held.now.items [] refl c.in_default.ensures.took) front) c.take.ensures.front
