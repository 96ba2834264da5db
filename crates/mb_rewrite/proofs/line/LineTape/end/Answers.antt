use Rattle.std.proofs.Common.{◌≡◌, ◌++◌, [], List, refl, sym, ap, ◌∙◌, subst, append-nil}
use Rattle.std.proofs.lemmas.Result.{on_ok_weaker, on_err_weaker}
use Rattle.mb_frames.specs.Gathering.{written_piece}
use Rattle.mb_held.proofs.HeldLemmas.{Fronted, fronted-then, fronted-within}
use Rattle.mb_rewrite.proofs.line.LineTape.end.Goals as goal

pub returns-in-Err-clause-err : goal.returns-in-Err-clause-err
returns-in-Err-clause-err g c =
    fronted-within _ _ _ c.in-Err.ensures.err
    (written_piece c.args.self.now.gather.moment c.args.self.now.gather.bytes, refl)

pub returns-clause-err : goal.returns-clause-err
returns-clause-err g c =
    on_err_weaker c.take.result
    (λ front. fronted-then (λ x. g.K.Out.took c.args.out.now x c.make_place.new.out)
    (λ x. g.K.Out.took c.make_place.new.out x c.take.new.self)
    (λ x. g.K.Out.took c.args.out.now x c.take.new.self) c.args.held.now.items
    (written_piece c.args.self.now.gather.moment c.args.self.now.gather.bytes) c.make_place.new.held.items
    (λ x y. g.met.K.Out.both _ _ _ x y) c.in_default.ensures.ok
    (subst (Fronted (λ x. g.K.Out.took c.make_place.new.out x c.take.new.self))
    (c.as_slice.ensures.value ∙ c.finish.ensures.written) front)) c.take.ensures.front
