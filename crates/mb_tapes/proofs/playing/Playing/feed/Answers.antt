use Rattle.std.proofs.Common.{◌≡◌, ◌++◌, subst, rules}
use Rattle.std.proofs.lemmas.Result.{on_err_weaker}
use Rattle.mb_held.proofs.HeldLemmas.{Fronted, refused-then}
use Rattle.mb_smf.specs.Smf.{smf_from}
use Rattle.mb_tapes.specs.Played.{ended_records}
use Rattle.mb_tapes.specs.Playing.{playing_given}
use Rattle.mb_tapes.proofs.playing.Playing.feed.Goals as goal

pub returns-in-Ok-clause-part : goal.returns-in-Ok-clause-part
returns-in-Ok-clause-part g c =
    let all : c.begin.new.held.items
    ++ ended_records c.begin.new.self.gather (smf_from c.begin.new.self.file.file c.args.piece.now).given
    ≡ playing_given c.args.self.now c.args.piece.now = search rules in
    on_err_weaker c.hand_on.result
    (λ front. subst (Fronted (λ x. g.K.Out.took c.args.out.now x c.hand_on.new.out)) all
    (refused-then (λ x. g.K.Out.took c.args.out.now x c.read.new.out)
    (λ x. g.K.Out.took c.read.new.out x c.hand_on.new.out) (λ x. g.K.Out.took c.args.out.now x c.hand_on.new.out)
    (c.begin.new.held.items
    ++ ended_records c.begin.new.self.gather (smf_from c.begin.new.self.file.file c.args.piece.now).given)
    c.read.new.held.items (λ x y. g.met.K.Out.both _ _ _ x y) (c.in-Ok.ensures.ok).holds front))
    c.hand_on.ensures.front
