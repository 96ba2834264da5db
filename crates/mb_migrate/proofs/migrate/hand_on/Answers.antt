use Rattle.std.proofs.Common.{◌++◌, List, ℕ, subst}
use Rattle.mb_frames.specs.Migrated.{magic_between}
use Rattle.mb_held.proofs.HeldLemmas.{Fronted, given-then, refused-then}
use Rattle.mb_migrate.proofs.migrate.hand_on.Goals as goal

pub returns-in-Ok-clause-took : goal.returns-in-Ok-clause-took
returns-in-Ok-clause-took g c =
    given-then (λ x. g.K.Out.took c.args.out.now x c.put_magic.new.out)
    (λ x. g.K.Out.took c.put_magic.new.out x c.take.new.self) (λ x. g.K.Out.took c.args.out.now x c.take.new.self)
    (c.args.held.now.items ++ magic_between c.args.before c.args.now) c.put_magic.new.held.items
    (λ x y. g.met.K.Out.both _ _ _ x y) c.in_default.ensures.ok
    (subst (λ (xs : List ℕ). g.K.Out.took c.put_magic.new.out xs c.take.new.self) c.as_slice.ensures.value
    c.in-Ok.ensures.took)

pub returns-in-Err-take-clause-front : goal.returns-in-Err-take-clause-front
returns-in-Err-take-clause-front g c =
    refused-then (λ x. g.K.Out.took c.args.out.now x c.put_magic.new.out)
    (λ x. g.K.Out.took c.put_magic.new.out x c.take.new.self) (λ x. g.K.Out.took c.args.out.now x c.take.new.self)
    (c.args.held.now.items ++ magic_between c.args.before c.args.now) c.put_magic.new.held.items
    (λ x y. g.met.K.Out.both _ _ _ x y) c.in_default.ensures.ok
    (subst (Fronted (λ x. g.K.Out.took c.put_magic.new.out x c.take.new.self)) c.as_slice.ensures.value
    c.in-Err-take.ensures.front)
