use Rattle.std.proofs.Common.{◌++◌, List, ℕ, append_assoc, flat_map, subst, sym}
use Rattle.std.proofs.lemmas.Result.{on_ok_weaker, on_err_weaker}
use Rattle.mb_frames.specs.TapeReading.{told_part}
use Rattle.mb_frames.specs.Migrated.{magic_between, part_bytes}
use Rattle.mb_held.specs.Held.{Holds}
use Rattle.mb_held.proofs.HeldLemmas.{Fronted, holds-then, fronted-then, fronted-within}
use Rattle.mb_migrate.proofs.migrate.put_told.Goals as goal

pub returns-in-Err-clause-err : goal.returns-in-Err-clause-err
returns-in-Err-clause-err g c =
    let told = flat_map part_bytes (told_part c.args.part) in
    fronted-within _ _ _ c.in-Err.ensures.err
    (told, sym (append_assoc c.args.held.now.items (magic_between c.args.before c.args.now) told))

pub returns-clause-ok : goal.returns-clause-ok
returns-clause-ok g c =
    let told = flat_map part_bytes (told_part c.args.part) in
    on_ok_weaker c.put_part.result
    (λ h. subst (λ (xs : List ℕ). Holds (λ x. g.K.Out.took c.args.out.now x c.put_part.new.out) xs
    c.put_part.new.held.items) (append_assoc c.args.held.now.items (magic_between c.args.before c.args.now) told)
    (holds-then (λ x. g.K.Out.took c.args.out.now x c.put_magic.new.out)
    (λ x. g.K.Out.took c.put_magic.new.out x c.put_part.new.out)
    (λ x. g.K.Out.took c.args.out.now x c.put_part.new.out)
    (c.args.held.now.items ++ magic_between c.args.before c.args.now) told c.put_magic.new.held.items
    c.put_part.new.held.items (λ x y. g.met.K.Out.both _ _ _ x y) c.in_default.ensures.ok h)) c.put_part.ensures.ok

pub returns-clause-err : goal.returns-clause-err
returns-clause-err g c =
    let told = flat_map part_bytes (told_part c.args.part) in
    on_err_weaker c.put_part.result
    (λ h. subst (Fronted (λ x. g.K.Out.took c.args.out.now x c.put_part.new.out))
    (append_assoc c.args.held.now.items (magic_between c.args.before c.args.now) told)
    (fronted-then (λ x. g.K.Out.took c.args.out.now x c.put_magic.new.out)
    (λ x. g.K.Out.took c.put_magic.new.out x c.put_part.new.out)
    (λ x. g.K.Out.took c.args.out.now x c.put_part.new.out)
    (c.args.held.now.items ++ magic_between c.args.before c.args.now) told c.put_magic.new.held.items
    (λ x y. g.met.K.Out.both _ _ _ x y) c.in_default.ensures.ok h)) c.put_part.ensures.err
