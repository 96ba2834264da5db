use Rattle.std.proofs.Common.{◌≡◌, ◌++◌, List, ap, ◌∙◌, subst, refl, Some, None}
use Rattle.std.proofs.lemmas.Result.{on_ok_weaker, on_err_weaker}
use Rattle.mb_frames.specs.Tapes.{RecordPart}
use Rattle.mb_frames.specs.TapeReading.{TapeTakes, told_of, told_part}
use Rattle.mb_frames.specs.Migrated.{magic_between}
use Rattle.mb_frames.proofs.TapeStepLemmas.{over-none}
use Rattle.mb_migrate.proofs.PieceLemmas.{going-start, going-step, going-none, going-refused, over-end, over-fault}
use Rattle.mb_migrate.proofs.PieceLemmas.{over-state, over-given, over-refused, fault-is, no-fault, on-ok, if-ok}
use Rattle.mb_migrate.proofs.migrate.migrate_piece.Goals as goal

pub parts-init : goal.parts-init
parts-init g c =
    record {
      ready = c.requires;
      sound = refl;
      going = going-start c.args.tape.now c.args.piece.now c.new-held.result.items
          (λ x. g.K.Out.took c.args.out.now x c.args.out.now) c.new-held.ensures (g.met.K.Out.nothing c.args.out.now);
    }

pub parts-preserved : goal.parts-preserved
parts-preserved g c =
    let some : c.in-Ok-Some.field-0 ≡ Some c.in-Ok-Some.part = c.in-Ok-Some.field-0-is in
    record {
      ready = c.put_told.ensures.ready;
      sound = c.in_default.ensures.sound ∙ c.parts.invariant.sound;
      going =
          going-step c.args.tape.now c.parts.tape c.next.new.self c.args.piece.now c.parts.rest.now
          c.next.new.input.now c.parts.held.items c.put_told.new.held.items
          (λ x. g.K.Out.took c.args.out.now x c.parts.out) (λ x. g.K.Out.took c.parts.out x c.put_told.new.out)
          (λ x. g.K.Out.took c.args.out.now x c.put_told.new.out)
          (told_part c.in-Ok-Some.part) c.has_magic-begun.result c.has_magic.result
          (λ x y. g.met.K.Out.both _ _ _ x y) c.parts.invariant.going
          (subst (λ (ps : List RecordPart). TapeTakes c.parts.tape c.next.new.self c.parts.rest.now
          c.next.new.input.now ps) (ap told_of some) c.in-Ok-Some.ensures.step)
          c.has_magic-begun.ensures c.has_magic.ensures c.in_default.ensures.ok;
    }

pub returns-in-Err-put_told-clause-part : goal.returns-in-Err-put_told-clause-part
returns-in-Err-put_told-clause-part g c =
    let some : c.in-Ok-Some.field-0 ≡ Some c.in-Ok-Some.part = c.in-Ok-Some.field-0-is in
    going-refused c.args.tape.now c.parts.tape c.next.new.self c.args.piece.now c.parts.rest.now
    c.next.new.input.now c.parts.held.items
    (λ x. g.K.Out.took c.args.out.now x c.parts.out) (λ x. g.K.Out.took c.parts.out x c.put_told.new.out)
    (λ x. g.K.Out.took c.args.out.now x c.put_told.new.out)
    (told_part c.in-Ok-Some.part) c.has_magic-begun.result c.has_magic.result
    (λ x y. g.met.K.Out.both _ _ _ x y) c.parts.invariant.going
    (subst (λ (ps : List RecordPart). TapeTakes c.parts.tape c.next.new.self c.parts.rest.now
    c.next.new.input.now ps) (ap told_of some) c.in-Ok-Some.ensures.step)
    c.has_magic-begun.ensures c.has_magic.ensures c.in-Err-put_told.ensures.err

pub returns-in-Ok-None-clause-given : goal.returns-in-Ok-None-clause-given
returns-in-Ok-None-clause-given g c =
    let none : c.in-Ok-None.field-0 ≡ None = c.in-Ok-None.field-0-is in
    let over = over-none c.in-Ok-None.field-0 _ none c.in-Ok-None.ensures.none in
    on_ok_weaker c.hand_on.result
    (λ took. over-given c.args.tape.now c.next.new.self c.args.piece.now c.next.new.input.now
    (c.parts.held.items ++ magic_between c.has_magic-begun.result c.has_magic-in-Ok-None.result)
    (λ x. g.K.Out.took c.args.out.now x c.parts.out)
    (λ x. g.K.Out.took c.parts.out x c.hand_on.new.out) (λ x. g.K.Out.took c.args.out.now x c.hand_on.new.out)
    (λ x y. g.met.K.Out.both _ _ _ x y)
    (going-none c.args.tape.now c.parts.tape c.next.new.self c.args.piece.now c.parts.rest.now
    c.next.new.input.now c.parts.held.items (λ x. g.K.Out.took c.args.out.now x c.parts.out)
    c.has_magic-begun.result c.has_magic-in-Ok-None.result c.parts.invariant.going
    (subst (λ (ps : List RecordPart). TapeTakes c.parts.tape c.next.new.self c.parts.rest.now
    c.next.new.input.now ps) (ap told_of none) c.in-Ok-None.ensures.step)
    c.has_magic-begun.ensures c.has_magic-in-Ok-None.ensures)
    (over-end c.args.tape.now c.next.new.self c.args.piece.now c.next.new.input.now over.0 over.1) took)
    c.hand_on.ensures.took

pub returns-in-Ok-None-clause-part : goal.returns-in-Ok-None-clause-part
returns-in-Ok-None-clause-part g c =
    let none : c.in-Ok-None.field-0 ≡ None = c.in-Ok-None.field-0-is in
    let over = over-none c.in-Ok-None.field-0 _ none c.in-Ok-None.ensures.none in
    on_err_weaker c.hand_on.result
    (λ front. over-refused c.args.tape.now c.next.new.self c.args.piece.now c.next.new.input.now
    (c.parts.held.items ++ magic_between c.has_magic-begun.result c.has_magic-in-Ok-None.result)
    (λ x. g.K.Out.took c.args.out.now x c.parts.out)
    (λ x. g.K.Out.took c.parts.out x c.hand_on.new.out) (λ x. g.K.Out.took c.args.out.now x c.hand_on.new.out)
    (λ x y. g.met.K.Out.both _ _ _ x y)
    (going-none c.args.tape.now c.parts.tape c.next.new.self c.args.piece.now c.parts.rest.now
    c.next.new.input.now c.parts.held.items (λ x. g.K.Out.took c.args.out.now x c.parts.out)
    c.has_magic-begun.result c.has_magic-in-Ok-None.result c.parts.invariant.going
    (subst (λ (ps : List RecordPart). TapeTakes c.parts.tape c.next.new.self c.parts.rest.now
    c.next.new.input.now ps) (ap told_of none) c.in-Ok-None.ensures.step)
    c.has_magic-begun.ensures c.has_magic-in-Ok-None.ensures)
    (over-end c.args.tape.now c.next.new.self c.args.piece.now c.next.new.input.now over.0 over.1) front)
    c.hand_on.ensures.front

pub returns-in-Err-clause-state : goal.returns-in-Err-clause-state
returns-in-Err-clause-state g c =
    on-ok c.hand_on-in-Err.result _
    (over-state c.args.tape.now c.next.new.self c.args.piece.now c.next.new.input.now
    (c.parts.held.items ++ magic_between c.has_magic-begun.result c.has_magic-in-Err.result)
    (λ x. g.K.Out.took c.args.out.now x c.parts.out)
    (going-none c.args.tape.now c.parts.tape c.next.new.self c.args.piece.now c.parts.rest.now
    c.next.new.input.now c.parts.held.items (λ x. g.K.Out.took c.args.out.now x c.parts.out)
    c.has_magic-begun.result c.has_magic-in-Err.result c.parts.invariant.going c.in-Err.ensures.step
    c.has_magic-begun.ensures c.has_magic-in-Err.ensures)
    (over-fault c.args.tape.now c.next.new.self c.args.piece.now c.next.new.input.now c.in-Err.fault
    c.in-Err.ensures.fault))

pub returns-in-Err-clause-fault : goal.returns-in-Err-clause-fault
returns-in-Err-clause-fault g c =
    if-ok c.hand_on-in-Err.result _ _ c.hand_on-in-Err.ensures.fault
    (fault-is c.args.tape.now c.next.new.self c.args.piece.now c.in-Err.fault
    (over-state c.args.tape.now c.next.new.self c.args.piece.now c.next.new.input.now
    (c.parts.held.items ++ magic_between c.has_magic-begun.result c.has_magic-in-Err.result)
    (λ x. g.K.Out.took c.args.out.now x c.parts.out)
    (going-none c.args.tape.now c.parts.tape c.next.new.self c.args.piece.now c.parts.rest.now
    c.next.new.input.now c.parts.held.items (λ x. g.K.Out.took c.args.out.now x c.parts.out)
    c.has_magic-begun.result c.has_magic-in-Err.result c.parts.invariant.going c.in-Err.ensures.step
    c.has_magic-begun.ensures c.has_magic-in-Err.ensures)
    (over-fault c.args.tape.now c.next.new.self c.args.piece.now c.next.new.input.now c.in-Err.fault
    c.in-Err.ensures.fault)) c.in-Err.ensures.fault)

pub returns-in-Err-clause-given : goal.returns-in-Err-clause-given
returns-in-Err-clause-given g c =
    on_ok_weaker c.hand_on-in-Err.result
    (λ took. over-given c.args.tape.now c.next.new.self c.args.piece.now c.next.new.input.now
    (c.parts.held.items ++ magic_between c.has_magic-begun.result c.has_magic-in-Err.result)
    (λ x. g.K.Out.took c.args.out.now x c.parts.out)
    (λ x. g.K.Out.took c.parts.out x c.hand_on-in-Err.new.out)
    (λ x. g.K.Out.took c.args.out.now x c.hand_on-in-Err.new.out)
    (λ x y. g.met.K.Out.both _ _ _ x y)
    (going-none c.args.tape.now c.parts.tape c.next.new.self c.args.piece.now c.parts.rest.now
    c.next.new.input.now c.parts.held.items (λ x. g.K.Out.took c.args.out.now x c.parts.out)
    c.has_magic-begun.result c.has_magic-in-Err.result c.parts.invariant.going c.in-Err.ensures.step
    c.has_magic-begun.ensures c.has_magic-in-Err.ensures)
    (over-fault c.args.tape.now c.next.new.self c.args.piece.now c.next.new.input.now c.in-Err.fault
    c.in-Err.ensures.fault) took)
    c.hand_on-in-Err.ensures.took

pub returns-in-Err-clause-part : goal.returns-in-Err-clause-part
returns-in-Err-clause-part g c =
    on_err_weaker c.hand_on-in-Err.result
    (λ front. over-refused c.args.tape.now c.next.new.self c.args.piece.now c.next.new.input.now
    (c.parts.held.items ++ magic_between c.has_magic-begun.result c.has_magic-in-Err.result)
    (λ x. g.K.Out.took c.args.out.now x c.parts.out)
    (λ x. g.K.Out.took c.parts.out x c.hand_on-in-Err.new.out)
    (λ x. g.K.Out.took c.args.out.now x c.hand_on-in-Err.new.out)
    (λ x y. g.met.K.Out.both _ _ _ x y)
    (going-none c.args.tape.now c.parts.tape c.next.new.self c.args.piece.now c.parts.rest.now
    c.next.new.input.now c.parts.held.items (λ x. g.K.Out.took c.args.out.now x c.parts.out)
    c.has_magic-begun.result c.has_magic-in-Err.result c.parts.invariant.going c.in-Err.ensures.step
    c.has_magic-begun.ensures c.has_magic-in-Err.ensures)
    (over-fault c.args.tape.now c.next.new.self c.args.piece.now c.next.new.input.now c.in-Err.fault
    c.in-Err.ensures.fault) front)
    c.hand_on-in-Err.ensures.front

pub returns-in-Ok-None-clause-state : goal.returns-in-Ok-None-clause-state
returns-in-Ok-None-clause-state g c =
    let none : c.in-Ok-None.field-0 ≡ None = c.in-Ok-None.field-0-is in
    let over = over-none c.in-Ok-None.field-0 _ none c.in-Ok-None.ensures.none in
    on-ok c.hand_on.result _
    (over-state c.args.tape.now c.next.new.self c.args.piece.now c.next.new.input.now
    (c.parts.held.items ++ magic_between c.has_magic-begun.result c.has_magic-in-Ok-None.result)
    (λ x. g.K.Out.took c.args.out.now x c.parts.out)
    (going-none c.args.tape.now c.parts.tape c.next.new.self c.args.piece.now c.parts.rest.now
    c.next.new.input.now c.parts.held.items (λ x. g.K.Out.took c.args.out.now x c.parts.out)
    c.has_magic-begun.result c.has_magic-in-Ok-None.result c.parts.invariant.going
    (subst (λ (ps : List RecordPart). TapeTakes c.parts.tape c.next.new.self c.parts.rest.now
    c.next.new.input.now ps) (ap told_of none) c.in-Ok-None.ensures.step)
    c.has_magic-begun.ensures c.has_magic-in-Ok-None.ensures)
    (over-end c.args.tape.now c.next.new.self c.args.piece.now c.next.new.input.now over.0 over.1))

pub returns-in-Ok-None-clause-fault : goal.returns-in-Ok-None-clause-fault
returns-in-Ok-None-clause-fault g c =
    let none : c.in-Ok-None.field-0 ≡ None = c.in-Ok-None.field-0-is in
    let over = over-none c.in-Ok-None.field-0 _ none c.in-Ok-None.ensures.none in
    if-ok c.hand_on.result _ _ c.hand_on.ensures.fault
    (no-fault c.args.tape.now c.next.new.self c.args.piece.now
    (over-state c.args.tape.now c.next.new.self c.args.piece.now c.next.new.input.now
    (c.parts.held.items ++ magic_between c.has_magic-begun.result c.has_magic-in-Ok-None.result)
    (λ x. g.K.Out.took c.args.out.now x c.parts.out)
    (going-none c.args.tape.now c.parts.tape c.next.new.self c.args.piece.now c.parts.rest.now
    c.next.new.input.now c.parts.held.items (λ x. g.K.Out.took c.args.out.now x c.parts.out)
    c.has_magic-begun.result c.has_magic-in-Ok-None.result c.parts.invariant.going
    (subst (λ (ps : List RecordPart). TapeTakes c.parts.tape c.next.new.self c.parts.rest.now
    c.next.new.input.now ps) (ap told_of none) c.in-Ok-None.ensures.step)
    c.has_magic-begun.ensures c.has_magic-in-Ok-None.ensures)
    (over-end c.args.tape.now c.next.new.self c.args.piece.now c.next.new.input.now over.0 over.1))
    c.in-Ok-None.ensures.fault)
