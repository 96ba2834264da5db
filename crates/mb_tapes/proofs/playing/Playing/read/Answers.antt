use Rattle.std.proofs.Common.{◌≡◌, ◌∙◌, List, Option, Some, None, ap, subst, arith}
use Rattle.std.specs.Prelude.{Ok}
use Rattle.mb_frames.specs.Gathered.{TimedByte}
use Rattle.mb_smf.specs.Smf.{file_fault}
use Rattle.mb_smf.specs.SmfReading.{FaultAnswered, SmfTakes, given_part, given_some}
use Rattle.mb_smf.specs.declared.reader.SmfPart.{SmfPart}
use Rattle.mb_tapes.proofs.PlayingLemmas.{going-none, going-over, going-refused, going-step, over-end, over-fault}
use Rattle.mb_tapes.proofs.playing.Playing.read.Goals as goal

pub returns-in-Err-put_part-clause-err : goal.returns-in-Err-put_part-clause-err
returns-in-Err-put_part-clause-err g c =
    let some : c.in-Ok-Some.field-0 ≡ Some c.in-Ok-Some.part = c.in-Ok-Some.field-0-is in
    going-refused c.args.self.now.file c.parts.self.file c.next.new.self c.args.self.now.gather c.parts.self.gather
    c.args.piece.now c.parts.rest.now c.next.new.input.now c.args.held.now.items c.parts.held.items
    (given_part c.in-Ok-Some.part) (λ x. g.K.Out.took c.args.out.now x c.parts.out)
    (λ x. g.K.Out.took c.parts.out x c.put_part.new.out) (λ x. g.K.Out.took c.args.out.now x c.put_part.new.out)
    (λ x y. g.met.K.Out.both _ _ _ x y) c.requires.rests c.parts.invariant.going
    (subst (λ (zs : List TimedByte). SmfTakes c.parts.self.file c.next.new.self c.parts.rest.now c.next.new.input.now
    zs) (ap given_some some) c.in-Ok-Some.ensures.takes)
    c.in-Err-put_part.ensures.err

pub parts-preserved : goal.parts-preserved
parts-preserved g c =
    let some : c.in-Ok-Some.field-0 ≡ Some c.in-Ok-Some.part = c.in-Ok-Some.field-0-is in
    record {
      ready = c.put_part.ensures.ready;
      sound = c.in_default.ensures.sound ∙ c.parts.invariant.sound;
      end = omega (arith, c.next.ensures.end, c.parts.invariant.end);
      begun = c.parts.invariant.begun;
      going =
          going-step c.args.self.now.file c.parts.self.file c.next.new.self c.args.self.now.gather
          c.parts.self.gather c.put_part.new.gather c.args.piece.now c.parts.rest.now c.next.new.input.now
          c.args.held.now.items c.parts.held.items c.put_part.new.held.items (given_part c.in-Ok-Some.part)
          (λ x. g.K.Out.took c.args.out.now x c.parts.out) (λ x. g.K.Out.took c.parts.out x c.put_part.new.out)
          (λ x. g.K.Out.took c.args.out.now x c.put_part.new.out) (λ x y. g.met.K.Out.both _ _ _ x y)
          c.parts.invariant.going
          (subst (λ (zs : List TimedByte). SmfTakes c.parts.self.file c.next.new.self c.parts.rest.now
          c.next.new.input.now zs) (ap given_some some) c.in-Ok-Some.ensures.takes)
          c.in_default.ensures.ok;
    }

pub returns-in-Ok-None-clause-ok : goal.returns-in-Ok-None-clause-ok
returns-in-Ok-None-clause-ok g c =
    let none : c.in-Ok-None.field-0 ≡ None = c.in-Ok-None.field-0-is in
    let rests : (c.next.new.self.owed ≡ None) × (file_fault c.next.new.self.file ≡ None) =
    subst (λ (p : Option SmfPart). FaultAnswered c.next.new.self (Ok p)) none c.in-Ok-None.ensures.answers in
    going-over c.args.self.now
    (record { file = c.next.new.self; gather = c.parts.self.gather; begun = c.parts.self.begun }) c.args.piece.now
    c.next.new.input.now c.args.held.now.items c.parts.held.items
    (λ x. g.K.Out.took c.args.out.now x c.parts.out) c.requires.rests c.parts.invariant.begun
    (going-none c.args.self.now.file c.parts.self.file c.next.new.self c.args.self.now.gather c.parts.self.gather
    c.args.piece.now c.parts.rest.now c.next.new.input.now c.args.held.now.items c.parts.held.items
    (λ x. g.K.Out.took c.args.out.now x c.parts.out) c.parts.invariant.going
    (subst (λ (zs : List TimedByte). SmfTakes c.parts.self.file c.next.new.self c.parts.rest.now c.next.new.input.now
    zs) (ap given_some none) c.in-Ok-None.ensures.takes))
    (over-end c.next.new.self c.next.new.input.now rests.0 (c.in-Ok-None.ensures.none (ap Ok none)))

pub returns-in-Err-clause-ok : goal.returns-in-Err-clause-ok
returns-in-Err-clause-ok g c =
    going-over c.args.self.now
    (record { file = c.next.new.self; gather = c.parts.self.gather; begun = c.parts.self.begun }) c.args.piece.now
    c.next.new.input.now c.args.held.now.items c.parts.held.items
    (λ x. g.K.Out.took c.args.out.now x c.parts.out) c.requires.rests c.parts.invariant.begun
    (going-none c.args.self.now.file c.parts.self.file c.next.new.self c.args.self.now.gather c.parts.self.gather
    c.args.piece.now c.parts.rest.now c.next.new.input.now c.args.held.now.items c.parts.held.items
    (λ x. g.K.Out.took c.args.out.now x c.parts.out) c.parts.invariant.going c.in-Err.ensures.takes)
    (over-fault c.next.new.self c.next.new.input.now c.in-Err.fault c.in-Err.ensures.answers.0
    c.in-Err.ensures.answers.1)
