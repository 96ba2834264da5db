use Rattle.std.proofs.Common.{◌≡◌, ap, sym, subst, ◌∙◌, arith, inl, refl, IfOk}
use Rattle.mb_text.specs.Text.{lines}
use Rattle.mb_rig.specs.RigText.{Right, Outcome, ended_rig, rig_from, rig_of}
use Rattle.mb_rig.specs.RigAnswer.{line_seen}
use Rattle.mb_rig.proofs.LineLemmas.{statement-printed}
use Rattle.mb_rig.proofs.RigLemmas.{line-added, begun-added, line-refused, rig-begins, ended-refused}
use Rattle.mb_rig.proofs.RightLemmas.{read-right}
use Rattle.mb_rig.proofs.draft.Draft.read.Goals as goal

pub loop-line-init : goal.loop-line-init
loop-line-init c = record {
  whole = rig-begins c.args.text.now (omega (arith, c.if-text-gt-MOST_TEXT.false)) ∙
      ap (λ s. rig_from 1 s (lines c.args.text.now)) (sym c.none-rig.ensures);
  begun = inl (c.none-rig.ensures, refl);
  few = omega (arith, c.if-text-gt-MOST_TEXT.false);
}

pub add-requires : goal.add-requires
add-requires c = record {
  printed = statement-printed c.in-Some.line.now (line_seen c.read_line.result) c.read_line.ensures;
}

pub returns-in-Err-clause-refused : goal.returns-in-Err-clause-refused
returns-in-Err-clause-refused c =
    line-refused c.args.text.now c.loop-line.number c.loop-line.rig (lines c.loop-line.rest.now)
    (lines c.next_line.new.text.now) c.in-Some.line.now (line_seen c.read_line.result) c.in-Err.fault
    (omega (arith, c.if-text-gt-MOST_TEXT.false)) c.loop-line.invariant.whole c.loop-line.invariant.begun
    c.in-Some.ensures.some c.read_line.ensures c.in-Err.ensures.refused

pub overflow_add-number : goal.overflow_add-number
overflow_add-number c =
    let less = c.in-Some.ensures.fewer in
    let few = c.loop-line.invariant.few in omega (arith, less, few)

pub loop-line-preserved : goal.loop-line-preserved
loop-line-preserved c = record {
  whole = c.loop-line.invariant.whole ∙
      line-added c.loop-line.number c.loop-line.rig c.add.new.self (lines c.loop-line.rest.now)
      (lines c.next_line.new.text.now) c.in-Some.line.now (line_seen c.read_line.result) c.in-Some.ensures.some
      c.read_line.ensures c.in_default-add.ensures.fits c.in_default-add.ensures.added;
  begun = begun-added (lines c.args.text.now) (lines c.loop-line.rest.now) (lines c.next_line.new.text.now)
      c.loop-line.rig c.add.new.self c.in-Some.line.now (line_seen c.read_line.result) c.in-Some.ensures.some
      c.read_line.ensures c.in_default-add.ensures.fits c.in_default-add.ensures.added c.loop-line.invariant.begun;
  few = let less = c.in-Some.ensures.fewer in let few = c.loop-line.invariant.few in omega (arith, less, few);
}

pub returns-clause-rig : goal.returns-clause-rig
returns-clause-rig c =
    let whole : ended_rig c.loop-line.number c.loop-line.rig ≡ rig_of c.args.text.now =
    sym (c.loop-line.invariant.whole ∙ ap (rig_from c.loop-line.number c.loop-line.rig) c.in_default.ensures.none)
    in
    subst (λ (o : Outcome). IfOk c.ended.result (λ rig. o ≡ Right rig)) whole c.ended.ensures.rig

pub returns-clause-refused : goal.returns-clause-refused
returns-clause-refused c =
    let whole : ended_rig c.loop-line.number c.loop-line.rig ≡ rig_of c.args.text.now =
    sym (c.loop-line.invariant.whole ∙ ap (rig_from c.loop-line.number c.loop-line.rig) c.in_default.ensures.none)
    in
    ended-refused c.args.text.now (ended_rig c.loop-line.number c.loop-line.rig) c.ended.result whole
    c.ended.ensures.refused

pub returns-clause-right : goal.returns-clause-right
returns-clause-right c =
    let whole : ended_rig c.loop-line.number c.loop-line.rig ≡ rig_of c.args.text.now =
    sym (c.loop-line.invariant.whole ∙ ap (rig_from c.loop-line.number c.loop-line.rig) c.in_default.ensures.none)
    in
    read-right c.args.text.now c.ended.result
    (subst (λ (o : Outcome). IfOk c.ended.result (λ rig. o ≡ Right rig)) whole c.ended.ensures.rig)
