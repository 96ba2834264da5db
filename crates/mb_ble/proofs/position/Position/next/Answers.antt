use Rattle.std.proofs.Common.{refl, arith}
use Rattle.mb_ble.proofs.Hands.{empty_nil}
use Rattle.mb_ble.proofs.Whole.{tells-refl, tells-trans, all_told}
use Rattle.mb_ble.proofs.position.Position.next.Goals as goal

pub loop-seen-init : goal.loop-seen-init
loop-seen-init c = (tells-refl _ _, c.requires.fit, refl, omega arith, omega arith)

pub returns-in-Some-clause-tells : goal.returns-in-Some-clause-tells
returns-in-Some-clause-tells c = tells-trans _ c.loop-seen.self _ _ c.loop-seen.input.now _ _ c.loop-seen.invariant.0
    (c.in-Some.ensures.tells c.loop-seen.input.now)

pub returns-then-is_empty-clause-tells : goal.returns-then-is_empty-clause-tells
returns-then-is_empty-clause-tells c = tells-trans _ c.loop-seen.self _ _ c.loop-seen.input.now _ _
    c.loop-seen.invariant.0 (c.in_default.ensures.tells c.loop-seen.input.now)

pub returns-then-is_empty-clause-all_told : goal.returns-then-is_empty-clause-all_told
returns-then-is_empty-clause-all_told c =
    all_told c.args.self.now c.settle.new.self c.args.input.now.now c.loop-seen.input.now
    (tells-trans _ c.loop-seen.self _ _ c.loop-seen.input.now _ _ c.loop-seen.invariant.0
    (c.in_default.ensures.tells c.loop-seen.input.now))
    (empty_nil c.loop-seen.input.now c.is_empty.result c.is_empty.ensures c.if-is_empty.true) c.in_default.ensures.none

pub returns-in-Some-take-clause-tells : goal.returns-in-Some-take-clause-tells
returns-in-Some-take-clause-tells c =
    tells-trans _ c.settle.new.self _ _ c.loop-seen.input.now _ _ (tells-trans _ c.loop-seen.self _ _
    c.loop-seen.input.now _ _ c.loop-seen.invariant.0 (c.in_default.ensures.tells c.loop-seen.input.now))
    c.in-Some-take.ensures.tells

pub loop-seen-preserved : goal.loop-seen-preserved
loop-seen-preserved c = (
  tells-trans _ c.settle.new.self _ _ c.loop-seen.input.now _ _ (tells-trans _ c.loop-seen.self _ _
      c.loop-seen.input.now _ _ c.loop-seen.invariant.0 (c.in_default.ensures.tells c.loop-seen.input.now))
      c.in_default-take.ensures.tells,
  c.take.ensures.fit,
  omega (arith, c.take.ensures.offset, c.settle.ensures.offset, c.loop-seen.invariant.2),
  omega (arith, c.take.ensures.falls, c.settle.ensures.kept, c.loop-seen.invariant.3),
  omega (arith, c.in_default-take.ensures.none, c.loop-seen.invariant.4),
)

pub returns-in-Some-clause-longest : goal.returns-in-Some-clause-longest
returns-in-Some-clause-longest c = c.in-Some.ensures.longest c.loop-seen.input.now
