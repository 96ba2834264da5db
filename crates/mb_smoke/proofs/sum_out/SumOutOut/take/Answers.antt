use Rattle.std.proofs.Common.{ℕ, List, take, drop, sym, subst, arith, length-drop}
use Rattle.std.proofs.lemmas.List.{take-append-drop, take_all, length-take-le}
use Rattle.mb_smoke.specs.SumOut.{SumTook}
use Rattle.mb_smoke.proofs.SumLemmas.{took-some, took-full}
use Rattle.mb_smoke.proofs.sum_out.SumOutOut.take.Goals as goal

pub returns-then-count-piece-clause-front : goal.returns-then-count-piece-clause-front
returns-then-count-piece-clause-front c = (
  take c.min-count.result c.args.piece.now,
  (
    drop c.min-count.result c.args.piece.now,
    sym (take-append-drop c.min-count.result c.args.piece.now),
    omega (arith, length-drop c.min-count.result c.args.piece.now),
  ),
  took-full c.args.self.now c.sum.new.self _ (take c.min-count.result c.args.piece.now) c.sum.ensures.stands
      (λ bytes h. record { count = h.count; within = h.within; read = h.read; mix = h.mix })
      (omega (arith, length-take-le c.min-count.result c.args.piece.now, (c.requires.1).count, (c.requires.1).within)),
)

pub returns-clause-took : goal.returns-clause-took
returns-clause-took c =
    subst (λ (piece : List ℕ). SumTook c.args.self.now piece c.sum.new.self)
    (take_all c.min-count.result c.args.piece.now c.if-count-piece.false)
    (took-some c.args.self.now c.sum.new.self (take c.min-count.result c.args.piece.now) c.sum.ensures.stands
    c.sum.ensures.never)
