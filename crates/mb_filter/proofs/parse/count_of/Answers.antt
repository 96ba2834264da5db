use Rattle.std.proofs.Common.{arith}
use Rattle.mb_filter.proofs.CountLemmas.{count-none, count-zero, count-some}
use Rattle.mb_filter.proofs.parse.count_of.Goals as goal

pub returns-in-None : goal.returns-in-None
returns-in-None c =
    count-none c.args.greatest c.args.word.now
    (λ k low is. c.in-None.ensures.only k (omega (arith, low, c.from.ensures)) is)

pub returns-in-Some-eq0 : goal.returns-in-Some-eq0
returns-in-Some-eq0 c =
    count-zero c.args.greatest c.in-Some-eq0.field-0 c.args.word.now (omega (arith, c.in-Some-eq0.field-0-test))
    (λ k low is. c.in-Some-eq0.ensures.only k (omega (arith, low, c.from.ensures)) is)

pub returns-in-Some : goal.returns-in-Some
returns-in-Some c =
    count-some c.args.greatest c.in-Some.number c.args.word.now (omega (arith, c.in-Some.number-test))
    (omega (arith, c.in-Some.ensures.within, c.from.ensures)) c.in-Some.ensures.digits
    (λ k low is. c.in-Some.ensures.only k (omega (arith, low, c.from.ensures)) is)
