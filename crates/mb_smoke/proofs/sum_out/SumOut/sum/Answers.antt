use Rattle.std.proofs.Common.{arith, length-append}
use Rattle.mb_smoke.proofs.SumLemmas.{sum-more}
use Rattle.std.proofs.Common.{refl}
use Rattle.mb_smoke.proofs.sum_out.SumOut.sum.Goals as goal

pub returns-clause-stands : goal.returns-clause-stands
returns-clause-stands c = λ bytes h.
    sum-more c.args.self.now _ bytes c.args.piece.now refl
    (omega (arith, (c.requires.1).count, c.requires.2, length-append c.requires.0 c.args.piece.now))
    c.mix_piece-self.ensures (c.read_piece.ensures bytes) h
