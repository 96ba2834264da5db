use Rattle.std.proofs.Common.{◌+◌, length, ◌∙◌, ap, arith}
use Rattle.mb_carrier.specs.Port.{reader_offset_by}
use Rattle.mb_vectors.proofs.ports.read_at.Goals as goal

pub read_piece-requires : goal.read_piece-requires
read_piece-requires c =
    record { early = omega (arith, ap reader_offset_by c.set_moment.ensures.same, c.requires.early) }

pub returns-clause-end : goal.returns-clause-end
returns-clause-end c = c.read_piece.ensures.end ∙ ap (λ n. n + length c.args.piece.now)
    (ap reader_offset_by c.set_moment.ensures.same)
