use Rattle.std.proofs.Common.{◌≡◌, drop}
use Rattle.mb_smoke.specs.Summed.{mixed}
use Rattle.mb_smoke.proofs.sum_out.mix_piece.Given as goal

abbrev pub invariant-bytes : goal.invariant-bytes
invariant-bytes l = mixed l.mixed (drop l.byte-index l.piece) ≡ mixed l.mix l.piece
