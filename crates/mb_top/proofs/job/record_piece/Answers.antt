use Rattle.mb_top.proofs.RecordLemmas.{piece-full}
use Rattle.mb_top.proofs.job.record_piece.Goals as goal

pub returns-in-Err : goal.returns-in-Err
returns-in-Err c = λ s bytes h.
    piece-full s _ c.in-Some.recording (λ all. Unit {0}) bytes _ c.in-Err.full _ c.in-Some.is h c.of_full.ensures
    c.in-Err.ensures.full
