use Rattle.std.proofs.Common.{◌++◌, arith, length-append}
use Rattle.mb_calls.proofs.filtering.feed_all.Goals as goal

pub pieces-preserved : goal.pieces-preserved
pieces-preserved c =
    let f = c.pieces.invariant.fed in
    let piece = c.split_at.result.0.now in
    record {
      fed = (
        f.0 ++ piece,
        (c.in_ok-fault.ensures.fed).stands f.0 f.1,
        omega (arith, f.2, length-append f.0 piece, c.split_at.ensures.front_len, c.split_at.ensures.back_len),
      );
    }
