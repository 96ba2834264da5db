use Rattle.std.proofs.Common.{sym, take, drop, arith}
use Rattle.std.proofs.lemmas.Grind.{common_steps}
use Rattle.std.proofs.lemmas.List.{take-append-drop, length-drop}
use Rattle.mb_outside.proofs.memory_out.MemoryOutOut.take.Goals as goal

pub returns-then-count-piece-clause-front : goal.returns-then-count-piece-clause-front
returns-then-count-piece-clause-front c =
    let count = c.min-count.result in
    let front = take count c.args.piece.now in (
      front,
      (
        drop count c.args.piece.now,
        sym (take-append-drop count c.args.piece.now),
        grind (
          arith,
          common_steps,
          length-drop count c.args.piece.now,
        ),
      ),
      record {
        list = grind (arith, common_steps, c.append.ensures.all, c.self.view_is);
        room =
            grind (arith, common_steps, c.self.view_is);
      },
    )
