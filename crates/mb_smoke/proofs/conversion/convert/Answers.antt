use Rattle.std.proofs.Common.{ℕ, List, ◌++◌, take, subst, arith}
use Rattle.mb_make.specs.Generated.{generated}
use Rattle.mb_make.proofs.MadeLemmas.{generated-short}
use Rattle.mb_smoke.specs.Selftest.{Converted}
use Rattle.mb_smoke.proofs.ConvertLemmas.{filled-last, filled-next, fed-few, fed-all, all-few}
use Rattle.mb_smoke.proofs.conversion.convert.Goals as goal

pub feed-requires : goal.feed-requires
feed-requires c = (
  c.pieces.invariant.along.0,
  c.pieces.invariant.along.2,
  fed-few (generated c.args.start c.args.count) c.pieces.invariant.along.0
      (take c.pieces.filled c.pieces.buffer) c.pieces.maker c.args.count c.pieces.invariant.along.1
      (generated-short c.args.start c.args.count) c.requires.few,
)

pub pieces-preserved : goal.pieces-preserved
pieces-preserved c =
    record {
      within = omega (arith, c.fill-filled-in-pieces.ensures.count);
      along = (
        c.pieces.invariant.along.0 ++ take c.pieces.filled c.pieces.buffer,
        filled-next (generated c.args.start c.args.count) c.pieces.invariant.along.0
            (take c.pieces.filled c.pieces.buffer) c.pieces.maker c.fill-filled-in-pieces.new.self c.pieces.buffer
            c.fill-filled-in-pieces.new.out c.fill-filled-in-pieces.result c.pieces.invariant.along.1
            c.fill-filled-in-pieces.ensures.count c.fill-filled-in-pieces.ensures.bytes
            c.fill-filled-in-pieces.ensures.left,
        c.feed.ensures c.pieces.invariant.along.0 c.pieces.invariant.along.2
            (fed-few (generated c.args.start c.args.count) c.pieces.invariant.along.0
            (take c.pieces.filled c.pieces.buffer) c.pieces.maker c.args.count c.pieces.invariant.along.1
            (generated-short c.args.start c.args.count) c.requires.few),
      );
      last = filled-last c.pieces.maker c.fill-filled-in-pieces.new.self c.pieces.buffer c.fill-filled-in-pieces.result
          c.fill-filled-in-pieces.ensures.count c.fill-filled-in-pieces.ensures.left (omega arith);
    }

pub end-requires : goal.end-requires
end-requires c = (
  c.pieces.invariant.along.0,
  c.pieces.invariant.along.2,
  all-few (generated c.args.start c.args.count) c.pieces.invariant.along.0 c.args.count
      (fed-all (generated c.args.start c.args.count) c.pieces.invariant.along.0 c.pieces.buffer c.pieces.maker
      c.pieces.filled c.pieces.invariant.along.1 c.pieces-test.false c.pieces.invariant.last)
      (generated-short c.args.start c.args.count) c.requires.few,
)

pub returns : goal.returns
returns c =
    let all = fed-all (generated c.args.start c.args.count) c.pieces.invariant.along.0 c.pieces.buffer c.pieces.maker
    c.pieces.filled c.pieces.invariant.along.1 c.pieces-test.false c.pieces.invariant.last in
    subst (λ (bytes : List ℕ). Converted c.end.new.chain c.end.new.out bytes) all
    (c.end.ensures c.pieces.invariant.along.0 c.pieces.invariant.along.2
    (all-few (generated c.args.start c.args.count) c.pieces.invariant.along.0 c.args.count all
    (generated-short c.args.start c.args.count) c.requires.few))
