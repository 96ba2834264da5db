use Rattle.std.proofs.Common.{arith}
use Rattle.std.proofs.lemmas.Grind.{common_steps}
use Rattle.std.proofs.lemmas.List.{length-drop}
use Rattle.mb_words.proofs.CommandLemmas.{as_many}
use Rattle.mb_words.proofs.ReadLemmas.{read-none, read-more, read-all, read-never, if_none, drop-next}
use Rattle.mb_words.proofs.words.read_specs.Goals as goal
use Rattle.mb_words.proofs.words.read_specs.Goals.{then-len-start-via-then-len-start}
use Rattle.mb_words.proofs.words.read_specs.Goals.{then-len-start-via-else-len-start+then-start-len}

pub returns-then-len-start-clause-only : goal.returns-then-len-start-clause-only
returns-then-len-start-clause-only c = λ specs some few are.
    let many = as_many _ specs are in
    elim c.then-len-start.branch [
      | then-len-start-via-then-len-start w ↦ absurd
          (grind (arith, common_steps, w, some, many, length-drop c.args.start c.args.words.now))
      | then-len-start-via-else-len-start+then-start-len w ↦ absurd
          (grind (arith, common_steps, w, few, many, length-drop c.args.start c.args.words.now))
    ]

pub words-init : goal.words-init
words-init c =
    record {
      read = read-none _ _ c.new-specs.ensures;
      count = grind (arith, common_steps);
      ends = c.len-at-end.ensures;
      few = grind (arith, common_steps);
      some = grind (arith, common_steps);
    }

pub returns-in_err-spec-clause-only : goal.returns-in_err-spec-clause-only
returns-in_err-spec-clause-only c =
    if_none _ _ c.from_residual.ensures
    (λ specs some few are. read-never _ _ _ _ specs _ c.words.invariant.read
    (drop-next c.args.words.now c.words.at _ c.word.ensures) are c.in_err-spec.was c.read.ensures.only)

pub words-preserved : goal.words-preserved
words-preserved c =
    record {
      read = read-more _ _ _ _ _ _ _ c.words.invariant.read
          (drop-next c.args.words.now c.words.at _ c.word.ensures) c.in_ok-spec.ensures.found c.push.ensures.items;
      count = grind (arith, common_steps);
      ends = c.words.invariant.ends;
      few = c.words.invariant.few;
      some = c.words.invariant.some;
    }

pub returns-clause-found : goal.returns-clause-found
returns-clause-found c = read-all _ _ _ c.words.invariant.read (grind (arith, common_steps))
