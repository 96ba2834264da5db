use Rattle.std.proofs.Common.{◌∙◌, arith}
use Rattle.std.proofs.lemmas.Grind.{common_steps}
use Rattle.mb_words.proofs.ReadLemmas.{if_none, none_some, one_word, word-is, word_count}
use Rattle.mb_words.proofs.words.read_lone_spec.Goals as goal

pub returns-then-len-ne2-clause-only : goal.returns-then-len-ne2-clause-only
returns-then-len-ne2-clause-only c = λ s are. c.if-len-ne2.true (c.len.ensures ∙ word_count _ 1 s are)

pub returns-in_err-spec-clause-only : goal.returns-in_err-spec-clause-only
returns-in_err-spec-clause-only c =
    if_none _ _ c.from_residual.ensures
    (λ s are. none_some _ _ c.in_err-spec.was (c.read.ensures.only s (word-is _ 1 _ s c.word.ensures are)))

pub returns-clause-found : goal.returns-clause-found
returns-clause-found c =
    one_word _ 1 _ _ (grind (arith, common_steps)) c.word.ensures c.in_ok-spec.ensures.found
