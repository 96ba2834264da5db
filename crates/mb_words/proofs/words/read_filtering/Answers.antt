use Rattle.std.proofs.Common.{◌∙◌, arith}
use Rattle.std.proofs.lemmas.Grind.{common_steps}
use Rattle.mb_words.proofs.ReadLemmas.{filter-means, if_none, none_some, only_filter, word-is, word_count}
use Rattle.mb_words.proofs.words.read_filtering.Goals as goal

pub returns-then-len-ne3-clause-only : goal.returns-then-len-ne3-clause-only
returns-then-len-ne3-clause-only c = λ command m.
    let f = only_filter _ command c.requires m in
    c.if-len-ne3.true (c.len.ensures ∙ word_count _ 2 f.0 f.1)

pub returns-in_err-spec-clause-only : goal.returns-in_err-spec-clause-only
returns-in_err-spec-clause-only c =
    if_none _ _ c.from_residual.ensures
    (λ command m.
    let f = only_filter _ command c.requires m in
    none_some _ _ c.in_err-spec.was (c.read.ensures.only f.0 (word-is _ 2 _ f.0 c.word.ensures f.1)))

pub returns-clause-found : goal.returns-clause-found
returns-clause-found c =
    filter-means _ _ _ _ (grind (arith, common_steps)) c.requires c.word-2.ensures c.word.ensures
    c.in_ok-spec.ensures.found
