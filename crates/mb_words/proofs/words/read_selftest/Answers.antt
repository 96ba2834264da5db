use Rattle.std.proofs.Common.{sym, ◌∙◌, arith}
use Rattle.std.proofs.lemmas.Grind.{common_steps}
use Rattle.mb_words.proofs.ReadLemmas.{selftest-means, only_selftest, none_some, if_none}
use Rattle.mb_words.proofs.words.read_selftest.Goals as goal

pub returns-then-len-ne3-clause-only : goal.returns-then-len-ne3-clause-only
returns-then-len-ne3-clause-only c = λ command m. c.if-len-ne3.true
    (c.len.ensures ∙ (only_selftest _ command c.requires m).three)

pub returns-in_err-start-clause-only : goal.returns-in_err-start-clause-only
returns-in_err-start-clause-only c =
    if_none _ _ c.from_residual.ensures
    (λ command m. let t = only_selftest _ command c.requires m in none_some _ _ c.in_err-start.was
    (c.read_number.ensures.only t.start t.low (c.as_bytes.ensures.value ∙ t.first _ c.word.ensures)))

pub returns-in_err-count-clause-only : goal.returns-in_err-count-clause-only
returns-in_err-count-clause-only c =
    if_none _ _ c.from_residual-in_err-count.ensures
    (λ command m. let t = only_selftest _ command c.requires m in none_some _ _ c.in_err-count.was
    (c.read_number-2.ensures.only t.count t.few (c.as_bytes-2.ensures.value ∙ t.second _ c.word-2.ensures)))

pub returns-clause-found : goal.returns-clause-found
returns-clause-found c =
    selftest-means c.args.words.now _ _ c.in_ok-start.start c.in_ok-count.count (grind (arith, common_steps)) c.requires
    c.word.ensures c.word-2.ensures (sym c.as_bytes.ensures.value ∙ c.in_ok-start.ensures.digits)
    (sym c.as_bytes-2.ensures.value ∙ c.in_ok-count.ensures.digits) c.in_ok-start.ensures.within
    c.in_ok-count.ensures.within
