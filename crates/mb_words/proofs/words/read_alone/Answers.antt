use Rattle.std.proofs.Common.{sym, ◌∙◌}
use Rattle.mb_words.proofs.ReadLemmas.{alone-means, only_alone}
use Rattle.mb_words.proofs.words.read_alone.Goals as goal

pub returns-then-len-eq1-clause-found : goal.returns-then-len-eq1-clause-found
returns-then-len-eq1-clause-found c =
    alone-means _ _ c.requires.name c.requires.alone (sym c.len.ensures ∙ c.if-len-eq1.true)

pub returns-else-len-eq1-clause-only : goal.returns-else-len-eq1-clause-only
returns-else-len-eq1-clause-only c = λ command m. c.if-len-eq1.false
    (c.len.ensures ∙ only_alone _ command _ c.requires.name c.requires.alone m)
