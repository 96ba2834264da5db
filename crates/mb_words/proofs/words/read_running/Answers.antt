use Rattle.std.proofs.Common.{◌∙◌, arith}
use Rattle.std.proofs.lemmas.Grind.{common_steps}
use Rattle.mb_words.proofs.ReadLemmas.{only_running, running-means}
use Rattle.mb_words.proofs.words.read_running.Goals as goal

pub returns-then-len-ne2-clause-only : goal.returns-then-len-ne2-clause-only
returns-then-len-ne2-clause-only c = λ command m. c.if-len-ne2.true (c.len.ensures ∙ only_running _ command c.requires m)

pub returns-clause-found : goal.returns-clause-found
returns-clause-found c = running-means _ _ (grind (arith, common_steps)) c.requires c.word.ensures
