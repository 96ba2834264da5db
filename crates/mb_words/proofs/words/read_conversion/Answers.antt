use Rattle.std.proofs.Common.{ℕ, sym, subst, drop}
use Rattle.mb_words.specs.Command.{AreWordsOf}
use Rattle.mb_words.proofs.CommandLemmas.{are_specs}
use Rattle.mb_words.proofs.ReadLemmas.{conversion-means, only_conversion, if_none}
use Rattle.mb_words.proofs.words.read_conversion.Goals as goal

pub returns-in_err-specs-clause-only : goal.returns-in_err-specs-clause-only
returns-in_err-specs-clause-only c =
    if_none _ _ c.from_residual.ensures
    (λ command m.
    let conversion = only_conversion _ c.asks_tally-tally.result command c.requires c.asks_tally-tally.ensures.yes
    c.asks_tally-tally.ensures.no m in
    c.in_err-specs.ensures.only conversion.specs conversion.some conversion.few
    (subst (λ (n : ℕ). AreWordsOf (drop n c.args.words.now) conversion.specs)
    (sym c.place_of_specs.ensures) conversion.are))

pub returns-clause-found : goal.returns-clause-found
returns-clause-found c =
    conversion-means _ c.asks_tally-tally.result _ c.requires c.asks_tally-tally.ensures.yes
    (subst (λ (n : ℕ). AreWordsOf
    (drop n c.args.words.now) c.in_ok-specs.specs.items) c.place_of_specs.ensures c.in_ok-specs.ensures.found)
    c.in_ok-specs.ensures.some c.in_ok-specs.ensures.few

pub returns-clause-within : goal.returns-clause-within
returns-clause-within c = (
  are_specs _ _ c.in_ok-specs.ensures.found,
  c.in_ok-specs.ensures.some,
  c.in_ok-specs.ensures.few,
)
