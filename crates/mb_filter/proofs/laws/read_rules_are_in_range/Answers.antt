use Rattle.mb_filter.proofs.FitLemmas.{read-fits}
use Rattle.mb_filter.proofs.laws.read_rules_are_in_range.Goals as goal

pub returns : goal.returns
returns c = read-fits
