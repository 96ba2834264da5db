use Rattle.mb_filter.proofs.SuitLemmas.{mapped-suits, mapped-valid}
use Rattle.mb_filter.proofs.laws.kept_marks_suit.Goals as goal

pub returns : goal.returns
returns c = record {
  suits = mapped-suits;
  valid = mapped-valid;
}
