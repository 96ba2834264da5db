use Rattle.std.proofs.Common.{[]}
use Rattle.mb_vectors.proofs.selftest.sums_of_what_is_taken.Goals as goal

pub take-requires : goal.take-requires
take-requires g c = ([], c.new-out.ensures.stands)
