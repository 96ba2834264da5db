use Rattle.std.proofs.Common.{length}
use Rattle.mb_merge.proofs.LinkLemmas.{is_owned_below-hit, is_owned_below-who, takes_from_is, one_owner}
use Rattle.mb_merge.proofs.laws.owners.Goals as goal

pub returns-clause-who : goal.returns-clause-who
returns-clause-who c = λ links source h.
    let o = is_owned_below-who links source (length links) h in
    (o.at, o.below, o.other, o.owned)

pub returns-clause-owned : goal.returns-clause-owned
returns-clause-owned c = λ links source at below other owned.
    is_owned_below-hit links source at (length links) below (takes_from_is links source at other owned)

pub returns-clause-one : goal.returns-clause-one
returns-clause-one c = one_owner
