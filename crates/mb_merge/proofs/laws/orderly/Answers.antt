use Rattle.mb_merge.proofs.Histories.{orderly, opened-IsFresh}
use Rattle.mb_merge.proofs.Tracks.{tracked}
use Rattle.mb_merge.proofs.OutLines.{unmixed}
use Rattle.mb_merge.proofs.laws.orderly.Goals as goal

pub returns-clause-calls : goal.returns-clause-calls
returns-clause-calls c = orderly

pub returns-clause-tracked : goal.returns-clause-tracked
returns-clause-tracked c = tracked

pub returns-clause-unmixed : goal.returns-clause-unmixed
returns-clause-unmixed c = unmixed

pub returns-clause-opened : goal.returns-clause-opened
returns-clause-opened c = opened-IsFresh
