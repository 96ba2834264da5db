use Rattle.mb_stream.proofs.StrayMarks.{stray-end, stray-abort, stray-byte}
use Rattle.mb_stream.proofs.laws.strays_count_for_nothing.Goals as goal

pub returns-clause-end : goal.returns-clause-end
returns-clause-end c = stray-end

pub returns-clause-abort : goal.returns-clause-abort
returns-clause-abort c = stray-abort

pub returns-clause-byte : goal.returns-clause-byte
returns-clause-byte c = stray-byte
