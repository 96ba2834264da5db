use Rattle.mb_frames.proofs.MigrateLemmas.{told-again, made-twice, records-again}
use Rattle.mb_frames.proofs.laws.tapes_migrate.Goals as goal

pub returns-clause-parts : goal.returns-clause-parts
returns-clause-parts c = told-again

pub returns-clause-twice : goal.returns-clause-twice
returns-clause-twice c = made-twice

pub returns-clause-records : goal.returns-clause-records
returns-clause-records c = records-again
