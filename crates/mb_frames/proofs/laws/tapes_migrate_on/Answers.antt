use Rattle.mb_frames.proofs.MigratingLemmas.{migrated-all, tape2-then, fault-all}
use Rattle.mb_frames.proofs.laws.tapes_migrate_on.Goals as goal

pub returns : goal.returns
returns c = record { first = migrated-all; more = tape2-then; fault = fault-all }
