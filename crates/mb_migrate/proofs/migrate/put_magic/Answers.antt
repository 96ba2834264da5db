use Rattle.std.proofs.Common.{refl}
use Rattle.mb_frames.specs.Migrated.{magic_between}
use Rattle.mb_held.proofs.HeldLemmas.{fronted-within}
use Rattle.mb_migrate.proofs.migrate.put_magic.Goals as goal

pub returns-in-Err-clause-err : goal.returns-in-Err-clause-err
returns-in-Err-clause-err g c =
    fronted-within _ _ _ c.in-Err.ensures.err (magic_between c.args.before c.args.now, refl)
