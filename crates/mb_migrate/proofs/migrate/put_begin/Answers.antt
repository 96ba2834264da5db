use Rattle.std.proofs.Common.{refl, true}
use Rattle.mb_frames.specs.Tapes.{header}
use Rattle.mb_held.proofs.HeldLemmas.{fronted-within}
use Rattle.mb_migrate.proofs.migrate.put_begin.Goals as goal

pub returns-in-Err-clause-err : goal.returns-in-Err-clause-err
returns-in-Err-clause-err g c =
    fronted-within _ _ _ c.in-Err.ensures.err (header true c.args.moment c.args.track c.args.len, refl)
