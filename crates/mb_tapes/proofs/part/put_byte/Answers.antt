use Rattle.std.proofs.Common.{[], ◌∷◌, refl}
use Rattle.mb_smf.specs.Smf.{given_at}
use Rattle.mb_held.proofs.HeldLemmas.{fronted-within}
use Rattle.mb_tapes.specs.Played.{ended_records}
use Rattle.mb_tapes.proofs.part.put_byte.Goals as goal

pub returns-in-Err-clause-err : goal.returns-in-Err-clause-err
returns-in-Err-clause-err g c = fronted-within _ _ _ c.in-Err.ensures.err
    (ended_records c.args.gather.now (given_at c.args.moment (c.args.byte ∷ [])), refl)
