use Rattle.std.proofs.Common.{◌++◌, sym, subst}
use Rattle.std.specs.Prelude.{OnErr}
use Rattle.mb_outside.specs.Taking.{TookFront}
use Rattle.mb_smf.specs.SmfReading.{given_part}
use Rattle.mb_smf.specs.declared.reader.SmfPart.{SmfPart}
use Rattle.mb_tapes.specs.Played.{ended_records}
use Rattle.mb_tapes.proofs.part.put_part.Goals as goal

pub returns-in-Run-clause-err : goal.returns-in-Run-clause-err
returns-in-Run-clause-err g c =
    subst (λ (p : SmfPart). OnErr c.put_run.result (TookFront g.K.Out.took c.args.out.now c.put_run.new.out
    (c.args.held.now.items ++ ended_records c.args.gather.now (given_part p)))) (sym c.in-Run.is) c.put_run.ensures.err
