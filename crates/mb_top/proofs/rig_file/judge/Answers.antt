use Rattle.mb_top.proofs.RigTextLemmas.{files-fit}
use Rattle.mb_top.proofs.rig_file.judge.Goals as goal

pub returns-in-Ok-clause-fit : goal.returns-in-Ok-clause-fit
returns-in-Ok-clause-fit c = files-fit c.args.text.now c.in-Ok.rig c.in-Ok.ensures.rig
