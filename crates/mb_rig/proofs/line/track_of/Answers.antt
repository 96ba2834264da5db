use Rattle.std.proofs.Common.{sym, ◌∙◌}
use Rattle.mb_rig.proofs.WordLemmas.{track-read}
use Rattle.mb_rig.proofs.line.track_of.Goals as goal

pub returns-in-Some : goal.returns-in-Some
returns-in-Some c =
    sym c.in-Some.is ∙ track-read c.args.word.now c.read_number.result c.read_number.ensures.within
    c.read_number.ensures.digits c.read_number.ensures.only

pub returns-in-None : goal.returns-in-None
returns-in-None c =
    sym c.in-None.is ∙ track-read c.args.word.now c.read_number.result c.read_number.ensures.within
    c.read_number.ensures.digits c.read_number.ensures.only
