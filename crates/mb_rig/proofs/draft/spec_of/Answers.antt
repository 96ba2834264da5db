use Rattle.mb_rig.proofs.WordLemmas.{spec-read}
use Rattle.mb_rig.proofs.draft.spec_of.Goals as goal

pub returns : goal.returns
returns c = spec-read c.args.word.now c.read_bytes.result c.read_bytes.ensures.found c.read_bytes.ensures.only
