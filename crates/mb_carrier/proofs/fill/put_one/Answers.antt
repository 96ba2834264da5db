use Rattle.mb_carrier.proofs.FillLemmas.{put_some-one}
use Rattle.mb_carrier.proofs.fill.put_one.Goals as goal

pub returns-clause-put : goal.returns-clause-put
returns-clause-put g c = put_some-one _ _ _ _ _ _ _ c.put.ensures.stands c.put.ensures.written
