use Rattle.mb_carrier.proofs.LiveLemmas.{so_far-held, so_far-lacks, so_far-front}
use Rattle.mb_carrier.proofs.laws.conversion_so_far.Goals as goal

pub returns : goal.returns
returns c = record { held = so_far-held; lacks = so_far-lacks; front = so_far-front }
