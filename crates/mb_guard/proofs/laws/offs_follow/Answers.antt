use Rattle.mb_guard.proofs.Followed.{offs-follow}
use Rattle.mb_guard.proofs.laws.offs_follow.Goals as goal

pub returns : goal.returns
returns c = offs-follow
