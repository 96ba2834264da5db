use Rattle.std.proofs.Common.{[], sym, subst, ◌≡◌, List, ℕ}
use Rattle.mb_frames.specs.Gathering.{Gathers}
use Rattle.mb_frames.proofs.GatherLemmas.{Gathers-nothing}
use Rattle.mb_frames.proofs.gather.Gather.new.Goals as goal

pub returns-clause-gathers : goal.returns-clause-gathers
returns-clause-gathers c =
    let e : c.new.result.items ≡ [] = cc (c.new.ensures) in
    subst (λ (z : List ℕ). Gathers (record { moment = 0; bytes = z }) [] []) (sym e) Gathers-nothing
