use Rattle.std.proofs.Common.{subst}
use Rattle.mb_merge.specs.Links.{HasSource}
use Rattle.mb_merge.proofs.Fewer.{told_fewer}
use Rattle.mb_merge.proofs.router.Router.next_passed.Goals as goal

pub returns-clause-fewer : goal.returns-clause-fewer
returns-clause-fewer c =
    told_fewer c.args.self.now c.next.new.self c.next.result
    (subst (λ m. HasSource m.links m.offered) c.self.view_is c.self.invariant.2) c.next.ensures.passed
    c.next.ensures.state
