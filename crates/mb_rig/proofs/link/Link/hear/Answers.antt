use Rattle.std.proofs.Common.{List, ℕ, refl, sym, subst}
use Rattle.mb_track.specs.TrackReading.{TrackStands}
use Rattle.mb_rig.proofs.LinkLemmas.{hear-goes, hear-owed, hear-rests, nothing-weaker}
use Rattle.mb_rig.proofs.link.Link.hear.Goals as goal

pub returns-clause-goes : goal.returns-clause-goes
returns-clause-goes c =
    hear-goes c.args.self.now _ c.front-front.result.now c.hear-heard.new.input.now _ _ c.front-front.ensures
    c.hear-heard.ensures.goes c.hear-heard.ensures.fewer refl c.pass.ensures c.hear-heard.ensures.end

pub returns-clause-rests : goal.returns-clause-rests
returns-clause-rests c =
    nothing-weaker c.hear-heard.result _ _
    (λ over. hear-rests c.args.self.now _ c.front-front.result.now _ c.front-front.ensures c.hear-heard.ensures.spec
    c.hear-heard.ensures.track over) c.hear-heard.ensures.over

pub returns-clause-rises : goal.returns-clause-rises
returns-clause-rises c = λ bytes told reads.
    c.hear-heard.ensures.rises bytes told
    (subst (λ (xs : List ℕ). TrackStands c.args.self.now.reader bytes xs told) (sym c.front-front.ensures) reads.stands)

pub returns-clause-progress : goal.returns-clause-progress
returns-clause-progress c =
    hear-owed c.hear-heard.result c.args.self.now c.pass.new.self c.hear-heard.new.reader c.front-front.result.now
    c.hear-heard.new.input.now _
    c.front-front.ensures c.hear-heard.ensures.fewer refl c.pass.ensures c.hear-heard.ensures.progress
