use Rattle.std.proofs.Common.{◌≡◌, [], ◌∷◌, IfNone, length, set, false, sym, ◌∙◌, ap, subst, arith}
use Rattle.mb_guard.specs.Guard.{sounding_from}
use Rattle.mb_guard.proofs.Heard.{first-none, first-some}
use Rattle.mb_guard.proofs.guard.Guard.next_off.Goals as goal

pub returns-in_err-place-clause-none : goal.returns-in_err-place-clause-none
returns-in_err-place-clause-none c =
    let nothing : c.args.self.now ≡ [] =
    sym c.self.view_is ∙ first-none c.self.inside.sounds (sym c.first.ensures ∙ c.in_err-place.was) in
    subst (λ r. IfNone r (c.args.self.now ≡ [])) (sym c.from_residual.ensures) nothing

pub returns-clause-first : goal.returns-clause-first
returns-clause-first c =
    sym c.self.view_is ∙
    (first-some c.self.inside.sounds c.in_ok-place.place (sym c.first.ensures ∙ c.in_ok-place.was) ∙
    ap (λ v. v ∷ sounding_from 0 (set c.self.inside.sounds c.in_ok-place.place false)) (sym c.off.ensures.voice))

pub returns-clause-fewer : goal.returns-clause-fewer
returns-clause-fewer c = omega (arith, ap length (returns-clause-first c))
