use Rattle.std.proofs.Common.{ap, sym, ◌∙◌, subst}
use Rattle.mb_frames.specs.Reading.{Between, High, Within, Stands}
use Rattle.mb_frames.specs.Kept.{place_of}
use Rattle.mb_frames.proofs.Cuts.{whole_or_partial}
use Rattle.mb_frames.proofs.frames.Frames.partial.Goals as goal

pub returns-in-Between-clause-whole : goal.returns-in-Between-clause-whole
returns-in-Between-clause-whole c = λ bytes so_far s.
    whole_or_partial bytes so_far Between (subst (λ p. Stands p bytes so_far) (sym c.self.view_is ∙
    ap place_of c.in-Between.is) s)

pub returns-in-High-clause-whole : goal.returns-in-High-clause-whole
returns-in-High-clause-whole c = λ bytes so_far s.
    whole_or_partial bytes so_far (High _) (subst (λ p. Stands p bytes so_far) (sym c.self.view_is ∙
    ap place_of c.in-High.is) s)

pub returns-in-Within-clause-whole : goal.returns-in-Within-clause-whole
returns-in-Within-clause-whole c = λ bytes so_far s.
    whole_or_partial bytes so_far (Within c.in-Within.left) (subst (λ p. Stands p bytes so_far) (sym c.self.view_is ∙
    ap place_of c.in-Within.is) s)
