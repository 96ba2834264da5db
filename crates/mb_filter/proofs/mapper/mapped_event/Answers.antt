use Rattle.std.proofs.Common.{Bool, Some, None, IfSome, if◌then◌else◌, sym, ◌∙◌, ap, subst}
use Rattle.mb_message.specs.Signs.{signs_of_event}
use Rattle.mb_filter.specs.Mapper.{IsLeft, kept, short_event}
use Rattle.mb_filter.proofs.MapLemmas.{kept-run, left-short}
use Rattle.mb_filter.proofs.mapper.mapped_event.Goals as goal

pub returns-in-Run-clause-kept : goal.returns-in-Run-clause-kept
returns-in-Run-clause-kept c =
    ap kept (c.kept_if-in-Run.ensures ∙ ap (λ (k : Bool). if k then Some c.args.ev else None)
    c.keeps_sysex-in-Run.ensures) ∙
    kept-run c.args.rules.now c.args.ev c.in-Run.field-0.now (ap signs_of_event c.in-Run.is)

pub returns-in-Short-clause-left : goal.returns-in-Short-clause-left
returns-in-Short-clause-left c =
    let left = left-short c.mapped_short.result c.in-Short.short in
    subst (λ r. IfSome r (λ left. IsLeft c.args.ev left)) (sym c.event.ensures)
    (subst (λ e. IfSome (short_event c.mapped_short.result) (λ left. IsLeft e left)) (sym c.in-Short.is) left)
