use Rattle.std.proofs.Common.{List, ℕ, ◌≤◌, length, sym, ◌∙◌, ap, subst}
use Rattle.mb_rig.specs.RigText.{RigPort}
use Rattle.mb_top.proofs.RigRunLemmas.{bad-tape, link-port}
use Rattle.mb_top.proofs.rig.status_of.Goals as goal

pub name_of-requires : goal.name_of-requires
name_of-requires c =
    subst (λ (xs : List ℕ). length xs ≤ 255) (sym (ap (λ (p : RigPort). p.file) c.port.view_is))
    (c.requires.fit c.in-BadTape.link c.index-ins-from.result
    (link-port c.args.rig.now c.args.end c.in-BadTape.link c.in-BadTape.fault _ _ _ _ c.in-BadTape.is c.requires.link
    c.ins.ensures c.from.ensures c.index-ins-from.is))

pub returns-in-BadTape : goal.returns-in-BadTape
returns-in-BadTape c =
    bad-tape c.args.rig.now c.args.end c.in-BadTape.link c.in-BadTape.fault c.name_of.result c.index-ins-from.result
    c.in-BadTape.is
    (link-port c.args.rig.now c.args.end c.in-BadTape.link c.in-BadTape.fault _ _ _ _ c.in-BadTape.is c.requires.link
    c.ins.ensures c.from.ensures c.index-ins-from.is)
    (c.name_of.ensures ∙ ap (λ (p : RigPort). p.file) c.port.view_is)
