use Rattle.std.proofs.Common.{◌≡◌, ◌∙◌, sym, ap₂, length, true}
use Rattle.mb_merge.specs.Links.{link_at, owns}
use Rattle.mb_merge.proofs.LinkLemmas.{is_owned_below-hit, link_at_is, takes_from_is}
use Rattle.mb_merge.proofs.waiting.is_owned.Goals as goal

pub returns-then-owns : goal.returns-then-owns
returns-then-owns c =
    let links = c.args.sources.now in
    let owned : owns (link_at links c.loop-at.at) (link_at links c.args.source) ≡ true =
    ap₂ owns (link_at_is links c.loop-at.at _ c.index-sources-at.is c.loop-at-test.true) (link_at_is links c.args.source
    _ c.index-sources-source.is c.requires)
    ∙ (sym c.owns.ensures ∙ c.if-owns.true) in
    sym (is_owned_below-hit links c.args.source c.loop-at.at (length links) c.loop-at-test.true
    (takes_from_is links c.args.source c.loop-at.at c.if-at-source.true owned))
