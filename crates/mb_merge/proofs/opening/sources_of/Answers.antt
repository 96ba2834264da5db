use Rattle.std.proofs.Common.{◌++◌, ◌∷◌, [], ◌∙◌, sym, ap, arith}
use Rattle.std.proofs.lemmas.List.FromFn.{map-range_with_len_more}
use Rattle.mb_merge.specs.Links.{closed_link}
use Rattle.mb_merge.specs.Opening.{links_of, outs_of}
use Rattle.mb_merge.proofs.opening.sources_of.Goals as goal

pub loop-source-preserved : goal.loop-source-preserved
loop-source-preserved c =
    let routes = c.args.routes.now in
    let n = c.loop-source.source in
    c.in_ok-push.ensures.items ∙
    (ap (λ z. z ++ c.in_ok-new.field-0 ∷ []) c.loop-source.invariant ∙
    (ap (λ z. links_of n routes ++ z ∷ []) (c.in_ok-new.ensures ∙ ap closed_link c.outs_of.ensures) ∙
    sym (map-range_with_len_more (λ source. closed_link (outs_of source routes)) 0 n n (omega arith))))
