use Rattle.std.proofs.Common.{◌≡◌, length, sym, ap, ◌∙◌, arith}
use Rattle.std.proofs.lemmas.List.FromFn.{length-map-range_with_len}
use Rattle.mb_merge.specs.Links.{closed_link}
use Rattle.mb_merge.specs.Opening.{outs_of}
use Rattle.mb_merge.proofs.OpenLemmas.{refuses, counts}
use Rattle.mb_merge.proofs.router.Router.open.Goals as goal

pub returns-in-Some : goal.returns-in-Some
returns-in-Some c =
    refuses c.args.sources c.args.outs c.args.routes.now c.in-Some.fault (sym c.first_fault.ensures ∙ c.in-Some.is)

pub invariant_of-result : goal.invariant_of-result
invariant_of-result c =
    let are = counts c.args.sources c.args.outs c.args.routes.now (sym c.first_fault.ensures ∙ c.in_default.is) in
    let len : length c.in-Ok.sources.items ≡ c.args.sources =
    ap length c.in-Ok.ensures ∙ length-map-range_with_len (λ source. closed_link (outs_of source c.args.routes.now)) 0
    c.args.sources in
    (omega (arith, len, are.0), are.1, tt)
