use Rattle.std.proofs.Common.{◌∙◌, ap, ◌++◌, ◌∷◌, [], ◌/◌, ◌%◌, arith}
use Rattle.mb_frames.specs.Numbers.{spelled}
use Rattle.mb_frames.proofs.NumberLemmas.{three-more, two-bytes}
use Rattle.mb_frames.proofs.write_header.put_header.Goals as goal

pub returns-clause-written : goal.returns-clause-written
returns-clause-written c =
    c.push-3.ensures.items ∙
    (ap (λ z. z ++ (c.args.len % 256) ∷ []) c.push-2.ensures.items ∙
    (ap (λ z. z ++ (c.args.len / 256) ∷ [] ++ (c.args.len % 256) ∷ []) c.push.ensures.items ∙
    (ap (λ z. z ++ c.args.track ∷ [] ++ (c.args.len / 256) ∷ [] ++ (c.args.len % 256) ∷ [])
    c.put_eight.ensures.written ∙
    (three-more c.args.out.now.items (spelled 8 c.args.moment) c.args.track (c.args.len / 256) (c.args.len % 256) ∙
    ap (λ z. c.args.out.now.items ++ (spelled 8 c.args.moment ++ c.args.track ∷ z))
    (two-bytes c.args.len (omega arith))))))
