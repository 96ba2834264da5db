use Rattle.std.proofs.Common.{◌++◌, ℕ, List, ap, sym, ◌∙◌, subst, flat_map}
use Rattle.std.proofs.lemmas.Result.{on_ok_weaker, on_err_weaker}
use Rattle.mb_frames.specs.TapeReading.{told_part}
use Rattle.mb_frames.specs.Migrated.{part_bytes}
use Rattle.mb_frames.specs.declared.tape.TapePart.{TapePart}
use Rattle.mb_held.specs.Held.{Holds}
use Rattle.mb_held.proofs.HeldLemmas.{Fronted}
use Rattle.mb_migrate.proofs.PieceLemmas.{bytes-same}
use Rattle.mb_migrate.proofs.migrate.put_part.Goals as goal

pub returns-in-Bytes-clause-ok : goal.returns-in-Bytes-clause-ok
returns-in-Bytes-clause-ok g c =
    on_ok_weaker c.put_bytes.result
    (λ h. subst (λ (xs : List ℕ). Holds (λ x. g.K.Out.took c.args.out.now x c.put_bytes.new.out)
    (c.args.held.now.items ++ xs) c.put_bytes.new.held.items)
    (sym (ap (λ (p : TapePart). flat_map part_bytes (told_part p)) c.in-Bytes.is ∙ bytes-same c.in-Bytes.bytes.now)) h)
    c.put_bytes.ensures.ok

pub returns-in-Bytes-clause-err : goal.returns-in-Bytes-clause-err
returns-in-Bytes-clause-err g c =
    on_err_weaker c.put_bytes.result
    (λ h. subst (λ (xs : List ℕ). Fronted (λ x. g.K.Out.took c.args.out.now x c.put_bytes.new.out)
    (c.args.held.now.items ++ xs))
    (sym (ap (λ (p : TapePart). flat_map part_bytes (told_part p)) c.in-Bytes.is ∙ bytes-same c.in-Bytes.bytes.now)) h)
    c.put_bytes.ensures.err
