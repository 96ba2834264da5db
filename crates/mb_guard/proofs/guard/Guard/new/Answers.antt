use Rattle.std.proofs.Common.{◌∙◌, false, sym, replicate, arith}
use Rattle.std.proofs.lemmas.List.{get_or-replicate, length-replicate}
use Rattle.mb_guard.proofs.Heard.{heard-nothing}
use Rattle.mb_guard.proofs.Sounded.{sounding-nothing}
use Rattle.mb_guard.proofs.guard.Guard.new.Goals as goal

pub returns-clause-nothing : goal.returns-clause-nothing
returns-clause-nothing c =
    heard-nothing 0 2048 (replicate 2048 false)
    (λ j low. get_or-replicate 2048 j false false (omega (arith, low, length-replicate 2048 false)))

pub returns-clause-stands : goal.returns-clause-stands
returns-clause-stands c = returns-clause-nothing c ∙ sym sounding-nothing
