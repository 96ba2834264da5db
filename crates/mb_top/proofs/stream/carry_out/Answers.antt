use Rattle.std.proofs.Common.{refl, rules}
use Rattle.mb_words.specs.Meaning.{meaning}
use Rattle.mb_top.proofs.StreamLemmas.{command-faults, command-may, command-ran, did-stream, memory-wanted}
use Rattle.mb_top.proofs.StreamLemmas.{no_fault-told, nothing-ran}
use Rattle.mb_top.specs.declared.fault.Fault.TheVariants as fault
use Rattle.mb_top.specs.declared.status.Stop.TheVariants.{Faulty}
use Rattle.mb_top.proofs.stream.carry_out.Goals as goal

pub returns-in-Err-clause-did : goal.returns-in-Err-clause-did
returns-in-Err-clause-did g c = λ tells.
    did-stream (meaning c.args.command) _ _ _ _ (search rules)
    (nothing-ran _ _ _ (search rules) c.in-Err.ensures.memory)

pub returns-in-Err-clause-may : goal.returns-in-Err-clause-may
returns-in-Err-clause-may g c = memory-wanted _ c.in-Err.ensures.memory

pub returns-in-Err-clause-faults : goal.returns-in-Err-clause-faults
returns-in-Err-clause-faults g c = no_fault-told _ (Faulty fault.Memory) _ _ _ _ (λ e. cc) (λ e. cc) refl refl

pub returns-in-Ok-clause-did : goal.returns-in-Ok-clause-did
returns-in-Ok-clause-did g c = λ tells.
    did-stream (meaning c.args.command) _ _ _ _ (search rules)
    (command-ran (meaning c.args.command) _ _ _ _ _ c.in-Ok.ensures.ok (search rules) (search rules)
    (c.stream.ensures.ran tells))

pub returns-in-Ok-clause-may : goal.returns-in-Ok-clause-may
returns-in-Ok-clause-may g c = command-may _ _ _ c.in-Ok.ensures.ok c.stream.ensures.may

pub returns-in-Ok-clause-faults : goal.returns-in-Ok-clause-faults
returns-in-Ok-clause-faults g c = command-faults _ _ _ _ _ _ _ c.in-Ok.ensures.ok c.stream.ensures.faults
