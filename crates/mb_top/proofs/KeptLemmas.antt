-- What keeps a command from going on, as its reader tells it; and how an input ended.
use Rattle.std.proofs.Common.{◌≡◌, ℕ, Bool, true, false, if◌then◌else◌, List, sym, subst}
use Rattle.std.specs.Prelude.{Option, None, Some}
use Rattle.mb_frames.specs.declared.tape.TapeFault.{TapeFault}
use Rattle.mb_smf.specs.declared.fault.SmfFault.{SmfFault}
use Rattle.mb_top.specs.Task.{Task}
use Rattle.mb_top.specs.Output.{fault_of, in_file, in_tape}
use Rattle.mb_top.specs.Job.{JobEnded, JobEndedAs, KeptBy}
use Rattle.mb_top.specs.declared.ending.Ending.{Ending}
use Rattle.mb_top.specs.declared.ending.Ending.TheVariants as ending
use Rattle.mb_top.specs.declared.fault.Fault.{Fault}

pub kept-tape : (c : Task) (input : List ℕ) (told : Option TapeFault) (f : Option Fault) → f ≡ in_tape told →
    fault_of c input ≡ in_tape told → KeptBy c input f
kept-tape c input None f is e = subst (KeptBy c input) (sym is) e
kept-tape c input (Some g) f is e = subst (KeptBy c input) (sym is) e

pub kept-file : (c : Task) (input : List ℕ) (told : Option SmfFault) (f : Option Fault) → f ≡ in_file told →
    fault_of c input ≡ in_file told → KeptBy c input f
kept-file c input None f is e = subst (KeptBy c input) (sym is) e
kept-file c input (Some g) f is e = subst (KeptBy c input) (sym is) e

pub ended-as : (c : Task) (was now : List ℕ → Type 0) (noted : Bool) (told : Ending) (took : List ℕ → Type 0) →
    told ≡ (if noted then ending.Noted else ending.Quiet) → JobEnded c was now noted took →
    JobEndedAs c was now told took
ended-as c was now true told took is e = subst (λ (x : Ending). JobEndedAs c was now x took) (sym is) e
ended-as c was now false told took is e = subst (λ (x : Ending). JobEndedAs c was now x took) (sym is) e
