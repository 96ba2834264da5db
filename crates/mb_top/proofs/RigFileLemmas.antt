-- A rig is read from its file.
use Rattle.std.proofs.Common.{◌≡◌, ℕ, List, [], length, sym, ◌∙◌, ap, inl, inr}
use Rattle.std.specs.Prelude.{Result, Ok, Err, IfOk, IfErr}
use Rattle.std.proofs.lemmas.List.{append-nil}
use Rattle.mb_outside.specs.Contents.{Contents}
use Rattle.mb_rig.specs.RigText.{Setup, Right, rig_of, wants_memory}
use Rattle.mb_top.specs.Ran.{Faulted}
use Rattle.mb_top.specs.RigFile.{HasRigStop, HasText, IsRigStop, RigRead}
use Rattle.mb_top.specs.TextFile.{FileRead}
use Rattle.mb_top.specs.declared.fault.Fault.TheVariants as fault
use Rattle.mb_top.specs.declared.status.Status.TheVariants.{Stopped}
use Rattle.mb_top.specs.declared.status.Stop.{Stop}
use Rattle.mb_top.specs.declared.status.Stop.TheVariants.{ReadFault, Refused, TooLong, Faulty as FaultyStop}
use Rattle.mb_top.proofs.RigTextLemmas.{not-long}
use Rattle.mb_top.proofs.RulesLemmas.{opened-given}
use Rattle.mb_top.proofs.StreamLemmas.{no_fault-told}

has-text : (file text : List ℕ) (before now : Contents) → FileRead file 65537 before now text → HasText file before now
has-text file text before now r =
    record {
      given = opened-given file before now r.opened;
      all = elim r.all [ inl e ↦ inl e | inr n ↦ inr (ap length r.text_is ∙ n) ];
    }

pub rig-read : (file text : List ℕ) (before now : Contents) (result : Result Setup Stop) →
    FileRead file 65537 before now text → IfOk result (λ rig. rig_of text ≡ Right rig) →
    IfErr result (HasRigStop text) → RigRead file before now result
rig-read file text before now (Ok rig) r found stop = (
  r.opened,
  record {
    given = ([], opened-given file before now r.opened ∙ sym (append-nil _));
    all = elim r.all [ inl e ↦ e | inr n ↦ absurd (not-long text rig n found) ];
    is = ap rig_of r.text_is ∙ found;
  },
)
rig-read file text before now (Err (FaultyStop (fault.Rig line cause))) r found stop =
    (inr r.opened, record { text = has-text file text before now r; is = ap rig_of r.text_is ∙ stop })
rig-read file text before now (Err (FaultyStop fault.Memory)) r found stop =
    (inr r.opened, (has-text file text before now r, ap wants_memory r.text_is ∙ stop))
rig-read file text before now (Err ReadFault) r found stop = absurd stop
rig-read file text before now (Err Refused) r found stop = absurd stop
rig-read file text before now (Err TooLong) r found stop = absurd stop
rig-read file text before now (Err (FaultyStop (fault.Tape f))) r found stop = absurd stop
rig-read file text before now (Err (FaultyStop (fault.File f))) r found stop = absurd stop
rig-read file text before now (Err (FaultyStop fault.LongTrack)) r found stop = absurd stop
rig-read file text before now (Err (FaultyStop (fault.LongGap was later))) r found stop = absurd stop
rig-read file text before now (Err (FaultyStop (fault.Rules f))) r found stop = absurd stop

pub rig-stops : (text : List ℕ) (result : Result Setup Stop) → IfErr result (HasRigStop text) →
    IfErr result (λ stop. IsRigStop (Stopped stop))
rig-stops text (Ok rig) h = tt
rig-stops text (Err (FaultyStop (fault.Rig line cause))) h = tt
rig-stops text (Err (FaultyStop fault.Memory)) h = tt
rig-stops text (Err ReadFault) h = absurd h
rig-stops text (Err Refused) h = absurd h
rig-stops text (Err TooLong) h = absurd h
rig-stops text (Err (FaultyStop (fault.Tape f))) h = absurd h
rig-stops text (Err (FaultyStop (fault.File f))) h = absurd h
rig-stops text (Err (FaultyStop fault.LongTrack)) h = absurd h
rig-stops text (Err (FaultyStop (fault.LongGap was later))) h = absurd h
rig-stops text (Err (FaultyStop (fault.Rules f))) h = absurd h

pub rig-faults : (text : List ℕ) (result : Result Setup Stop) (reads reads_now writes writes_now : ℕ) →
    IfErr result (HasRigStop text) → reads_now ≡ reads → writes_now ≡ writes →
    IfErr result (λ stop. Faulted (Unit {0}) reads reads_now writes writes_now (Stopped stop))
rig-faults text (Ok rig) reads reads_now writes writes_now h same still = tt
rig-faults text (Err (FaultyStop (fault.Rig line cause))) reads reads_now writes writes_now h same still =
    no_fault-told (Unit {0}) (FaultyStop (fault.Rig line cause)) reads reads_now writes writes_now (λ e. cc) (λ e. cc) same
    still
rig-faults text (Err (FaultyStop fault.Memory)) reads reads_now writes writes_now h same still =
    no_fault-told (Unit {0}) (FaultyStop fault.Memory) reads reads_now writes writes_now (λ e. cc) (λ e. cc) same still
rig-faults text (Err ReadFault) reads reads_now writes writes_now h same still = absurd h
rig-faults text (Err Refused) reads reads_now writes writes_now h same still = absurd h
rig-faults text (Err TooLong) reads reads_now writes writes_now h same still = absurd h
rig-faults text (Err (FaultyStop (fault.Tape f))) reads reads_now writes writes_now h same still = absurd h
rig-faults text (Err (FaultyStop (fault.File f))) reads reads_now writes writes_now h same still = absurd h
rig-faults text (Err (FaultyStop fault.LongTrack)) reads reads_now writes writes_now h same still = absurd h
rig-faults text (Err (FaultyStop (fault.LongGap was later))) reads reads_now writes writes_now h same still = absurd h
rig-faults text (Err (FaultyStop (fault.Rules f))) reads reads_now writes writes_now h same still = absurd h
