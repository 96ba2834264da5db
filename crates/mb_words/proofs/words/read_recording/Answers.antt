use Rattle.std.proofs.Common.{refl}
use Rattle.mb_words.specs.Command.{RecordingTape, ToRecord}
use Rattle.mb_words.proofs.ReadLemmas.{if_none, only_lone_spec, plain-means}
use Rattle.mb_words.proofs.words.read_recording.Goals as goal

pub returns-in_err-spec-clause-only : goal.returns-in_err-spec-clause-only
returns-in_err-spec-clause-only c =
    if_none _ _ c.from_residual.ensures
    (λ command m. let l = only_lone_spec _ command ToRecord refl c.requires m in c.in_err-spec.ensures.only l.0 l.1)

pub returns-clause-found : goal.returns-clause-found
returns-clause-found c = plain-means _ (RecordingTape _) c.requires refl c.in_ok-spec.ensures.found tt
