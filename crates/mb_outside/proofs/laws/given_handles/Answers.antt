use Rattle.mb_outside.proofs.HandleLemmas.{readable-opened, writable-created}
use Rattle.mb_outside.proofs.laws.given_handles.Goals as goal

pub returns : goal.returns
returns c = record { opened = readable-opened; created = writable-created }
