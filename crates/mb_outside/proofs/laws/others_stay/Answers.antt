use Rattle.mb_outside.proofs.HandleLemmas.{same-read, same-write, same-open, same-create}
use Rattle.mb_outside.proofs.laws.others_stay.Goals as goal

pub returns : goal.returns
returns c = record { read = same-read; written = same-write; opened = same-open; created = same-create }
