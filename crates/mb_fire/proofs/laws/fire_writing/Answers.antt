use Rattle.mb_stream.specs.Spelling.{full_bytes}
use Rattle.mb_fire.proofs.WriterLemmas.{from-number}
use Rattle.mb_fire.proofs.laws.fire_writing.Goals as goal

pub returns : goal.returns
returns c port marks = from-number port 0 (full_bytes marks)
