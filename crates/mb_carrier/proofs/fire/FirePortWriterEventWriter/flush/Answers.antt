use Rattle.std.proofs.Common.{List}
use Rattle.mb_message.specs.Signs.{Sign}
use Rattle.mb_fire.specs.PortWriter.{Stands}
use Rattle.mb_fire.specs.Written.{fire_written}
use Rattle.mb_carrier.proofs.PutLemmas.{flush_stands-by, flush_written-by}
use Rattle.mb_carrier.proofs.fire.FirePortWriterEventWriter.flush.Goals as goal

pub returns-clause-stands : goal.returns-clause-stands
returns-clause-stands c = flush_stands-by (λ (marks : List Sign). Stands c.args.self.now marks)

pub returns-clause-written : goal.returns-clause-written
returns-clause-written c = λ puts w. flush_written-by (fire_written c.args.self.now.port) c.args.out.now.items puts
