use Rattle.std.proofs.Common.{◌≡◌, List, true}
use Rattle.mb_message.specs.Signs.{Sign}
use Rattle.mb_din.specs.Writer.{Stands}
use Rattle.mb_din.specs.Written.{din_written}
use Rattle.mb_carrier.proofs.PutLemmas.{flush_stands-by, flush_written-by}
use Rattle.mb_carrier.proofs.din.DinWriterEventWriter.flush.Goals as goal

pub returns-clause-stands : goal.returns-clause-stands
returns-clause-stands c = flush_stands-by
    (λ (marks : List Sign). Stands c.args.self.now marks × (c.args.self.now.running ≡ true))

pub returns-clause-written : goal.returns-clause-written
returns-clause-written c = λ puts w. flush_written-by din_written c.args.out.now.items puts
