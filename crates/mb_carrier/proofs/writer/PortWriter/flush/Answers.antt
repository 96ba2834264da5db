use Rattle.std.proofs.Common.{List, [], ◌∷◌, ◌++◌, sym, subst}
use Rattle.mb_message.specs.Signs.{Sign}
use Rattle.mb_stream.specs.Appended.{Appended}
use Rattle.mb_stream.specs.Puts.{Flush}
use Rattle.mb_fire.specs.PortWriter.{Stands}
use Rattle.mb_fire.specs.Written.{fire_written}
use Rattle.mb_carrier.specs.Carrier.{live}
use Rattle.mb_carrier.specs.Port.{writer_spec_by, WriterStandsBy}
use Rattle.mb_carrier.specs.declared.writer.WriterOf.{WriterOf}
use Rattle.mb_carrier.proofs.PutLemmas.{flush_stands-by, flush_written-by}
use Rattle.mb_carrier.proofs.writer.PortWriter.flush.Goals as goal

pub returns-in-Fire-clause-stands : goal.returns-in-Fire-clause-stands
returns-in-Fire-clause-stands c = λ puts.
    subst (λ (w : WriterOf). WriterStandsBy w puts → WriterStandsBy w (puts ++ Flush ∷ [])) (sym c.in-Fire.is)
    (flush_stands-by (λ (marks : List Sign). Stands c.in-Fire.field-0 marks) puts)

pub returns-in-Fire-clause-written : goal.returns-in-Fire-clause-written
returns-in-Fire-clause-written c = λ puts stands.
    let held = c.args.out.now.items in
    subst (λ (w : WriterOf). Appended held held (live (writer_spec_by w) puts)
    (live (writer_spec_by w) (puts ++ Flush ∷ []))) (sym c.in-Fire.is)
    (flush_written-by (fire_written c.in-Fire.field-0.port) held puts)
