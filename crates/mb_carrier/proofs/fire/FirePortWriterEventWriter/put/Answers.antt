use Rattle.std.proofs.Common.{List, arith}
use Rattle.mb_message.specs.Signs.{Sign, signs_of_event}
use Rattle.mb_fire.specs.PortWriter.{Stands}
use Rattle.mb_fire.specs.Written.{fire_written}
use Rattle.mb_carrier.proofs.PutLemmas.{stands-by, written-by}
use Rattle.mb_fire.proofs.WriterLemmas.{few-fits}
use Rattle.mb_carrier.proofs.fire.FirePortWriterEventWriter.put.Goals as goal

pub put-requires-clause-room : goal.put-requires-clause-room
put-requires-clause-room c =
    omega (arith, c.requires.room, few-fits c.args.self.now.port c.args.ev c.requires.run)

pub returns-clause-len : goal.returns-clause-len
returns-clause-len c =
    omega (arith, c.put.ensures.len, few-fits c.args.self.now.port c.args.ev c.requires.run)

pub returns-clause-stands : goal.returns-clause-stands
returns-clause-stands c =
    stands-by (λ (marks : List Sign). Stands c.args.self.now marks)
    (λ (marks : List Sign). Stands c.put.new.self marks) c.args.moment (signs_of_event c.args.ev)
    c.put.ensures.stands

pub returns-clause-written : goal.returns-clause-written
returns-clause-written c =
    written-by (fire_written c.args.self.now.port) (λ (marks : List Sign). Stands c.args.self.now marks) c.args.moment
    (signs_of_event c.args.ev)
    c.args.out.now.items c.put.new.out.items c.put.ensures.written
