use Rattle.mb_fire.proofs.WriterLemmas.{Stands-put, put-written}
use Rattle.mb_fire.proofs.port_writer.FirePortWriter.put.Goals as goal

pub returns-clause-stands : goal.returns-clause-stands
returns-clause-stands c marks =
    Stands-put c.args.self.now c.write.new.self c.args.ev marks c.requires.suits c.write.ensures.in_sysex
    c.write.ensures.count

pub returns-clause-written : goal.returns-clause-written
returns-clause-written c marks =
    put-written c.args.self.now c.args.ev marks c.args.out.now.items c.write.new.out.items c.write.ensures.written
