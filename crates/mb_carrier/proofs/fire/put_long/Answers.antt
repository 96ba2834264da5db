use Rattle.std.proofs.Common.{◌<◌, List, arith}
use Rattle.mb_message.specs.Signs.{Sign, signs_of_event}
use Rattle.mb_fire.specs.PortWriter.{Stands}
use Rattle.mb_fire.specs.Written.{fire_written}
use Rattle.mb_carrier.proofs.PutLemmas.{stands-by, written-by}
use Rattle.mb_fire.proofs.WriterLemmas.{event-fits}
use Rattle.mb_carrier.proofs.fire.put_long.Goals as goal

pub put-requires-clause-room : goal.put-requires-clause-room
put-requires-clause-room c =
    let low : c.args.writer.now.port < 64 = omega (arith, c.port.ensures.port, c.port.ensures.within) in
    omega (arith, c.requires.room, event-fits c.args.writer.now.port c.args.ev low c.requires.run)

pub returns-clause-len : goal.returns-clause-len
returns-clause-len c =
    let low : c.args.writer.now.port < 64 = omega (arith, c.port.ensures.port, c.port.ensures.within) in
    omega (arith, c.put.ensures.len, event-fits c.args.writer.now.port c.args.ev low c.requires.run)

pub returns-clause-stands : goal.returns-clause-stands
returns-clause-stands c =
    stands-by (λ (marks : List Sign). Stands c.args.writer.now marks)
    (λ (marks : List Sign). Stands c.put.new.self marks) c.args.moment (signs_of_event c.args.ev)
    c.put.ensures.stands

pub returns-clause-written : goal.returns-clause-written
returns-clause-written c =
    written-by (fire_written c.args.writer.now.port) (λ (marks : List Sign). Stands c.args.writer.now marks)
    c.args.moment (signs_of_event c.args.ev)
    c.args.out.now.items c.put.new.out.items c.put.ensures.written
