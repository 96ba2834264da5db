use Rattle.std.proofs.Common.{arith, sym, ◌∙◌, ◌%◌}
use Rattle.mb_fire.proofs.RingLemmas.{at_read}
use Rattle.mb_fire.proofs.RingLaw.{put_stands}
use Rattle.mb_fire.proofs.writer.FireWriter.put.Goals as goal

pub returns-clause-stands : goal.returns-clause-stands
returns-clause-stands c =
    put_stands c.args.self.now c.self.inside.place c.self.inside.dbc c.self.inside.rings
    (c.args.port % 8) c.put.new.self _ c.args.ev c.self.view_is (omega arith)
    (sym c.index-self-port.is ∙ sym (at_read c.self.inside.rings (c.args.port % 8) c.index-self-port.result
    (omega arith) c.index-self-port.is)) c.requires.run c.put.ensures.ring c.put.ensures.in_sysex c.requires.suits
