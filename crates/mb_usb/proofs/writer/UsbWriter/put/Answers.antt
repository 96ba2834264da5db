use Rattle.mb_usb.proofs.WriterLemmas.{Stands-put, usb_live-more}
use Rattle.mb_usb.proofs.writer.UsbWriter.put.Goals as goal

pub returns-clause-stands : goal.returns-clause-stands
returns-clause-stands c marks =
    Stands-put c.args.self.now c.write.new.self c.args.ev marks c.requires.suits c.write.ensures.in_sysex
    c.write.ensures.pending

pub returns-clause-written : goal.returns-clause-written
returns-clause-written c marks =
    usb_live-more c.args.self.now c.args.ev marks c.args.out.now.items c.write.new.out.items c.requires.suits
    c.write.ensures.written
