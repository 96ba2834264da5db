use Rattle.std.proofs.Common.{List}
use Rattle.mb_message.specs.Signs.{Sign, signs_of_event}
use Rattle.mb_usb.specs.Writer.{Stands}
use Rattle.mb_usb.specs.Written.{usb_live}
use Rattle.mb_carrier.proofs.PutLemmas.{stands-by, written-by}
use Rattle.mb_carrier.proofs.usb.UsbWriterEventWriter.put.Goals as goal

pub returns-clause-stands : goal.returns-clause-stands
returns-clause-stands c =
    stands-by (λ (marks : List Sign). Stands c.args.self.now marks)
    (λ (marks : List Sign). Stands c.put.new.self marks) c.args.moment (signs_of_event c.args.ev)
    c.put.ensures.stands

pub returns-clause-written : goal.returns-clause-written
returns-clause-written c =
    written-by (usb_live c.args.self.now.cable) (λ (marks : List Sign). Stands c.args.self.now marks) c.args.moment
    (signs_of_event c.args.ev)
    c.args.out.now.items c.put.new.out.items c.put.ensures.written
