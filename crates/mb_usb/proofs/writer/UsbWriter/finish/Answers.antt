use Rattle.std.proofs.Common.{ap, ◌∙◌, ◌++◌}
use Rattle.mb_message.specs.Signs.{AbortSign}
use Rattle.mb_usb.specs.Running.{usb_at}
use Rattle.mb_usb.specs.Writer.{Writer}
use Rattle.mb_usb.proofs.WriterLemmas.{usb_written-rest}
use Rattle.mb_usb.proofs.writer.UsbWriter.finish.Goals as goal

pub returns-clause-written : goal.returns-clause-written
returns-clause-written c marks =
    usb_written-rest c.args.self.now marks c.args.out.now.items c.put_rest.new.out.items
    (c.put_rest.ensures.written ∙ ap (λ (w : Writer). c.args.out.now.items ++ usb_at w.cable w.pending AbortSign)
    c.self.view_is)
