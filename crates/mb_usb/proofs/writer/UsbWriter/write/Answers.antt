use Rattle.std.proofs.Common.{sym, ◌∙◌}
use Rattle.mb_stream.proofs.EventLemmas.{run_facts}
use Rattle.mb_usb.proofs.writer.UsbWriter.write.Goals as goal

pub returns-in-Run-clause-in_sysex : goal.returns-in-Run-clause-in_sysex
returns-in-Run-clause-in_sysex c =
    let run = run_facts c.args.self.now.in_sysex c.args.ev c.in-Run.bytes c.in-Run.is c.requires.suits c.requires.run in
    c.put_run-self-inside.ensures.opened run.some ∙ sym run.opened
