use Rattle.std.proofs.Common.{◌*◌, ◌/◌, ◌++◌, ◌∙◌, ap₂, sym, length, arith}
use Rattle.mb_fire.specs.Running.{fire_from, dbc_behind}
use Rattle.mb_fire.specs.PortWriter.{Writer, frame_size}
use Rattle.mb_fire.proofs.WriterLemmas.{run-open}
use Rattle.mb_fire.proofs.port_writer.FirePortWriter.write.Goals as goal

pub returns-in-Run-clause-count : goal.returns-in-Run-clause-count
returns-in-Run-clause-count c =
    let run = run-open c.args.self.now.in_sysex c.args.ev c.in-Run.bytes c.in-Run.is in
    c.put_bytes-self-inside.ensures.count
    ∙ ap₂ (λ (w : Writer) bs. dbc_behind w.dbc bs) c.self.view_is (sym run.1)

pub returns-in-Run-clause-written : goal.returns-in-Run-clause-written
returns-in-Run-clause-written c =
    let run = run-open c.args.self.now.in_sysex c.args.ev c.in-Run.bytes c.in-Run.is in
    c.put_bytes-self-inside.ensures.written
    ∙ ap₂ (λ (w : Writer) bs. c.args.out.now.items ++ fire_from w.port w.dbc bs) c.self.view_is (sym run.1)

pub put_bytes-self-inside-requires-clause-room : goal.put_bytes-self-inside-requires-clause-room
put_bytes-self-inside-requires-clause-room c =
    let run = run-open c.args.self.now.in_sysex c.args.ev c.in-Run.bytes c.in-Run.is in
    omega (
      arith,
      ap₂ (λ (w : Writer) bs. frame_size (w.port / 8) * length bs) c.self.view_is (sym run.1),
      c.requires.room,
    )

pub returns-in-Run-clause-len : goal.returns-in-Run-clause-len
returns-in-Run-clause-len c =
    let run = run-open c.args.self.now.in_sysex c.args.ev c.in-Run.bytes c.in-Run.is in
    omega (
      arith,
      c.put_bytes-self-inside.ensures.len,
      ap₂ (λ (w : Writer) bs. frame_size (w.port / 8) * length bs) c.self.view_is (sym run.1),
    )
