use Rattle.std.proofs.Common.{◌<◌, ◌∙◌, ap, length, rules}
use Rattle.mb_stream.specs.ReaderLaw.{answer}
use Rattle.mb_usb.specs.State.{UsbState, reader_at}
use Rattle.mb_usb.proofs.AnewLemmas.{usb-anew}
use Rattle.mb_usb.proofs.UsbReaderLaw.{finish-told}
use Rattle.mb_usb.proofs.reader.UsbReader.finish_port.Goals as goal

pub returns-clause-in_turn : goal.returns-clause-in_turn
returns-clause-in_turn c was same =
    let here : c.args.cable < length c.self.inside.dins = search rules in
    finish-told was c.self.inside.dins c.args.cable c.index-self-cable.result (answer c.finish.result)
    (ap (λ (s : UsbState). reader_at s.readers c.args.cable) c.self.view_is ∙ same) c.requires here
    c.finish.ensures.told

pub returns-clause-told : goal.returns-clause-told
returns-clause-told c =
    let here : c.args.cable < length c.self.inside.dins = search rules in
    finish-told c.args.self.now c.self.inside.dins c.args.cable c.index-self-cable.result (answer c.finish.result)
    (ap (λ (s : UsbState). reader_at s.readers c.args.cable) c.self.view_is) c.requires here c.finish.ensures.told

pub returns-clause-anew : goal.returns-clause-anew
returns-clause-anew c =
    let here : c.args.cable < length c.self.inside.dins = search rules in
    usb-anew c.args.self.now c.self.inside.packet c.self.inside.dins c.args.cable c.finish.new.self _ c.self.view_is
    c.requires here c.finish.ensures.as_fresh
