use Rattle.mb_stream.specs.ReaderLaw.{answer}
use Rattle.mb_usb.proofs.AnewLemmas.{cable-anew}
use Rattle.mb_usb.proofs.OnlyCable.{finish-told}
use Rattle.mb_usb.proofs.cable.CableReader.finish.Goals as goal

pub returns-clause-told : goal.returns-clause-told
returns-clause-told c =
    finish-told c.args.self.now c.self.inside.cable c.self.inside.packet c.self.inside.din (answer c.finish.result)
    c.self.view_is c.finish.ensures.told

pub returns-clause-anew : goal.returns-clause-anew
returns-clause-anew c =
    cable-anew c.args.self.now c.self.inside.cable c.self.inside.packet c.self.inside.din _ c.self.inside.din.offset
    c.self.view_is c.finish.ensures.as_fresh
