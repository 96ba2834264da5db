use Rattle.std.proofs.Common.{◌≡◌, of_calls}
use Rattle.mb_din.specs.State.{fresh}
use Rattle.mb_din.proofs.ReaderLaw.{new_stands}
use Rattle.mb_usb.specs.State.{reader_at}
use Rattle.mb_usb.proofs.UsbReaderLaw.{new-stands}
use Rattle.mb_usb.proofs.reader.UsbReader.new.Goals as goal

pub returns-clause-stands : goal.returns-clause-stands
returns-clause-stands c =
    new-stands c.new.result c.from_fn.result c.new.ensures
    (λ i low. let k = c.from_fn.ensures.items.at i fresh low in let e : reader_at c.from_fn.result i ≡ fresh =
    search of_calls in new_stands (reader_at c.from_fn.result i) e)
