use Rattle.mb_usb.proofs.LiveLaw.{lacks_two}
use Rattle.mb_usb.proofs.laws.usb_holds_back.Goals as goal

pub returns : goal.returns
returns c = lacks_two
