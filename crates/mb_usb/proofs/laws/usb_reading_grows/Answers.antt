use Rattle.mb_usb.proofs.CablesLaw.{stays}
use Rattle.mb_usb.proofs.laws.usb_reading_grows.Goals as goal

pub returns : goal.returns
returns c = stays
