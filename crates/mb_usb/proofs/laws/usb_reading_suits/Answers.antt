use Rattle.mb_usb.proofs.CarrierLaws as law
use Rattle.mb_usb.proofs.laws.usb_reading_suits.Goals as goal

pub returns-clause-suits : goal.returns-clause-suits
returns-clause-suits c = law.suits

pub returns-clause-valid : goal.returns-clause-valid
returns-clause-valid c = law.valid

pub returns-clause-few : goal.returns-clause-few
returns-clause-few c = law.few
