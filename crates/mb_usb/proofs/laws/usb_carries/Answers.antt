use Rattle.mb_usb.proofs.CarrierLaws as law
use Rattle.mb_usb.proofs.OtherCables.{alone}
use Rattle.mb_usb.proofs.laws.usb_carries.Goals as goal

pub returns-clause-means : goal.returns-clause-means
returns-clause-means c = law.means

pub returns-clause-one_more : goal.returns-clause-one_more
returns-clause-one_more c = law.one_more

pub returns-clause-size : goal.returns-clause-size
returns-clause-size c = law.size

pub returns-clause-clean : goal.returns-clause-clean
returns-clause-clean c = law.clean

pub returns-clause-whole : goal.returns-clause-whole
returns-clause-whole c = law.whole

pub returns-clause-alone : goal.returns-clause-alone
returns-clause-alone c = alone
