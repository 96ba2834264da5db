use Rattle.mb_usb.proofs.UsbLaw as law
use Rattle.mb_usb.proofs.laws.usb_writing.Goals as goal

pub returns-clause-live : goal.returns-clause-live
returns-clause-live c = law.live

pub returns-clause-rest : goal.returns-clause-rest
returns-clause-rest c = law.rest

pub returns-clause-broken : goal.returns-clause-broken
returns-clause-broken c = law.broken
