use Rattle.mb_ports.proofs.PortsLaw.{ports_law}
use Rattle.mb_ports.proofs.laws.reading_event_by_event.Goals as goal

pub returns : goal.returns
returns c = ports_law
