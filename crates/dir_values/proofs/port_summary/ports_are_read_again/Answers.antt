use Rattle.dir_values.proofs.PortsAgain.{ports_again}
use Rattle.dir_values.proofs.port_summary.ports_are_read_again.Goals as goal

pub returns : goal.returns
returns c = ports_again
