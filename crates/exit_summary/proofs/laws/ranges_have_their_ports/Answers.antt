use Rattle.exit_summary.proofs.RangeLaws.{ranges_ports}
use Rattle.exit_summary.proofs.laws.ranges_have_their_ports.Goals as goal

pub returns : goal.returns
returns c = ranges_ports
