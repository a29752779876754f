use Rattle.group_laws.proofs.WrittenBandwidths.{bandwidth_again}
use Rattle.group_laws.proofs.entry_laws.bandwidth_lines_are_read_again.Goals as goal

pub returns : goal.returns
returns c = bandwidth_again
