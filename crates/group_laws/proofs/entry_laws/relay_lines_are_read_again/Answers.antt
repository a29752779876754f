use Rattle.group_laws.proofs.WrittenRelays.{relay_again}
use Rattle.group_laws.proofs.entry_laws.relay_lines_are_read_again.Goals as goal

pub returns : goal.returns
returns c = relay_again
