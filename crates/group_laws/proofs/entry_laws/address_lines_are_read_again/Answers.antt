use Rattle.group_laws.proofs.WrittenAddresses.{address_again}
use Rattle.group_laws.proofs.entry_laws.address_lines_are_read_again.Goals as goal

pub returns : goal.returns
returns c = address_again
