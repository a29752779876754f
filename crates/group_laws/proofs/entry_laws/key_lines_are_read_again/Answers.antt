use Rattle.group_laws.proofs.WrittenKeys.{key_again}
use Rattle.group_laws.proofs.entry_laws.key_lines_are_read_again.Goals as goal

pub returns : goal.returns
returns c = key_again
