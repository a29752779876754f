use Rattle.group_laws.proofs.WrittenMicros.{micro_again}
use Rattle.group_laws.proofs.entry_laws.micro_lines_are_read_again.Goals as goal

pub returns : goal.returns
returns c = micro_again
