use Rattle.group_laws.proofs.WrittenDelays.{flags_again}
use Rattle.group_laws.proofs.line_laws.flag_lines_are_read_again.Goals as goal

pub returns : goal.returns
returns c = flags_again
