use Rattle.group_laws.proofs.WrittenDelays.{delays_again}
use Rattle.group_laws.proofs.line_laws.delay_lines_are_read_again.Goals as goal

pub returns : goal.returns
returns c = delays_again
