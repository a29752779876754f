use Rattle.group_laws.proofs.WrittenRandoms.{random_again}
use Rattle.group_laws.proofs.line_laws.random_lines_are_read_again.Goals as goal

pub returns : goal.returns
returns c = random_again
