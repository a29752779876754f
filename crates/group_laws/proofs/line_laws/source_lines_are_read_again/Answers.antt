use Rattle.group_laws.proofs.WrittenSources.{source_again}
use Rattle.group_laws.proofs.line_laws.source_lines_are_read_again.Goals as goal

pub returns : goal.returns
returns c = source_again
