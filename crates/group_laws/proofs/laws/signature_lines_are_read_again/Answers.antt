use Rattle.group_laws.proofs.SignatureLines.{lines_again}
use Rattle.group_laws.proofs.laws.signature_lines_are_read_again.Goals as goal

pub returns : goal.returns
returns c = lines_again
