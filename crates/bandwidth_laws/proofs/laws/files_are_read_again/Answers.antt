use Rattle.bandwidth_laws.proofs.Again.{files_again}
use Rattle.bandwidth_laws.proofs.laws.files_are_read_again.Goals as goal

pub returns : goal.returns
returns c = files_again
