use Rattle.bandwidth_laws.proofs.OneFile.{one_file}
use Rattle.bandwidth_laws.proofs.laws.bytes_are_one_file.Goals as goal

pub returns : goal.returns
returns c = one_file
