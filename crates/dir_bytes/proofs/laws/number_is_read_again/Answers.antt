use Rattle.dir_bytes.proofs.ReadAgain.{number-decimal}
use Rattle.dir_bytes.proofs.laws.number_is_read_again.Goals as goal

pub returns : goal.returns
returns c = number-decimal
