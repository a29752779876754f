use Rattle.dir_bytes.proofs.ReadAgain.{signed-signed_decimal}
use Rattle.dir_bytes.proofs.laws.signed_is_read_again.Goals as goal

pub returns : goal.returns
returns c = signed-signed_decimal
