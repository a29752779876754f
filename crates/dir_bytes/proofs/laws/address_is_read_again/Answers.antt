use Rattle.dir_bytes.proofs.ReadAgain.{address-address_text}
use Rattle.dir_bytes.proofs.laws.address_is_read_again.Goals as goal

pub returns : goal.returns
returns c = address-address_text
