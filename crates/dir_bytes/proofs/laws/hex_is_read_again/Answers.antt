use Rattle.dir_bytes.proofs.ReadAgain.{hex-hex_text}
use Rattle.dir_bytes.proofs.laws.hex_is_read_again.Goals as goal

pub returns : goal.returns
returns c = hex-hex_text
