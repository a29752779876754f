use Rattle.dir_bytes.proofs.ReadAgain.{base64-base64_text}
use Rattle.dir_bytes.proofs.laws.base64_is_read_again.Goals as goal

pub returns : goal.returns
returns c = base64-base64_text
