use Rattle.dir_bytes.proofs.ReadAgain.{moment-moment_text}
use Rattle.dir_bytes.proofs.laws.moment_is_read_again.Goals as goal

pub returns : goal.returns
returns c = moment-moment_text
