use Rattle.dir_bytes.proofs.ReadAgain.{date-date_text}
use Rattle.dir_bytes.proofs.laws.date_is_read_again.Goals as goal

pub returns : goal.returns
returns c = date-date_text
