use Rattle.dir_bytes.proofs.ReadAgain.{time_of_day-clock_text}
use Rattle.dir_bytes.proofs.laws.clock_is_read_again.Goals as goal

pub returns : goal.returns
returns c = time_of_day-clock_text
