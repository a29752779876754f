use Rattle.descriptor_laws.proofs.MicroAgain.{micros_again}
use Rattle.descriptor_laws.proofs.micro_laws.micros_are_read_again.Goals as goal

pub returns : goal.returns
returns c = micros_again
