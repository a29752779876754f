use Rattle.descriptor_laws.proofs.MicroAgain.{micros_end}
use Rattle.descriptor_laws.proofs.micro_laws.micros_end_before_the_next.Goals as goal

pub returns : goal.returns
returns c = micros_end
