use Rattle.descriptor_laws.proofs.MicroRange.{micro_in_range}
use Rattle.descriptor_laws.proofs.micro_laws.micros_read_are_in_range.Goals as goal

pub returns : goal.returns
returns c = micro_in_range
