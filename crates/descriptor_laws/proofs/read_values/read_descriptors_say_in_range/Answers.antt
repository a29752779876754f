use Rattle.descriptor_laws.proofs.DescriptorValues.{say_in_range}
use Rattle.descriptor_laws.proofs.read_values.read_descriptors_say_in_range.Goals as goal

pub returns : goal.returns
returns c = say_in_range
