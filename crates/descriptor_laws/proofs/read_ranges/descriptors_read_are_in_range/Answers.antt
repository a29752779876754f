use Rattle.descriptor_laws.proofs.DescriptorInRange.{descriptors_in_range}
use Rattle.descriptor_laws.proofs.read_ranges.descriptors_read_are_in_range.Goals as goal

pub returns : goal.returns
returns c = descriptors_in_range
