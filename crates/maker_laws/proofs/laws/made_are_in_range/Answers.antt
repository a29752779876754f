use Rattle.descriptor_laws.proofs.DescriptorInRange.{descriptors_in_range}
use Rattle.maker_laws.proofs.MadeRead.{are_in_range}
use Rattle.maker_laws.proofs.laws.made_are_in_range.Goals as goal

pub returns : goal.returns
returns c = are_in_range descriptors_in_range
