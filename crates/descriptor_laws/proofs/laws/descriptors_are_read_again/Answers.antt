use Rattle.descriptor_laws.proofs.DescriptorAgain.{descriptors_again}
use Rattle.descriptor_laws.proofs.laws.descriptors_are_read_again.Goals as goal

pub returns : goal.returns
returns c = descriptors_again
