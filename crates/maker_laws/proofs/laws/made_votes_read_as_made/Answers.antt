use Rattle.descriptor_laws.proofs.DescriptorInRange.{descriptors_in_range}
use Rattle.maker_laws.proofs.MadeRead.{read_as_made}
use Rattle.maker_laws.proofs.laws.made_votes_read_as_made.Goals as goal

pub returns : goal.returns
returns c = read_as_made descriptors_in_range
