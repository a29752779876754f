use Rattle.descriptor_laws.proofs.DescriptorInRange.{descriptors_in_range}
use Rattle.maker_laws.proofs.FileVotes.{read_with_file}
use Rattle.maker_laws.proofs.file_laws.file_votes_read_as_made.Goals as goal

pub returns : goal.returns
returns c = read_with_file descriptors_in_range
