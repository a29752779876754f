use Rattle.field_votes.proofs.VotedVersions.{voted_law}
use Rattle.field_votes.proofs.laws.voted_versions_are_those_of_most.Goals as goal

pub returns : goal.returns
returns c = voted_law
