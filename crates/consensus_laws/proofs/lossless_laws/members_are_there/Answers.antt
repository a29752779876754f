use Rattle.consensus_laws.proofs.MemberPlaces.{members_there}
use Rattle.consensus_laws.proofs.lossless_laws.members_are_there.Goals as goal

pub returns : goal.returns
returns c = members_there
