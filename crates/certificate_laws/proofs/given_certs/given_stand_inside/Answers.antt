use Rattle.certificate_laws.proofs.InVotes.{given_stand}
use Rattle.certificate_laws.proofs.given_certs.given_stand_inside.Goals as goal

pub returns : goal.returns
returns c = given_stand
