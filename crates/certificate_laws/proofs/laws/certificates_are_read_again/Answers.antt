use Rattle.certificate_laws.proofs.CertAgain.{certificates_again}
use Rattle.certificate_laws.proofs.laws.certificates_are_read_again.Goals as goal

pub returns : goal.returns
returns c = certificates_again
