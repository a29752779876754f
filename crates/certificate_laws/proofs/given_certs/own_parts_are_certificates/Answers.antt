use Rattle.certificate_laws.proofs.CertCut.{own_parts}
use Rattle.certificate_laws.proofs.given_certs.own_parts_are_certificates.Goals as goal

pub returns : goal.returns
returns c = own_parts
