use Rattle.maker_laws.proofs.GivenCert.{certificates_are_given}
use Rattle.maker_laws.proofs.station_cert_laws.station_certificates_are_given.Goals as goal

pub returns : goal.returns
returns c = certificates_are_given
