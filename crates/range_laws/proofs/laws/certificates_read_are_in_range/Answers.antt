use Rattle.range_laws.proofs.CertRead.{cert_in_range}
use Rattle.range_laws.proofs.laws.certificates_read_are_in_range.Goals as goal

pub returns : goal.returns
returns c = cert_in_range
