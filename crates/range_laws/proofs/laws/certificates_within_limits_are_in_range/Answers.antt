use Rattle.range_laws.proofs.CertRead.{cert_within}
use Rattle.range_laws.proofs.laws.certificates_within_limits_are_in_range.Goals as goal

pub returns : goal.returns
returns c = cert_within
