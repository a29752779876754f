use Rattle.mirror_core.proofs.SomeBytes.{certs_have, micros_have}
use Rattle.mirror_core.proofs.laws.what_is_read_has_bytes.Goals as goal

pub returns-clause-certs : goal.returns-clause-certs
returns-clause-certs c = certs_have

pub returns-clause-micros : goal.returns-clause-micros
returns-clause-micros c = micros_have
