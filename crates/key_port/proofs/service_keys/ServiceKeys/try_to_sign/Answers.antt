use Rattle.std.proofs.Common.{refl, rules}
use Rattle.key_port.proofs.service_keys.ServiceKeys.try_to_sign.Goals as goal

pub returns-in-Some-clause-tried : goal.returns-in-Some-clause-tried
returns-in-Some-clause-tried g c = rw c.in-Some.is (
  (c.exchange_signing.new.source, c.exchange_signing.new.sink),
  record { asked = search rules; heard = search rules; comes = search rules; exact = search rules },
  refl,
)
