use Rattle.std.proofs.Common.{refl, rules}
use Rattle.key_port.proofs.service_keys.ServiceKeys.try_once.Goals as goal

pub returns-in-Some-clause-tried : goal.returns-in-Some-clause-tried
returns-in-Some-clause-tried g c = rw c.in-Some.is (
  (c.exchange.new.source, c.exchange.new.sink),
  record { asked = search rules; heard = search rules; comes = search rules; exact = search rules },
  refl,
)
