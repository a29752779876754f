use Rattle.descriptor_laws.proofs.WrittenLines.{bandwidth_again, hibernating_again, identity_again, key_again}
use Rattle.descriptor_laws.proofs.WrittenLines.{router_again, signature_again, uptime_again}
use Rattle.descriptor_laws.proofs.WrittenPolicies.{policy_again}
use Rattle.descriptor_laws.proofs.laws.descriptor_lines_are_read_again.Goals as goal

pub returns : goal.returns
returns c = record {
  routers = router_again;
  bandwidths = bandwidth_again;
  identities = identity_again;
  policies = policy_again;
  uptimes = uptime_again;
  hibernating = hibernating_again;
  keys = key_again;
  signatures = signature_again;
}
