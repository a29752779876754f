use Rattle.std.{proofs.Common.{◌≡◌, drop}, specs.List.find}
use Rattle.vote_maker.specs.Entries.{is_ipv6}
use Rattle.vote_maker.proofs.address.first_ipv6.Given as goal

abbrev pub invariant-addresses : goal.invariant-addresses
invariant-addresses l = find is_ipv6 (drop l.address-index l.addresses) ≡ find is_ipv6 l.addresses
