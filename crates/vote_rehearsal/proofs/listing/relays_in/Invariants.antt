use Rattle.std.{proofs.Common.{◌≡◌, ◌++◌}, specs.BTreeMap.values}
use Rattle.vote_rehearsal.proofs.listing.relays_in.Given as goal

abbrev pub invariant-relays : goal.invariant-relays
invariant-relays l = l.found.items ++ l.relay-iterator ≡ values l.listed
