use Rattle.std.proofs.Common.{◌≡◌}
use Rattle.vote_rehearsal.specs.Relays.{by_identity, listed_relays, relays_below, start_of}
use Rattle.vote_rehearsal.proofs.KnownRelays.{AreIdentitiesOf, AreKeysOf}
use Rattle.vote_rehearsal.proofs.listing.relay_map.Given as goal

abbrev pub invariant-relays : goal.invariant-relays
invariant-relays l = record {
  start_is : l.start ≡ start_of l.seed l.authorities l.number;
  identities_are : AreIdentitiesOf l.identities (relays_below l.seed l.authorities l.number);
  keys_are : AreKeysOf l.keys (relays_below l.seed l.authorities l.number);
  listed_are : l.listed.entries ≡ by_identity (listed_relays l.seed l.authorities l.number);
}
