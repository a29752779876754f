-- What a vote says that is in range is in range, whatever its certificate.
use Rattle.vote_terms.specs.declared.facts.VoteFacts.{VoteFacts}
use Rattle.vote_laws.specs.Again.{HasValuesInRange, IsInRange}

pub values_in : (facts : VoteFacts) → IsInRange facts → HasValuesInRange facts
values_in facts are = record {
  methods = are.methods;
  published = are.published;
  valid_after = are.valid_after;
  fresh_until = are.fresh_until;
  valid_until = are.valid_until;
  vote_seconds = are.vote_seconds;
  dist_seconds = are.dist_seconds;
  known_flags = are.known_flags;
  lists = are.lists;
  nickname = are.nickname;
  identity = are.identity;
  address = are.address;
  ip = are.ip;
  dir_port = are.dir_port;
  or_port = are.or_port;
  random_previous = are.random_previous;
  random_current = are.random_current;
  entries = are.entries;
  signature = are.signature;
}
