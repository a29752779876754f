-- What an entry of a vote says, from the vote's bytes and what was kept of it.
use Rattle.std.specs.Prelude.{ℕ, List, map, option_map}
use Rattle.dir_values.specs.FlagSets.{as_set}
use Rattle.frame_values.specs.Parts.{moment_of, part}
use Rattle.item_terms.specs.Words.{words_of}
use Rattle.relay_entries.specs.Fields.{methods_in}
use Rattle.vote_terms.specs.declared.entry.{EntryFacts.EntryFacts, MicroFacts.MicroFacts}
use Rattle.vote_entries.specs.{Kept.KeptEntry, declared.row.KeptMicro.KeptMicro}

-- what an `m` line says that was kept, in these bytes
abbrev pub micro_in : List ℕ → KeptMicro → MicroFacts
micro_in bytes kept = record { methods = methods_in (part bytes kept.methods); digest = kept.digest }

-- what an entry says of which this was kept, in these bytes
abbrev pub entry_in : List ℕ → KeptEntry → EntryFacts
entry_in bytes kept = record {
  nickname = part bytes kept.relay.nickname;
  identity = kept.relay.identity;
  digest = kept.relay.digest;
  published = moment_of kept.relay.published;
  ip = kept.relay.ip;
  or_port = kept.relay.or_port;
  dir_port = kept.relay.dir_port;
  addresses = map (part bytes) kept.addresses;
  flags = as_set (words_of (part bytes kept.flags));
  version = option_map (part bytes) kept.version;
  protocols = option_map (part bytes) kept.protocols;
  bandwidths = kept.bandwidths;
  policy = option_map (part bytes) kept.policy;
  micros = map (micro_in bytes) kept.micros;
  ed = kept.ed;
}
