-- What votes say on the lines of their lists.
use Rattle.std.specs.Prelude.{ℕ, List, Option}
use Rattle.list_values.specs.declared.named.Named.{Named}
use Rattle.vote_terms.specs.declared.lists.VoteLists.{VoteLists}
use Rattle.consensus_calc.specs.declared.version_lists.VersionsLine.{VersionsLine, TheVariants.{ForClients, ForRelays}}
use Rattle.consensus_calc.specs.declared.protocol_lists.ProtocolsLine.{ProtocolsLine, TheVariants.RecommendedForClients}
use Rattle.consensus_calc.specs.declared.protocol_lists.ProtocolsLine.TheVariants.{RecommendedForRelays}
use Rattle.consensus_calc.specs.declared.protocol_lists.ProtocolsLine.TheVariants.{RequiredOfClients, RequiredOfRelays}

-- a line of versions of a vote's lists
abbrev pub versions_on : VersionsLine → VoteLists → Option (List (List ℕ))
versions_on ForClients lists = lists.client_versions
versions_on ForRelays lists = lists.server_versions

-- a line of protocols
abbrev pub protocols_on : ProtocolsLine → VoteLists → Option (List (Named (List ℕ)))
protocols_on RecommendedForClients lists = lists.recommended_client_protocols
protocols_on RecommendedForRelays lists = lists.recommended_relay_protocols
protocols_on RequiredOfClients lists = lists.required_client_protocols
protocols_on RequiredOfRelays lists = lists.required_relay_protocols
