-- The canonical text of what a vote says in lists of values; an empty list is its bare keyword (dir-spec, "Vote and
-- consensus status document formats").
use Rattle.std.specs.Prelude.{ℤ, List, ◌++◌, Option, option_map}
use Rattle.dirdoc_grammar.specs.Writing.{NewItem}
use Rattle.frame_terms.specs.declared.keyword.Keyword.TheVariants as the
use Rattle.frame_values.specs.Items.{item_if}
use Rattle.list_values.specs.{declared.named.Named.Named, Params.params_text, Protocols.protocols_text}
use Rattle.list_values.specs.VersionLists.{versions_text}
use Rattle.vote_terms.specs.declared.lists.VoteLists.{VoteLists}

-- the versions of Tor
abbrev pub version_items : VoteLists → List NewItem
version_items lists =
    item_if the.ClientVersions (option_map versions_text lists.client_versions)
    ++ item_if the.ServerVersions (option_map versions_text lists.server_versions)

-- the protocols that are recommended
abbrev pub recommended_items : VoteLists → List NewItem
recommended_items lists =
    item_if the.RecommendedClientProtocols (option_map protocols_text lists.recommended_client_protocols)
    ++ item_if the.RecommendedRelayProtocols (option_map protocols_text lists.recommended_relay_protocols)

-- those that are required
abbrev pub required_items : VoteLists → List NewItem
required_items lists =
    item_if the.RequiredClientProtocols (option_map protocols_text lists.required_client_protocols)
    ++ item_if the.RequiredRelayProtocols (option_map protocols_text lists.required_relay_protocols)

-- the protocols
abbrev pub protocol_items : VoteLists → List NewItem
protocol_items lists = recommended_items lists ++ required_items lists

-- the params
abbrev pub param_items : Option (List (Named ℤ)) → List NewItem
param_items params = item_if the.Params (option_map params_text params)
