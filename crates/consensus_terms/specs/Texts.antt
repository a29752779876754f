-- The text of a consensus without its signatures (dir-spec, "Vote and consensus status document formats").
use Rattle.std.specs.{Prelude.{ℕ, Bool, List, [], ◌∷◌, ◌++◌, Option, Some, None, codes, decimal}, List.flat_map}
use Rattle.bw_weights.specs.declared.position_weights.Weights.{Weights}
use Rattle.dir_bytes.specs.FieldTexts.{moment_text, hex_text, address_text}
use Rattle.list_values.specs.{Params.params_text, Protocols.protocols_text, VersionLists.versions_text}
use Rattle.value_groups.specs.{Values.padded_text, declared.value.SharedRandom.SharedRandom}
use Rattle.consensus_terms.specs.declared.consensus.{Consensus.Consensus, ConsensusFacts.ConsensusFacts}
use Rattle.consensus_terms.specs.declared.consensus.{ConsensusLists.ConsensusLists, SignedConsensus.SignedConsensus}
use Rattle.consensus_terms.specs.declared.{consensus.SourceLine.SourceLine, flavour.Flavour.{Flavour, TheVariants.Ns}}
use Rattle.consensus_terms.specs.{declared.flavour.Flavour.TheVariants.Microdesc, Flavours.facts_in, Lines.line}
use Rattle.consensus_terms.specs.{Lines.{list_line, list_line_by, rest_line}, Methods.is_34_or_later}
use Rattle.consensus_terms.specs.{Routers.listed_lines, Weights.weight_words}

-- ---- the preamble

-- the version of the document, and its flavour where it is not ns
abbrev pub version_words : Flavour → List (List ℕ)
version_words Ns = codes "3" ∷ []
version_words Microdesc = codes "3" ∷ codes "microdesc" ∷ []

-- what the document is, and the method
abbrev pub kind_lines : Flavour → ℕ → List ℕ
kind_lines flavour method =
    line (codes "network-status-version") (version_words flavour)
    ++ line (codes "vote-status") (codes "consensus" ∷ [])
    ++ line (codes "consensus-method") (decimal method ∷ [])

-- its times
abbrev pub time_lines : ConsensusFacts → List ℕ
time_lines c =
    line (codes "valid-after") (moment_text c.valid_after ∷ [])
    ++ line (codes "fresh-until") (moment_text c.fresh_until ∷ [])
    ++ line (codes "valid-until") (moment_text c.valid_until ∷ [])
    ++ line (codes "voting-delay") (decimal c.vote_seconds ∷ decimal c.dist_seconds ∷ [])

-- the versions that are recommended to clients and to relays, where there are some, or always
abbrev pub version_lines : Bool → ConsensusLists → List ℕ
version_lines always lists =
    list_line_by always versions_text (codes "client-versions") lists.client_versions
    ++ list_line_by always versions_text (codes "server-versions") lists.server_versions

-- the four lists of protocols, each where it is not empty, or always
abbrev pub protocol_lines : Bool → ConsensusLists → List ℕ
protocol_lines always lists =
    list_line_by always protocols_text (codes "recommended-client-protocols") lists.recommended_client_protocols
    ++ list_line_by always protocols_text (codes "recommended-relay-protocols") lists.recommended_relay_protocols
    ++ list_line_by always protocols_text (codes "required-client-protocols") lists.required_client_protocols
    ++ list_line_by always protocols_text (codes "required-relay-protocols") lists.required_relay_protocols

-- the line of a shared random value, where there is one
abbrev pub random_line : List ℕ → Option SharedRandom → List ℕ
random_line keyword None = []
random_line keyword (Some random) = line keyword (decimal random.count ∷ padded_text random.value ∷ [])

-- the two shared random values
abbrev pub random_lines : ConsensusFacts → List ℕ
random_lines c =
    random_line (codes "shared-rand-previous-value") c.random_previous
    ++ random_line (codes "shared-rand-current-value") c.random_current

-- the preamble: the lines of versions and of protocols always stand from method 34 on
abbrev pub preamble : Flavour → ConsensusFacts → List ℕ
preamble flavour c =
    kind_lines flavour c.method ++ time_lines c ++ version_lines (is_34_or_later c.method) c.lists
    ++ line (codes "known-flags") c.known_flags ++ protocol_lines (is_34_or_later c.method) c.lists
    ++ list_line params_text (codes "params") c.lists.params ++ random_lines c

-- ---- the authorities

-- who an authority is, and where
abbrev pub source_words : SourceLine → List (List ℕ)
source_words source =
    source.nickname ∷ hex_text source.identity.0 ∷ source.address
    ∷ address_text source.ip ∷ decimal source.dir_port ∷ decimal source.or_port ∷ []

-- the lines of an authority whose vote counts
abbrev pub source_lines : SourceLine → List ℕ
source_lines source =
    line (codes "dir-source") (source_words source)
    ++ rest_line (codes "contact") source.contact
    ++ line (codes "vote-digest") (hex_text source.vote_digest.0 ∷ [])

-- ---- the whole

-- the text before the footer: the preamble, the authorities, and the relays that the flavour lists
unfoldable pub body : Flavour → ConsensusFacts → List ℕ
body flavour c = preamble flavour c ++ flat_map source_lines c.sources ++ flat_map (listed_lines flavour) c.routers

-- the line of the weights, where they stand
abbrev pub weights_line : Option Weights → List ℕ
weights_line None = []
weights_line (Some weights) = line (codes "bandwidth-weights") (weight_words weights)

-- the footer, up to the signatures
abbrev pub footer : Option Weights → List ℕ
footer weights = line (codes "directory-footer") [] ++ weights_line weights

-- the text without signatures
unfoldable pub unsigned : Flavour → Consensus → List ℕ
unsigned flavour c = body flavour (facts_in flavour c.facts) ++ footer c.weights

-- ---- of a consensus that was read

-- its footer, which has weights where they stand there
abbrev pub footer_as_read : Option (List ℕ) → List ℕ
footer_as_read weights = line (codes "directory-footer") [] ++ rest_line (codes "bandwidth-weights") weights

-- its text without signatures
unfoldable pub facts_text : SignedConsensus → List ℕ
facts_text c = body c.flavour c.facts ++ footer_as_read c.weights
