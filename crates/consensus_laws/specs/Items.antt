-- The items that the text of a consensus has (dir-spec, "Vote and consensus status document formats").
use Rattle.std.specs.Prelude.{ℕ, Bool, true, false, List, [], ◌∷◌, ◌++◌, Option, None, option_map, codes, decimal, map}
use Rattle.std.specs.List.{filter, flat_map, join_with_byte}
use Rattle.item_terms.specs.Bytes.{space}
use Rattle.dir_bytes.specs.FieldTexts.{base64_text, hex_text}
use Rattle.dir_values.specs.{FlagSets.set_text, declared.digest.Digest2.Digest2}
use Rattle.dirdoc_grammar.specs.Writing.{NewItem}
use Rattle.frame_terms.specs.declared.keyword.Keyword.{Keyword}
use Rattle.frame_terms.specs.declared.keyword.Keyword.TheVariants as the
use Rattle.frame_values.specs.Items.{bare, item_if, moment_item, spaced_item}
use Rattle.value_groups.specs.Values.{random_text}
use Rattle.list_values.specs.{Params.params_text, Protocols.protocols_text, VersionLists.versions_text}
use Rattle.consensus_terms.specs.{Lines.named_text, Methods.is_34_or_later, Routers.{digest_words, is_listed}}
use Rattle.consensus_terms.specs.{Routers.{name_words, place_words, unmeasured_words}, Signed.in_order}
use Rattle.consensus_terms.specs.{Signed.signature_item, Texts.{source_words, version_words}}
use Rattle.consensus_terms.specs.declared.consensus.{ConsensusFacts.ConsensusFacts, ConsensusLists.ConsensusLists}
use Rattle.consensus_terms.specs.declared.consensus.{SignedConsensus.SignedConsensus, SourceLine.SourceLine}
use Rattle.consensus_terms.specs.declared.flavour.Flavour.{Flavour, TheVariants.{Ns, Microdesc}}
use Rattle.consensus_terms.specs.declared.router.{Bandwidth.Bandwidth, Routerline.Routerline}

-- an item whose line has these words
abbrev pub words_item : Keyword → List (List ℕ) → NewItem
words_item keyword words = bare keyword (join_with_byte space words)

-- the item of a list; of an empty one a keyword and a space, where such items always stand, else none
abbrev pub list_items : {X : Type 0} → Bool → Keyword → (List X → List ℕ) → List X → List NewItem
list_items always keyword text_of (first ∷ rest) = bare keyword (text_of (first ∷ rest)) ∷ []
list_items true keyword text_of [] = spaced_item keyword ∷ []
list_items false keyword text_of [] = []

-- ---- the preamble

-- what the document is, and the method
abbrev pub kind_items : Flavour → ℕ → List NewItem
kind_items flavour method =
    words_item the.NetworkStatusVersion (version_words flavour) ∷ bare the.VoteStatus (codes "consensus")
    ∷ bare the.ConsensusMethod (decimal method) ∷ []

-- its times
abbrev pub time_items : ConsensusFacts → List NewItem
time_items c =
    moment_item the.ValidAfter c.valid_after ∷ moment_item the.FreshUntil c.fresh_until ∷ moment_item the.ValidUntil c.valid_until
    ∷ words_item the.VotingDelay (decimal c.vote_seconds ∷ decimal c.dist_seconds ∷ []) ∷ []

-- the versions of Tor
abbrev pub version_items : Bool → ConsensusLists → List NewItem
version_items always lists =
    list_items always the.ClientVersions versions_text lists.client_versions
    ++ list_items always the.ServerVersions versions_text lists.server_versions

-- the versions of protocols
abbrev pub protocol_items : Bool → ConsensusLists → List NewItem
protocol_items always lists =
    list_items always the.RecommendedClientProtocols protocols_text lists.recommended_client_protocols
    ++ list_items always the.RecommendedRelayProtocols protocols_text lists.recommended_relay_protocols
    ++ list_items always the.RequiredClientProtocols protocols_text lists.required_client_protocols
    ++ list_items always the.RequiredRelayProtocols protocols_text lists.required_relay_protocols

-- the shared random values
abbrev pub random_items : ConsensusFacts → List NewItem
random_items c =
    item_if the.SharedRandPreviousValue (option_map random_text c.random_previous)
    ++ item_if the.SharedRandCurrentValue (option_map random_text c.random_current)

-- the preamble
abbrev pub preamble_items : Flavour → ConsensusFacts → List NewItem
preamble_items flavour c =
    kind_items flavour c.method ++ time_items c ++ version_items (is_34_or_later c.method) c.lists
    ++ bare the.KnownFlags (set_text c.known_flags) ∷ [] ++ protocol_items (is_34_or_later c.method) c.lists
    ++ list_items false the.Params params_text c.lists.params ++ random_items c

-- ---- the authorities

-- an authority whose vote counts
abbrev pub source_items : SourceLine → List NewItem
source_items source =
    words_item the.DirSource (source_words source) ∷ [] ++ item_if the.Contact source.contact
    ++ bare the.VoteDigest (hex_text source.vote_digest.0) ∷ []

-- ---- the relays

-- the words of a relay's first line
abbrev pub router_words : Flavour → Routerline → List (List ℕ)
router_words flavour router = name_words router ++ digest_words flavour router ++ place_words router

-- the digest of its microdescriptor, which the microdesc flavour alone has
abbrev pub m_text : Flavour → Option Digest2 → Option (List ℕ)
m_text Ns digest = None
m_text Microdesc digest = option_map (λ (d : Digest2). base64_text d.0) digest

-- its bandwidth
abbrev pub w_text : Bandwidth → List ℕ
w_text bandwidth =
    join_with_byte space
    (named_text (codes "Bandwidth") bandwidth.value ∷ unmeasured_words bandwidth.unmeasured)

-- the summary of its exit policy, which the ns flavour alone has
abbrev pub p_text : Flavour → Option (List ℕ) → Option (List ℕ)
p_text Ns summary = summary
p_text Microdesc summary = None

-- the items of a relay
abbrev pub router_items : Flavour → Routerline → List NewItem
router_items flavour router =
    words_item the.R (router_words flavour router) ∷ [] ++ item_if the.A router.a
    ++ item_if the.M (m_text flavour router.m) ++ bare the.S (set_text router.flags) ∷ []
    ++ item_if the.V router.v ++ item_if the.Pr router.pr ++ item_if the.W (option_map w_text router.w)
    ++ item_if the.P (p_text flavour router.p)

-- the relays that a flavour lists
abbrev pub listed : Flavour → List Routerline → List Routerline
listed flavour routers = filter (is_listed flavour) routers

-- ---- the whole

-- the footer, up to the signatures
abbrev pub footer_items : Option (List ℕ) → List NewItem
footer_items weights = bare the.DirectoryFooter [] ∷ item_if the.BandwidthWeights weights

-- the items before the signatures
abbrev pub unsigned_items : SignedConsensus → List NewItem
unsigned_items c =
    preamble_items c.flavour c.facts ++ flat_map source_items c.facts.sources
    ++ flat_map (router_items c.flavour) (listed c.flavour c.facts.routers) ++ footer_items c.weights

-- the items, with the signatures in their order
abbrev pub consensus_items : SignedConsensus → List NewItem
consensus_items c = unsigned_items c ++ map signature_item (in_order c.signatures)
