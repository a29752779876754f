-- A consensus that was written is read again (dir-spec, "Vote and consensus status document formats").
use Rattle.std.specs.Prelude.{◌≡◌, ℕ, ◌<◌, ◌≤◌, ◌^◌, ◌||◌, Bool, true, List, [], ◌∷◌, length, All, IfSome, Option, Some}
use Rattle.std.specs.{Prelude.{None, AllPairs, Ok, codes, map, option_map, take}, List.{filter, join_with_byte}}
use Rattle.std.specs.Str.{bytes_eq}
use Rattle.bw_weights.specs.declared.position_weights.Weights.{Weights}
use Rattle.item_terms.specs.Bytes.{space}
use Rattle.dir_bytes.specs.Causes.{last_moment}
use Rattle.dir_values.specs.{Digests.{fingerprint, identity_below}, Names.is_nickname, declared.digest.Digest1.Digest1}
use Rattle.dir_values.specs.declared.digest.Digest2.{Digest2}
use Rattle.dirdoc_grammar.specs.{Writers.is_argument, Writing.AreWritable}
use Rattle.frame_values.specs.{Ranges.AreTwenty, Values.no_digest}
use Rattle.value_laws.specs.Ranges.{AreParamsInRange, AreProtocolsInRange, AreVersionsInRange}
use Rattle.group_laws.specs.{LineAgain.{AreFlagsInRange, IsRandomInRange, IsSourceInRange}, Ranges.AreThirtyTwo}
use Rattle.group_laws.specs.Ranges.{IsAddressInRange}
use Rattle.consensus_terms.specs.{Flavours.facts_in, Signed.{in_order, signed, signed_part}, Texts.facts_text}
use Rattle.consensus_terms.specs.{Texts.unsigned, Weights.weight_words, declared.consensus.Consensus.Consensus}
use Rattle.consensus_terms.specs.declared.consensus.{ConsensusFacts.ConsensusFacts, ConsensusLists.ConsensusLists}
use Rattle.consensus_terms.specs.declared.consensus.{SignedConsensus.SignedConsensus, SourceLine.SourceLine}
use Rattle.consensus_terms.specs.declared.flavour.Flavour.{Flavour, TheVariants.{Ns, Microdesc}}
use Rattle.consensus_terms.specs.declared.router.{Bandwidth.Bandwidth, Routerline.Routerline}
use Rattle.consensus_terms.specs.declared.signature.SignatureLine.{SignatureLine}
use Rattle.consensus_doc.specs.Reading.{consensus_of, max_consensus}
use Rattle.consensus_laws.specs.Items.{consensus_items, listed}

-- ---- what a consensus may say

-- each list is one that can be read
pub record AreListsInRange (lists : ConsensusLists) : Type 0 where
  pub client_versions : AreVersionsInRange lists.client_versions
  pub server_versions : AreVersionsInRange lists.server_versions
  pub recommended_client_protocols : AreProtocolsInRange lists.recommended_client_protocols
  pub recommended_relay_protocols : AreProtocolsInRange lists.recommended_relay_protocols
  pub required_client_protocols : AreProtocolsInRange lists.required_client_protocols
  pub required_relay_protocols : AreProtocolsInRange lists.required_relay_protocols
  pub params : AreParamsInRange lists.params

-- an authority says what can be read
pub record IsAuthorityInRange (source : SourceLine) : Type 0 where
  pub line : IsSourceInRange source.nickname source.identity source.address source.ip source.dir_port source.or_port
  pub vote_digest : AreTwenty source.vote_digest.0

-- the digest of a descriptor has twenty bytes, in the flavour that has it
abbrev pub IsDigestInRange : Flavour → Digest1 → Type 0
IsDigestInRange Ns digest = AreTwenty digest.0
IsDigestInRange Microdesc digest = Unit {0}

-- that of a microdescriptor has thirty-two, in the flavour that has it
abbrev pub IsMicroInRange : Flavour → Option Digest2 → Type 0
IsMicroInRange Ns digest = Unit {0}
IsMicroInRange Microdesc digest = IfSome digest (λ (d : Digest2). AreThirtyTwo d.0)

-- a relay says what can be read
pub record IsRouterInRange (flavour : Flavour) (router : Routerline) : Type 0 where
  pub nickname : is_nickname router.nickname ≡ true
  pub identity : AreTwenty router.identity.0
  pub digest : IsDigestInRange flavour router.digest
  pub published : router.published ≤ last_moment
  pub ip : router.ip < 2 ^ 32
  pub or_port : router.or_port ≤ 65535
  pub dir_port : router.dir_port ≤ 65535
  pub a : IfSome router.a IsAddressInRange
  pub m : IsMicroInRange flavour router.m
  pub flags : AreFlagsInRange router.flags
  pub w : IfSome router.w (λ (w : Bandwidth). w.value ≤ 4294967295)

-- relays in the order of their identities, each once
abbrev pub Ascending : List Routerline → Type 0
Ascending routers =
    AllPairs (λ (earlier later : Routerline). identity_below earlier.identity later.identity ≡ true) routers

-- the name of an algorithm is one word, which spells no identity, and the identity and the digest have twenty bytes
pub record IsSignatureInRange (line : SignatureLine) : Type 0 where
  pub algorithm : is_argument line.algorithm ≡ true
  pub no_identity : fingerprint line.algorithm ≡ None
  pub identity : AreTwenty line.identity.0
  pub key_digest : AreTwenty line.key_digest.0

-- The facts say what can be read in this flavour: each number, text and list is one that an item may have. Relays that
-- the flavour lists ascend strictly by identity; of others nothing is asked.
pub record AreFactsInRange (flavour : Flavour) (facts : ConsensusFacts) : Type 0 where
  pub method : facts.method ≤ 4294967295
  pub valid_after : facts.valid_after ≤ last_moment
  pub fresh_until : facts.fresh_until ≤ last_moment
  pub valid_until : facts.valid_until ≤ last_moment
  pub vote_seconds : facts.vote_seconds ≤ 4294967295
  pub dist_seconds : facts.dist_seconds ≤ 4294967295
  pub known_flags : AreFlagsInRange facts.known_flags
  pub lists : AreListsInRange facts.lists
  pub random_previous : IfSome facts.random_previous IsRandomInRange
  pub random_current : IfSome facts.random_current IsRandomInRange
  pub sources : All IsAuthorityInRange facts.sources
  pub routers : All (IsRouterInRange flavour) (listed flavour facts.routers)
  pub ascending : Ascending (listed flavour facts.routers)

-- The consensus says what can be read, and its items may be written: those of its texts that fill a line are such, its
-- objects are bytes, and no line, no object and not the whole passes its limit.
pub record IsInRange (c : SignedConsensus) : Type 0 where
  pub facts : AreFactsInRange c.flavour c.facts
  pub signatures : All IsSignatureInRange c.signatures
  pub items : AreWritable max_consensus 0 (consensus_items c)

-- ---- what is read of it

-- a relay as a flavour has it: ns without the digest of its microdescriptor, microdesc without that of its descriptor
-- and without the summary of its exit policy
abbrev pub router_as_read : Flavour → Routerline → Routerline
router_as_read Ns router = record router { m = None }
router_as_read Microdesc router = record router { digest = record { 0 = no_digest }; p = None }

-- facts with those relays that the flavour lists, as it has them
abbrev pub facts_as_read : Flavour → ConsensusFacts → ConsensusFacts
facts_as_read flavour facts = record facts { routers = map (router_as_read flavour) (listed flavour facts.routers) }

-- whether an algorithm is known
abbrev pub is_known : List ℕ → Bool
is_known name = bytes_eq name (codes "sha1") || bytes_eq name (codes "sha256")

-- the signatures of known algorithms
abbrev pub known_signatures : List SignatureLine → List SignatureLine
known_signatures lines = filter (λ (line : SignatureLine). is_known line.algorithm) lines

-- where the signed part of a text begins and ends, where a signature stands behind it
abbrev pub signed_of : List ℕ → List SignatureLine → Option (ℕ × ℕ)
signed_of text [] = None
signed_of text (line ∷ lines) = Some (0, length (signed_part text))

-- a consensus as it is read
abbrev pub as_read : SignedConsensus → SignedConsensus
as_read c = record {
  flavour = c.flavour;
  facts = facts_as_read c.flavour c.facts;
  weights = c.weights;
  signatures = known_signatures (in_order c.signatures);
  signed = signed_of (facts_text c) (in_order c.signatures);
}

-- A consensus that was written is read again: it says the same, as far as its flavour has it, and ends with the input.
abbrev pub ConsensusesAreReadAgain : Type 0
ConsensusesAreReadAgain = (c : SignedConsensus) → IsInRange c
    → consensus_of (signed (facts_text c) c.signatures)
    ≡ Ok (as_read c, length (signed (facts_text c) c.signatures))

-- The facts are such as the flavour has them, and the signatures stand in the order in which they are written, each of a
-- known algorithm.
pub record StandsAsWritten (c : SignedConsensus) : Type 0 where
  pub facts : facts_as_read c.flavour c.facts ≡ c.facts
  pub order : in_order c.signatures ≡ c.signatures
  pub known : known_signatures c.signatures ≡ c.signatures

-- What is read of such a consensus is what was written, with the range of its text that is signed.
abbrev pub ConsensusesInOrderAreTheSame : Type 0
ConsensusesInOrderAreTheSame = (c : SignedConsensus) → IsInRange c → StandsAsWritten c
    → consensus_of (signed (facts_text c) c.signatures)
    ≡ Ok (record c { signed = signed_of (facts_text c) c.signatures }, length (signed (facts_text c) c.signatures))

-- The part of its text that is signed is the text without signatures through the one space behind the first
-- `directory-signature`.
abbrev pub SignedPartsStand : Type 0
SignedPartsStand = (text : List ℕ) (lines : List SignatureLine) (first : SignatureLine) (rest : List SignatureLine)
    → in_order lines ≡ first ∷ rest → take (length (signed_part text)) (signed text lines) ≡ signed_part text

-- ---- a consensus that was computed

-- what was computed, as the text of a flavour says it, with signatures
abbrev pub with_signatures : Flavour → Consensus → List SignatureLine → SignedConsensus
with_signatures flavour c lines = record {
  flavour = flavour;
  facts = facts_in flavour c.facts;
  weights = option_map (λ (weights : Weights). join_with_byte space (weight_words weights)) c.weights;
  signatures = lines;
  signed = None;
}

-- its text, written in a flavour with signatures behind it, is read again as that
abbrev pub ComputedConsensusesAreReadAgain : Type 0
ComputedConsensusesAreReadAgain = (flavour : Flavour) (c : Consensus) (lines : List SignatureLine)
    → IsInRange (with_signatures flavour c lines)
    → consensus_of (signed (unsigned flavour c) lines)
    ≡ Ok (as_read (with_signatures flavour c lines), length (signed (unsigned flavour c) lines))
