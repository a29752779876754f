-- What is kept of the sections of a consensus, one after the other (dir-spec, "Vote and consensus status document
-- formats"). The tables see to it that each item is there which has to stand; where one is not, its value is nothing.
use Rattle.std.specs.Prelude.{ℕ, ℤ, ◌+◌, ◌-◌, ◌^◌, min, List, [], ◌∷◌, ◌++◌, Option, Some, None, option_map, codes}
use Rattle.std.specs.List.{flat_map}
use Rattle.item_terms.specs.Words.{words_of}
use Rattle.dir_values.specs.{FlagSets.as_set, declared.algorithm.Algorithm.{Algorithm, TheVariants.{Sha1, Sha256}}}
use Rattle.list_values.specs.declared.named.Named.{Named}
use Rattle.value_groups.specs.Listed.{params_in, protocols_in, versions_in}
use Rattle.frame_terms.specs.declared.{document.Taken.Taken, keyword.Keyword.Keyword}
use Rattle.frame_terms.specs.declared.keyword.Keyword.TheVariants as the
use Rattle.frame_values.specs.{declared.{found.VoteSignature.VoteSignature, values.Value.Value}, Parts.{part, bytes_in}}
use Rattle.frame_values.specs.{Parts.moment_of, Values.{item_at, place_in, number_in, text_if, text_in}}
use Rattle.frame_values.specs.declared.values.Value.TheVariants as value
use Rattle.consensus_terms.specs.declared.consensus.{ConsensusFacts.ConsensusFacts, ConsensusLists.ConsensusLists}
use Rattle.consensus_terms.specs.declared.{consensus.SourceLine.SourceLine, flavour.Flavour.{Flavour, TheVariants.Ns}}
use Rattle.consensus_terms.specs.declared.{flavour.Flavour.TheVariants.Microdesc, router.Routerline.Routerline}
use Rattle.consensus_terms.specs.declared.signature.SignatureLine.{SignatureLine}
use Rattle.consensus_frame.specs.declared.rows.ConsensusSection.{ConsensusSection, TheVariants.{Preamble, Source}}
use Rattle.consensus_frame.specs.declared.rows.ConsensusSection.TheVariants.{Router, Footer}
use Rattle.consensus_frame.specs.declared.value.ConsensusValue.{ConsensusValue}
use Rattle.consensus_frame.specs.declared.value.ConsensusValue.TheVariants as own
use Rattle.consensus_doc.specs.{declared.draft.Draft.Draft, Saying.{delays_in, random_in, source_in, vote_digest_in}}
use Rattle.consensus_doc.specs.Saying.{relay_in, bandwidth_in, micro_digest_in}

-- ---- what items say, in these bytes

-- the text of an item, where it has one
abbrev pub text_at : List ℕ → List (Taken (Value ConsensusValue)) → Keyword → Option (List ℕ)
text_at bytes taken keyword = option_map (part bytes) (text_if (item_at taken keyword))

-- the text of an item, and an empty one where there is none
abbrev pub text_or_none : List ℕ → List (Taken (Value ConsensusValue)) → Keyword → List ℕ
text_or_none bytes taken keyword = part bytes (text_in (text_if (item_at taken keyword)))

-- the set of the words of an item's text
abbrev pub flags_in : List ℕ → List (Taken (Value ConsensusValue)) → Keyword → List (List ℕ)
flags_in bytes taken keyword = as_set (words_of (text_or_none bytes taken keyword))

-- the versions of an item's text
abbrev pub versions_at : List ℕ → List (Taken (Value ConsensusValue)) → Keyword → List (List ℕ)
versions_at bytes taken keyword = versions_in (text_or_none bytes taken keyword)

-- the protocols of an item's text
abbrev pub protocols_at : List ℕ → List (Taken (Value ConsensusValue)) → Keyword → List (Named (List ℕ))
protocols_at bytes taken keyword = protocols_in (text_or_none bytes taken keyword)

-- the params of an item's text
abbrev pub params_at : List ℕ → List (Taken (Value ConsensusValue)) → Keyword → List (Named ℤ)
params_at bytes taken keyword = params_in (text_or_none bytes taken keyword)

-- ---- what sections say, in these bytes

-- the lists of a preamble; of a line that does not stand the list is empty
abbrev pub lists_of : List ℕ → List (Taken (Value ConsensusValue)) → ConsensusLists
lists_of bytes taken = record {
  client_versions = versions_at bytes taken the.ClientVersions;
  server_versions = versions_at bytes taken the.ServerVersions;
  recommended_client_protocols = protocols_at bytes taken the.RecommendedClientProtocols;
  recommended_relay_protocols = protocols_at bytes taken the.RecommendedRelayProtocols;
  required_client_protocols = protocols_at bytes taken the.RequiredClientProtocols;
  required_relay_protocols = protocols_at bytes taken the.RequiredRelayProtocols;
  params = params_at bytes taken the.Params;
}

-- A method is a number below 2 ^ 32. Each that is read is, so that nothing is cut off.
abbrev pub method_of : ℕ → ℕ
method_of number = min number 4294967295

-- what a preamble says
abbrev pub preamble_facts : List ℕ → List (Taken (Value ConsensusValue)) → ConsensusFacts
preamble_facts bytes taken = record {
  method = method_of (number_in (item_at taken the.ConsensusMethod));
  valid_after = moment_of (number_in (item_at taken the.ValidAfter));
  fresh_until = moment_of (number_in (item_at taken the.FreshUntil));
  valid_until = moment_of (number_in (item_at taken the.ValidUntil));
  vote_seconds = (delays_in (item_at taken the.VotingDelay)).0;
  dist_seconds = (delays_in (item_at taken the.VotingDelay)).1;
  known_flags = flags_in bytes taken the.KnownFlags;
  lists = lists_of bytes taken;
  random_previous = random_in (item_at taken the.SharedRandPreviousValue);
  random_current = random_in (item_at taken the.SharedRandCurrentValue);
  sources = [];
  routers = [];
}

-- what an authority's section says
abbrev pub source_of : List ℕ → List (Taken (Value ConsensusValue)) → SourceLine
source_of bytes taken = let source = source_in (item_at taken the.DirSource) in record {
  nickname = part bytes source.nickname;
  identity = source.identity;
  address = part bytes source.address;
  ip = source.ip;
  dir_port = source.dir_port;
  or_port = source.or_port;
  contact = text_at bytes taken the.Contact;
  vote_digest = vote_digest_in (item_at taken the.VoteDigest);
}

-- the summary of the exit policy, which the microdesc flavour drops
abbrev pub summary_of : Flavour → List ℕ → List (Taken (Value ConsensusValue)) → Option (List ℕ)
summary_of Ns bytes taken = text_at bytes taken the.P
summary_of Microdesc bytes taken = None

-- what a relay's section says
abbrev pub router_of : Flavour → List ℕ → List (Taken (Value ConsensusValue)) → Routerline
router_of flavour bytes taken = let relay = relay_in (item_at taken the.R) in record {
  nickname = part bytes relay.nickname;
  identity = relay.identity;
  digest = relay.digest;
  published = moment_of relay.published;
  ip = relay.ip;
  or_port = relay.or_port;
  dir_port = relay.dir_port;
  a = text_at bytes taken the.A;
  m = micro_digest_in (item_at taken the.M);
  flags = flags_in bytes taken the.S;
  v = text_at bytes taken the.V;
  pr = text_at bytes taken the.Pr;
  w = bandwidth_in (item_at taken the.W);
  p = summary_of flavour bytes taken;
}

-- ---- signatures

-- the name of an algorithm; one that is not named is SHA-1
abbrev pub algorithm_name : Option Algorithm → List ℕ
algorithm_name None = codes "sha1"
algorithm_name (Some Sha1) = codes "sha1"
algorithm_name (Some Sha256) = codes "sha256"

-- a signature
abbrev pub signature_of : List ℕ → VoteSignature → SignatureLine
signature_of bytes signature = record {
  algorithm = algorithm_name signature.algorithm;
  identity = signature.identity;
  key_digest = signature.key_digest;
  signature = bytes_in bytes signature.signature;
}

-- the signature that a value is, if it is one whose algorithm is known
abbrev pub signatures_in : List ℕ → Value ConsensusValue → List SignatureLine
signatures_in bytes (value.Own (own.Signature (Some signature))) = signature_of bytes signature ∷ []
signatures_in bytes _ = []

-- the signatures of a section, in their order
abbrev pub all_signatures : List ℕ → List (Taken (Value ConsensusValue)) → List SignatureLine
all_signatures bytes taken = flat_map (λ (one : Taken (Value ConsensusValue)). signatures_in bytes one.value) taken

-- the place after the signed part, which ends with the space behind the first `directory-signature`
abbrev pub signed_end : Option (Taken (Value ConsensusValue)) → Option ℕ
signed_end None = None
signed_end (Some one) = Some (min (one.separator + 1) (2 ^ 64 - 1))

-- ---- what is kept

-- empty lists
abbrev pub no_lists : ConsensusLists
no_lists = record {
  client_versions = [];
  server_versions = [];
  recommended_client_protocols = [];
  recommended_relay_protocols = [];
  required_client_protocols = [];
  required_relay_protocols = [];
  params = [];
}

-- what is kept where nothing was read
abbrev pub no_facts : ConsensusFacts
no_facts = record {
  method = 0;
  valid_after = 0;
  fresh_until = 0;
  valid_until = 0;
  vote_seconds = 0;
  dist_seconds = 0;
  known_flags = [];
  lists = no_lists;
  random_previous = None;
  random_current = None;
  sources = [];
  routers = [];
}

-- nothing of a consensus yet
abbrev pub no_draft : Draft
no_draft = record { begin = 0; facts = no_facts; weights = None; signatures = []; signed_end = None }

-- what is kept after a preamble, with which a document begins
abbrev pub with_preamble : List ℕ → Draft → List (Taken (Value ConsensusValue)) → Draft
with_preamble bytes draft taken =
    record draft { begin = place_in (item_at taken the.NetworkStatusVersion); facts = preamble_facts bytes taken }

-- what is kept after an authority
abbrev pub with_source : List ℕ → Draft → List (Taken (Value ConsensusValue)) → Draft
with_source bytes draft taken =
    record draft { facts = record draft.facts { sources = draft.facts.sources ++ source_of bytes taken ∷ [] } }

-- what is kept after a relay
abbrev pub with_router : Flavour → List ℕ → Draft → List (Taken (Value ConsensusValue)) → Draft
with_router flavour bytes draft taken =
    record draft { facts = record draft.facts { routers = draft.facts.routers ++ router_of flavour bytes taken ∷ [] } }

-- what is kept after a footer
abbrev pub with_footer : List ℕ → Draft → List (Taken (Value ConsensusValue)) → Draft
with_footer bytes draft taken = record draft {
  weights = text_at bytes taken the.BandwidthWeights;
  signatures = all_signatures bytes taken;
  signed_end = signed_end (item_at taken the.DirectorySignature);
}

-- what is kept after one more section
abbrev pub with_section : Flavour → List ℕ → Draft → ConsensusSection → List (Taken (Value ConsensusValue)) → Draft
with_section flavour bytes draft Preamble taken = with_preamble bytes draft taken
with_section flavour bytes draft Source taken = with_source bytes draft taken
with_section flavour bytes draft Router taken = with_router flavour bytes draft taken
with_section flavour bytes draft Footer taken = with_footer bytes draft taken
