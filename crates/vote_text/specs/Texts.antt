-- The canonical text of a vote: its items in the order of the tables, with single spaces (dir-spec, "Vote and
-- consensus status document formats"; "Creating key certificates").
use Rattle.std.specs.Prelude.{ℕ, List, [], ◌∷◌, ◌++◌, option_map, codes, decimal}
use Rattle.dir_bytes.specs.FieldTexts.{hex_text, address_text}
use Rattle.dir_values.specs.{declared.algorithm.Algorithm.{Algorithm, TheVariants.{Sha1, Sha256}}, FlagSets.set_text}
use Rattle.dir_values.specs.Numbers.{numbers_text}
use Rattle.item_terms.specs.Bytes.{space}
use Rattle.dirdoc_grammar.specs.Writing.{NewItem, items_text}
use Rattle.frame_terms.specs.declared.keyword.Keyword.TheVariants as the
use Rattle.authority_certs.specs.Texts.{cert_items}
use Rattle.value_groups.specs.Values.{random_text}
use Rattle.vote_terms.specs.declared.facts.{SignatureFacts.SignatureFacts, VoteFacts.VoteFacts}
use Rattle.frame_values.specs.Items.{bare, with_object, item_if, moment_item}
use Rattle.vote_text.specs.{Entries.entries_items, Lists.{param_items, protocol_items, version_items}}

-- ---- the rests of lines

-- the seconds for exchanging votes, and those for exchanging signatures
abbrev pub delays_text : VoteFacts → List ℕ
delays_text facts = decimal facts.vote_seconds ++ space ∷ decimal facts.dist_seconds

-- the authority's nickname, identity and host name
abbrev pub names_text : VoteFacts → List ℕ
names_text facts = facts.nickname ++ space ∷ hex_text facts.identity.0 ++ space ∷ facts.address

-- its IPv4 address, directory port and onion routing port
abbrev pub ports_text : VoteFacts → List ℕ
ports_text facts = address_text facts.ip ++ space ∷ decimal facts.dir_port ++ space ∷ decimal facts.or_port

-- who the authority is
abbrev pub source_text : VoteFacts → List ℕ
source_text facts = names_text facts ++ space ∷ ports_text facts

-- the name of an algorithm and a space; SHA-1 is not named
abbrev pub algorithm_text : Algorithm → List ℕ
algorithm_text Sha1 = []
algorithm_text Sha256 = codes "sha256 "

-- by whom a vote is signed, and with which key
abbrev pub signer_text : SignatureFacts → List ℕ
signer_text signature =
    algorithm_text signature.algorithm ++ hex_text signature.identity.0 ++ space ∷ hex_text signature.key_digest.0

-- ---- sections

-- what the document is, and its methods
abbrev pub kind_items : VoteFacts → List NewItem
kind_items facts =
    bare the.NetworkStatusVersion (codes "3") ∷ bare the.VoteStatus (codes "vote")
    ∷ item_if the.ConsensusMethods (option_map numbers_text facts.methods)

-- its times
abbrev pub time_items : VoteFacts → List NewItem
time_items facts =
    moment_item the.Published facts.published ∷ moment_item the.ValidAfter facts.valid_after
    ∷ moment_item the.FreshUntil facts.fresh_until ∷ moment_item the.ValidUntil facts.valid_until ∷ bare the.VotingDelay (delays_text facts) ∷ []

-- its flags
abbrev pub flag_items : VoteFacts → List NewItem
flag_items facts = bare the.KnownFlags (set_text facts.known_flags) ∷ item_if the.FlagThresholds facts.flag_thresholds

-- the preamble
abbrev pub preamble_items : VoteFacts → List NewItem
preamble_items facts =
    kind_items facts ++ time_items facts ++ version_items facts.lists ++ flag_items facts ++ protocol_items facts.lists
    ++ param_items facts.lists.params

-- its shared random values
abbrev pub random_items : VoteFacts → List NewItem
random_items facts =
    item_if the.SharedRandPreviousValue (option_map random_text facts.random_previous)
    ++ item_if the.SharedRandCurrentValue (option_map random_text facts.random_current)

-- its authority, and its shared random values
abbrev pub authority_items : VoteFacts → List NewItem
authority_items facts =
    bare the.DirSource (source_text facts) ∷ item_if the.Contact facts.contact ++ random_items facts

-- the footer
abbrev pub footer_items : SignatureFacts → List NewItem
footer_items signature =
    bare the.DirectoryFooter []
    ∷ with_object the.DirectorySignature (signer_text signature) (codes "SIGNATURE") signature.signature ∷ []

-- the items of a vote that says this
abbrev pub vote_items : VoteFacts → List NewItem
vote_items facts =
    preamble_items facts ++ authority_items facts ++ cert_items facts.certificate ++ entries_items facts.entries
    ++ footer_items facts.signature

-- the text of a vote that says this
abbrev pub vote_text : VoteFacts → List ℕ
vote_text facts = items_text (vote_items facts)
