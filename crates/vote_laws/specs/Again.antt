-- A vote that was written is read again (dir-spec, "Vote and consensus status document formats").
use Rattle.std.specs.Prelude.{◌≡◌, ℕ, ◌+◌, ◌≤◌, ◌<◌, ◌^◌, true, List, [], ◌∷◌, ◌++◌, length, All, AllPairs, IfSome, Ok}
use Rattle.std.specs.Prelude.{codes, ℤ}
use Rattle.dir_bytes.specs.Causes.{last_moment}
use Rattle.dir_values.specs.{FlagSets.{Ascend, is_name}, Names.is_nickname}
use Rattle.dirdoc_grammar.specs.{Writers.is_argument, Writing.{AreWritable, NewItem, items_text}}
use Rattle.frame_terms.specs.declared.keyword.Keyword.TheVariants as the
use Rattle.frame_values.specs.{Items.bare, Ranges.AreTwenty}
use Rattle.certificate_laws.specs.Again.{SaysInRange, as_written}
use Rattle.authority_certs.specs.{Texts.{cert_items, cert_text}, declared.cert.Cert.Cert}
use Rattle.group_laws.specs.Ranges.{AreBandwidthsInRange, AreMethodsInRange, AreThirtyTwo, IsAddressInRange}
use Rattle.group_laws.specs.{Ranges.{IsOpinionInRange, IsRelayInRange}, LineAgain.IsRandomInRange}
use Rattle.value_laws.specs.Ranges.{AreParamsInRange, AreProtocolsInRange, AreVersionsInRange}
use Rattle.list_values.specs.declared.named.Named.{Named}
use Rattle.relay_entries.specs.declared.said.EdOpinion.TheVariants as opinion
use Rattle.vote_terms.specs.{Entries.Ascending, Votes.{ReadVote, max_vote}, declared.entry.EntryFacts.EntryFacts}
use Rattle.vote_terms.specs.declared.{entry.MicroFacts.MicroFacts, facts.SignatureFacts.SignatureFacts}
use Rattle.vote_terms.specs.declared.{facts.VoteFacts.VoteFacts, lists.VoteLists.VoteLists}
use Rattle.vote_text.specs.{Entries.entries_items, Texts.{authority_items, preamble_items, vote_items, vote_text}}
use Rattle.vote_doc.specs.Reading.{vote_from}

-- the consensus methods are at most 64 numbers of 32 bits
pub record AreMethods (methods : List ℕ) : Type 0 where
  pub count : length methods ≤ 64
  pub each : All (λ method. method ≤ 4294967295) methods

-- the flags are at most 64 names, ascending
pub record AreFlags (flags : List (List ℕ)) : Type 0 where
  pub count : length flags ≤ 64
  pub ascend : Ascend flags
  pub each : All (λ flag. is_name flag ≡ true) flags

-- the params are at most 1,024 that can be read
pub record AreVoteParams (params : List (Named ℤ)) : Type 0 where
  pub count : length params ≤ 1024
  pub each : AreParamsInRange params

-- each list is one that can be read
pub record AreListsInRange (lists : VoteLists) : Type 0 where
  pub client_versions : IfSome lists.client_versions AreVersionsInRange
  pub server_versions : IfSome lists.server_versions AreVersionsInRange
  pub recommended_client_protocols : IfSome lists.recommended_client_protocols AreProtocolsInRange
  pub recommended_relay_protocols : IfSome lists.recommended_relay_protocols AreProtocolsInRange
  pub required_client_protocols : IfSome lists.required_client_protocols AreProtocolsInRange
  pub required_relay_protocols : IfSome lists.required_relay_protocols AreProtocolsInRange
  pub params : IfSome lists.params AreVoteParams

-- the certificate says what can be read, and its text does not pass its limit
pub record IsCertificateInRange (cert : Cert) : Type 0 where
  pub says : SaysInRange cert
  pub fits : length (cert_text cert) ≤ 65536

-- the signature says what can be read
pub record IsSignatureInRange (signature : SignatureFacts) : Type 0 where
  pub identity : AreTwenty signature.identity.0
  pub key_digest : AreTwenty signature.key_digest.0

-- the flags of an entry are names, ascending
pub record AreEntryFlags (flags : List (List ℕ)) : Type 0 where
  pub ascend : Ascend flags
  pub each : All (λ flag. is_name flag ≡ true) flags

-- an `m` line has methods and a digest
pub record IsMicroInRange (line : MicroFacts) : Type 0 where
  pub methods : AreMethodsInRange line.methods
  pub digest : AreThirtyTwo line.digest.0

-- an entry says what can be read
pub record IsEntryInRange (entry : EntryFacts) : Type 0 where
  pub relay : IsRelayInRange entry.nickname entry.identity entry.digest entry.ip entry.or_port entry.dir_port
  pub published : entry.published ≤ last_moment
  pub addresses : All IsAddressInRange entry.addresses
  pub flags : AreEntryFlags entry.flags
  pub bandwidths : IfSome entry.bandwidths AreBandwidthsInRange
  pub micros : All IsMicroInRange entry.micros
  pub ed : IsOpinionInRange entry.ed

-- no Ed25519 key is that of both
abbrev pub DifferInKey : EntryFacts → EntryFacts → Type 0
DifferInKey a b = (key : List ℕ) → a.ed ≡ opinion.Key key → b.ed ≡ opinion.Key key → ⊥

-- there are no more entries than a vote may have, each says what can be read, they ascend by identity, and no two have
-- one Ed25519 key
pub record AreEntriesInRange (entries : List EntryFacts) : Type 0 where
  pub count : length entries ≤ 65535
  pub each : All IsEntryInRange entries
  pub ascending : Ascending entries
  pub keys : AllPairs DifferInKey entries

-- The vote says what can be read, whatever is said of its certificate: each number, text and list is one that an item
-- may have.
pub record HasValuesInRange (facts : VoteFacts) : Type 0 where
  pub methods : IfSome facts.methods AreMethods
  pub published : facts.published ≤ last_moment
  pub valid_after : facts.valid_after ≤ last_moment
  pub fresh_until : facts.fresh_until ≤ last_moment
  pub valid_until : facts.valid_until ≤ last_moment
  pub vote_seconds : facts.vote_seconds ≤ 4294967295
  pub dist_seconds : facts.dist_seconds ≤ 4294967295
  pub known_flags : AreFlags facts.known_flags
  pub lists : AreListsInRange facts.lists
  pub nickname : is_nickname facts.nickname ≡ true
  pub identity : AreTwenty facts.identity.0
  pub address : is_argument facts.address ≡ true
  pub ip : facts.ip < 2 ^ 32
  pub dir_port : facts.dir_port ≤ 65535
  pub or_port : facts.or_port ≤ 65535
  pub random_previous : IfSome facts.random_previous IsRandomInRange
  pub random_current : IfSome facts.random_current IsRandomInRange
  pub entries : AreEntriesInRange facts.entries
  pub signature : IsSignatureInRange facts.signature

-- The vote says what can be read: each number, text and list is one that an item may have. Its items may be written:
-- those of its texts that fill a line are such, its objects are bytes, and no line, no object and not the whole
-- passes its limit.
pub record IsInRange (facts : VoteFacts) : Type 0 where
  pub methods : IfSome facts.methods AreMethods
  pub published : facts.published ≤ last_moment
  pub valid_after : facts.valid_after ≤ last_moment
  pub fresh_until : facts.fresh_until ≤ last_moment
  pub valid_until : facts.valid_until ≤ last_moment
  pub vote_seconds : facts.vote_seconds ≤ 4294967295
  pub dist_seconds : facts.dist_seconds ≤ 4294967295
  pub known_flags : AreFlags facts.known_flags
  pub lists : AreListsInRange facts.lists
  pub nickname : is_nickname facts.nickname ≡ true
  pub identity : AreTwenty facts.identity.0
  pub address : is_argument facts.address ≡ true
  pub ip : facts.ip < 2 ^ 32
  pub dir_port : facts.dir_port ≤ 65535
  pub or_port : facts.or_port ≤ 65535
  pub random_previous : IfSome facts.random_previous IsRandomInRange
  pub random_current : IfSome facts.random_current IsRandomInRange
  pub certificate : IsCertificateInRange facts.certificate
  pub entries : AreEntriesInRange facts.entries
  pub signature : IsSignatureInRange facts.signature
  pub items : AreWritable max_vote 0 (vote_items facts)

-- what a vote says that was written: its certificate's covered digest is that of the text written
abbrev pub as_read : VoteFacts → VoteFacts
as_read facts = record facts { certificate = as_written facts.certificate }

-- the items before the signature
abbrev pub unsigned_items : VoteFacts → List NewItem
unsigned_items facts =
    preamble_items facts ++ authority_items facts ++ cert_items facts.certificate ++ entries_items facts.entries
    ++ bare the.DirectoryFooter [] ∷ []

-- the text that is signed: through the one space after `directory-signature`
abbrev pub signed_text : VoteFacts → List ℕ
signed_text facts = items_text (unsigned_items facts) ++ codes "directory-signature "

-- The vote that is read of a vote's text says the same, has the text's bytes, of which the same part is signed, and
-- has the bytes of its certificate's text.
pub record IsReadBack (facts : VoteFacts) (vote : ReadVote) : Type 0 where
  pub says : vote.says ≡ as_read facts
  pub whole : vote.whole ≡ vote_text facts
  pub signed : vote.signed ≡ signed_text facts
  pub certificate_bytes : vote.certificate_bytes ≡ cert_text facts.certificate

-- A vote that was written is read again, whatever stands before it, of fewer than 2 ^ 62 bytes, and behind it: what is
-- read says the same, has the text's bytes, and ends with it.
abbrev pub VotesAreReadAgain : Type 0
VotesAreReadAgain = (front : List ℕ) (facts : VoteFacts) (rest : List ℕ) → length front < 2 ^ 62 → IsInRange facts
    → (vote : ReadVote)
    × (vote_from (length front) (front ++ (vote_text facts ++ rest))
    ≡ Ok (vote, length front + length (vote_text facts)))
    × IsReadBack facts vote
