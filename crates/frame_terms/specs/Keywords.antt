-- The keywords of all kinds of documents, and their texts (dir-spec).
use Rattle.std.specs.{Prelude.{ℕ, List, [], ◌∷◌, Option, codes, nat_eq, Bool}, List.find}
use lib.Pointwise.{pointwise}
use denote.Enum.Bare.{sameb}
use Rattle.frame_terms.specs.{contracts.keyword.Keyword.the_type, declared.keyword.Keyword.Keyword}
use Rattle.frame_terms.specs.declared.keyword.Keyword.TheVariants as the

-- the text of a keyword
abbrev pub text_of : Keyword → List ℕ
text_of the.R = codes "r"
text_of the.A = codes "a"
text_of the.S = codes "s"
text_of the.V = codes "v"
text_of the.Pr = codes "pr"
text_of the.W = codes "w"
text_of the.P = codes "p"
text_of the.M = codes "m"
text_of the.Id = codes "id"
text_of the.NetworkStatusVersion = codes "network-status-version"
text_of the.VoteStatus = codes "vote-status"
text_of the.ConsensusMethods = codes "consensus-methods"
text_of the.ConsensusMethod = codes "consensus-method"
text_of the.Published = codes "published"
text_of the.ValidAfter = codes "valid-after"
text_of the.FreshUntil = codes "fresh-until"
text_of the.ValidUntil = codes "valid-until"
text_of the.VotingDelay = codes "voting-delay"
text_of the.ClientVersions = codes "client-versions"
text_of the.ServerVersions = codes "server-versions"
text_of the.KnownFlags = codes "known-flags"
text_of the.FlagThresholds = codes "flag-thresholds"
text_of the.RecommendedClientProtocols = codes "recommended-client-protocols"
text_of the.RecommendedRelayProtocols = codes "recommended-relay-protocols"
text_of the.RequiredClientProtocols = codes "required-client-protocols"
text_of the.RequiredRelayProtocols = codes "required-relay-protocols"
text_of the.Params = codes "params"
text_of the.SharedRandPreviousValue = codes "shared-rand-previous-value"
text_of the.SharedRandCurrentValue = codes "shared-rand-current-value"
text_of the.DirSource = codes "dir-source"
text_of the.Contact = codes "contact"
text_of the.VoteDigest = codes "vote-digest"
text_of the.DirectoryFooter = codes "directory-footer"
text_of the.BandwidthWeights = codes "bandwidth-weights"
text_of the.DirectorySignature = codes "directory-signature"
text_of the.DirKeyCertificateVersion = codes "dir-key-certificate-version"
text_of the.DirAddress = codes "dir-address"
text_of the.Fingerprint = codes "fingerprint"
text_of the.DirIdentityKey = codes "dir-identity-key"
text_of the.DirKeyPublished = codes "dir-key-published"
text_of the.DirKeyExpires = codes "dir-key-expires"
text_of the.DirSigningKey = codes "dir-signing-key"
text_of the.DirKeyCrosscert = codes "dir-key-crosscert"
text_of the.DirKeyCertification = codes "dir-key-certification"
text_of the.ConsensusDigest = codes "consensus-digest"
text_of the.AdditionalDigest = codes "additional-digest"
text_of the.AdditionalSignature = codes "additional-signature"
text_of the.Router = codes "router"
text_of the.IdentityEd25519 = codes "identity-ed25519"
text_of the.MasterKeyEd25519 = codes "master-key-ed25519"
text_of the.Platform = codes "platform"
text_of the.Uptime = codes "uptime"
text_of the.Bandwidth = codes "bandwidth"
text_of the.Hibernating = codes "hibernating"
text_of the.OnionKey = codes "onion-key"
text_of the.SigningKey = codes "signing-key"
text_of the.NtorOnionKey = codes "ntor-onion-key"
text_of the.Accept = codes "accept"
text_of the.Reject = codes "reject"
text_of the.Ipv6Policy = codes "ipv6-policy"
text_of the.Family = codes "family"
text_of the.OrAddress = codes "or-address"
text_of the.TunnelledDirServer = codes "tunnelled-dir-server"
text_of the.Proto = codes "proto"
text_of the.RouterSigEd25519 = codes "router-sig-ed25519"
text_of the.RouterSignature = codes "router-signature"
text_of the.P6 = codes "p6"
text_of the.Station = codes "station"
text_of the.Own = codes "own"
text_of the.Schedule = codes "schedule"
text_of the.Authority = codes "authority"
text_of the.Rule = codes "rule"
text_of the.Measured = codes "measured"
text_of the.EndStation = codes "end-station"
text_of the.FamilyIds = codes "family-ids"

-- all of them
abbrev pub known_keywords : List Keyword
known_keywords =
    the.R ∷ the.A ∷ the.S ∷ the.V ∷ the.Pr ∷ the.W ∷ the.P ∷ the.M ∷ the.Id ∷
    the.NetworkStatusVersion ∷ the.VoteStatus ∷ the.ConsensusMethods ∷ the.ConsensusMethod ∷ the.Published ∷
    the.ValidAfter ∷ the.FreshUntil ∷ the.ValidUntil ∷ the.VotingDelay ∷ the.ClientVersions ∷ the.ServerVersions ∷
    the.KnownFlags ∷ the.FlagThresholds ∷ the.RecommendedClientProtocols ∷ the.RecommendedRelayProtocols ∷
    the.RequiredClientProtocols ∷ the.RequiredRelayProtocols ∷ the.Params ∷ the.SharedRandPreviousValue ∷
    the.SharedRandCurrentValue ∷
    the.DirSource ∷ the.Contact ∷ the.VoteDigest ∷ the.DirectoryFooter ∷ the.BandwidthWeights ∷
    the.DirectorySignature ∷
    the.DirKeyCertificateVersion ∷ the.DirAddress ∷ the.Fingerprint ∷ the.DirIdentityKey ∷ the.DirKeyPublished ∷
    the.DirKeyExpires ∷ the.DirSigningKey ∷ the.DirKeyCrosscert ∷ the.DirKeyCertification ∷
    the.ConsensusDigest ∷ the.AdditionalDigest ∷ the.AdditionalSignature ∷
    the.Router ∷ the.IdentityEd25519 ∷ the.MasterKeyEd25519 ∷ the.Platform ∷ the.Uptime ∷ the.Bandwidth ∷
    the.Hibernating ∷ the.OnionKey ∷ the.SigningKey ∷ the.NtorOnionKey ∷ the.Accept ∷ the.Reject ∷ the.Ipv6Policy ∷
    the.Family ∷ the.OrAddress ∷ the.TunnelledDirServer ∷ the.Proto ∷ the.RouterSigEd25519 ∷ the.RouterSignature ∷
    the.P6 ∷
    the.Station ∷ the.Own ∷ the.Schedule ∷ the.Authority ∷ the.Rule ∷ the.Measured ∷ the.EndStation ∷
    the.FamilyIds ∷ []

-- the first keyword of a list that has this text
abbrev pub among : List ℕ → List Keyword → Option Keyword
among text words = find (λ word. pointwise nat_eq text (text_of word)) words

-- the keyword that has this text
unfoldable pub word_of : List ℕ → Option Keyword
word_of text = among text known_keywords

-- whether two keywords are one
unfoldable pub same : Keyword → Keyword → Bool
same = sameb the_type
