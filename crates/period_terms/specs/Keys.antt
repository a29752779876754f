-- The keys that signatures are checked with.
use Rattle.vote_terms.specs.Votes.{ReadVote}
use Rattle.detached_sigs.specs.declared.key.SignerKey.{SignerKey}

-- the signing key of a held vote
abbrev pub signer_key : ReadVote → SignerKey
signer_key vote = record { authority = vote.says.identity; key = vote.says.certificate.signing_key }
