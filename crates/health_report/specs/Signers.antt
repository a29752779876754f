-- Who signed a consensus, of the authorities whose votes are held (dir-spec, "Serving and fetching detached
-- signatures").
use Rattle.std.specs.Prelude.{◌≡◌, ℕ, Bool, List, [], map, filter, Option, Some, None, codes, slice_range}
use Rattle.std.specs.Str.{bytes_eq}
use Rattle.sha1.specs.Sha1.{sha1}
use Rattle.key_port.specs.Answers.{Rules}
use Rattle.vote_terms.specs.Votes.{ReadVote}
use Rattle.consensus_terms.specs.declared.signature.SignatureLine.{SignatureLine}
use Rattle.detached_sigs.specs.{declared.key.SignerKey.SignerKey, Signers.AreSigners}

-- the authority of a vote, with the signing key of its certificate
abbrev pub key_of : ReadVote → SignerKey
key_of vote = record { authority = vote.says.identity; key = vote.says.certificate.signing_key }

-- whether the signature of a line is over a SHA-1
abbrev pub is_sha1 : SignatureLine → Bool
is_sha1 line = bytes_eq line.algorithm (codes "sha1")

-- the lines whose signatures are over a SHA-1
abbrev pub sha1_lines : List SignatureLine → List SignatureLine
sha1_lines lines = filter is_sha1 lines

-- The signers, of the authorities of votes, of the part of these bytes that is signed; none where no part is.
abbrev pub SignedPart : Rules → List ReadVote → List SignatureLine → List ℕ → Option (ℕ × ℕ) → List SignerKey → Type 0
SignedPart rules votes lines bytes None signers = signers ≡ []
SignedPart rules votes lines bytes (Some (begin, end)) signers =
    AreSigners rules (sha1 (slice_range bytes begin end)) (map key_of votes) (sha1_lines lines) signers
