-- Who signed a consensus.
use Rattle.std.specs.Prelude.{◌≡◌, ℕ, Bool, List, [], map, filter, Option, Some, None, codes, slice_range}
use Rattle.std.specs.Str.{bytes_eq}
use Rattle.sha2.specs.Sha256.{sha256}
use Rattle.key_port.specs.Answers.{Rules}
use Rattle.consensus_terms.specs.declared.consensus.SignedConsensus.{SignedConsensus}
use Rattle.consensus_terms.specs.declared.signature.SignatureLine.{SignatureLine}
use Rattle.detached_sigs.specs.{declared.key.SignerKey.SignerKey, Signers.AreSigners}
use Rattle.mirror_core.specs.States.{KeptCert}

-- the authority of a certificate, with the signing key
abbrev pub key_of : KeptCert → SignerKey
key_of kept = record { authority = kept.cert.fingerprint; key = kept.cert.signing_key }

-- the keys of certificates
abbrev pub keys_of : List KeptCert → List SignerKey
keys_of certs = map key_of certs

-- whether the signature of a line is over a SHA-256
abbrev pub is_sha256 : SignatureLine → Bool
is_sha256 line = bytes_eq line.algorithm (codes "sha256")

-- the lines whose signatures are over a SHA-256
abbrev pub sha256_lines : List SignatureLine → List SignatureLine
sha256_lines lines = filter is_sha256 lines

-- The signers, of keys, of the part of these bytes that is signed; none where no part is.
abbrev pub SignedPart : Rules → List SignerKey → List SignatureLine → List ℕ → Option (ℕ × ℕ) → List SignerKey → Type 0
SignedPart rules keys lines bytes None signers = signers ≡ []
SignedPart rules keys lines bytes (Some (begin, end)) signers =
    AreSigners rules (sha256 (slice_range bytes begin end)) keys lines signers

-- the signers of a consensus that was read from these bytes
abbrev pub AreSignersOf : Rules → List SignerKey → List ℕ → SignedConsensus → List SignerKey → Type 0
AreSignersOf rules keys bytes consensus signers =
    SignedPart rules keys (sha256_lines consensus.signatures) bytes consensus.signed signers
